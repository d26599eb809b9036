use Rattle.std.proofs.Common.{refl}
use Rattle.std.specs.Fmt.{digits}
use Rattle.std.specs.Str.{is_utf8, chars}
use Rattle.toml.proofs.OnLiterals.{toml_on_literals}
use Rattle.us_config.proofs.laws.worked_configurations.Goals as goal

pub returns : goal.returns
unfolding toml_on_literals is_utf8 chars digits
returns c = record { empty = refl; counter = refl; no_toml = refl; no_text = refl; unknown_first = refl; even_sites = refl; set_takes = refl; earlier_space = refl; node_last = refl }
