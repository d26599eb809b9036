use Rattle.std.proofs.Common.{rules}
use Rattle.std.specs.Prelude.{not}
use Rattle.std.proofs.lemmas.Fn.{filter_same}
use Rattle.us_model.specs.Coordinators.{is_over}
use Rattle.us_coord.proofs.coordinator.forget.Goals as goal

pub returns : goal.returns
returns c = filter_same _ (λ s. not (is_over s)) _ (λ x b f' k. search rules) _ _ c.retain.ensures.filtered
