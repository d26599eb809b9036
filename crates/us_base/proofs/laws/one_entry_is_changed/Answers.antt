use Rattle.us_base.proofs.Vectors.{entry-with_same, entry-with_other}
use Rattle.us_base.proofs.laws.one_entry_is_changed.Goals as goal

pub returns : goal.returns
returns c = record { changed = entry-with_same; others = entry-with_other }
