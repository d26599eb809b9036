use Rattle.std.proofs.Common.{rules}
use Rattle.std.proofs.lemmas.Fn.{filter_same}
use Rattle.us_model.specs.Partitions.{stays_above}
use Rattle.us_part.proofs.partition.keep_above.Goals as goal

pub returns : goal.returns
returns c = filter_same _ (stays_above c.args.floor.now) _ (λ x b f' k. search rules) _ _ c.retain.ensures.filtered
