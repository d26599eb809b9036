use Rattle.std.proofs.Common.{rules, not}
use Rattle.std.proofs.lemmas.Fn.{filter_same}
use Rattle.us_model.specs.Partitions.{may_answer}
use Rattle.us_part.proofs.partition.keep_unknown.Goals as goal

pub returns : goal.returns
returns c = filter_same _ (λ q. not (may_answer c.args.known.now q)) _ (λ x b f' k. search rules) _ _ c.retain.ensures.filtered
