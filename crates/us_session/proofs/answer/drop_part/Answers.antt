use Rattle.std.proofs.Common.{rules, not, ap, ◌∙◌}
use Rattle.std.specs.Prelude.{◌==◌}
use Rattle.std.proofs.lemmas.Fn.{filter_same}
use Rattle.us_model.specs.Sessions.{without}
use Rattle.us_session.proofs.answer.drop_part.Goals as goal

pub returns : goal.returns
returns c =
    c.of.ensures
    ∙ (filter_same _ (λ p. not (p == c.args.part)) _ (λ x b f' k. search rules) _ _ c.retain.ensures.filtered
    ∙ ap (without c.args.part) c.into_vec-pending.ensures)
