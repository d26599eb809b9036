use Rattle.std.proofs.Common.{inl, inr, arith}
use Rattle.std.proofs.lemmas.List.{length-map}
use Rattle.std.proofs.lemmas.Bool.{ltb-true, ltb-false}
use Rattle.us_schedule.proofs.Grammar.{said_other}
use Rattle.us_schedule.proofs.reading.line_of.Goals as goal
use Rattle.us_schedule.proofs.reading.line_of.Goals.{in_default-via-then-words-lt2, in_default-via-else-words-lt2+else-words-lt3+else-words-lt4+else-words-lt5+else-words-lt6}

pub returns-in_default : goal.returns-in_default
returns-in_default c =
    let len = length-map c.args.words.now (λ w. w.now) in
    said_other c.args.shape _ (elim c.in_default.branch [
      | in_default-via-then-words-lt2 w ↦ inl (omega (arith, len, ltb-true))
      | in_default-via-else-words-lt2+else-words-lt3+else-words-lt4+else-words-lt5+else-words-lt6 w ↦ inr (omega (arith, len, ltb-false))
    ])
