use Rattle.std.proofs.Common.{◌≡◌, ◌++◌, drop}
use Rattle.us_model.specs.Partitions.{versions}
use Rattle.us_part.proofs.reading.push_versions.Given as goal

-- what was pushed and what is left to answer are all answers
abbrev pub invariant-loop-question : goal.invariant-loop-question
invariant-loop-question l =
    l.packets ++ versions l.me l.catalog l.known l.log.transactions (drop l.question-index l.questions)
    ≡ l.fn.packets ++ versions l.me l.catalog l.known l.log.transactions l.questions
