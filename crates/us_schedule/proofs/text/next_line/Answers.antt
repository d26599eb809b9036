use Rattle.std.proofs.Common.{sym}
use Rattle.us_schedule.proofs.Cuts.{first_last, first_at, lines_after, rest_is, rest_empty}
use Rattle.us_schedule.proofs.text.next_line.Goals as goal

pub returns-in_default-clause-first : goal.returns-in_default-clause-first
returns-in_default-clause-first c = rw rest_empty (first_last c.args.text.now (sym c.if-is_empty.ensures) c.in_default.ensures.none)

pub returns-in_default-clause-lines : goal.returns-in_default-clause-lines
returns-in_default-clause-lines c = lines_after _ _ _ (returns-in_default-clause-first c)

pub returns-clause-first : goal.returns-clause-first
returns-clause-first c =
    rw rest_is (first_at c.args.text.now c.without_carriage_return.result.now c.in-Some.end c.in-Some.ensures.within c.in-Some.ensures.found c.in-Some.ensures.first c.without_carriage_return.ensures)

pub returns-clause-lines : goal.returns-clause-lines
returns-clause-lines c = lines_after _ _ _ (returns-clause-first c)
