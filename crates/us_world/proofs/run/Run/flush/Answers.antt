use Rattle.std.proofs.lemmas.Result.{err_from_is_err_and}
use Rattle.us_world.proofs.Flushing.{delivered_more, delivered_stops, delivered_all}
use Rattle.us_world.proofs.run.Run.flush.Goals as goal

pub loop-place-preserved : goal.loop-place-preserved
loop-place-preserved c =
    let come = c.in_ok-deliver_at.ensures in
    delivered_more c.args.from c.args.to c.args.self.now c.loop-place.self c.next_due.new.self c.deliver_at.new.self c.in-Some.place come.sent
    c.loop-place.invariant (record { same = c.next_due.ensures.same; due = c.in-Some.ensures.due }) come.at come.after come.limit

pub returns-in_err-deliver_at-clause-stopped : goal.returns-in_err-deliver_at-clause-stopped
returns-in_err-deliver_at-clause-stopped c =
    let come = c.in_err-deliver_at.ensures in
    let p = err_from_is_err_and c.from_residual.result c.from_residual.ensures.1 in
    rw (p.1, p.2) (delivered_stops c.in_err-deliver_at.field-0.0 c.args.from c.args.to c.args.self.now c.loop-place.self c.next_due.new.self
    c.in-Some.place come.sent c.loop-place.invariant (record { same = c.next_due.ensures.same; due = c.in-Some.ensures.due }) come.at come.limit)

pub returns-clause-flushed : goal.returns-clause-flushed
returns-clause-flushed c =
    delivered_all c.args.from c.args.to c.args.self.now c.loop-place.self c.next_due.new.self c.loop-place.invariant c.next_due.ensures.same
    c.in_default.ensures.due
