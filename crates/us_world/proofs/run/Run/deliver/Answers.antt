use Rattle.std.proofs.Common.{◌≡◌, ◌+◌, ◌-◌, arith}
use Rattle.us_world.specs.WorldState.{after_delivery}
use Rattle.us_world.specs.Lines.{IsDelivery}
use Rattle.us_world.proofs.Flushing.{one_delivery}
use Rattle.us_world.proofs.WorldEvents.{one_goes, one_stops}
use Rattle.us_world.proofs.run.Run.deliver.Goals as goal

pub returns-clause-delivered : goal.returns-clause-delivered
returns-clause-delivered c =
    let number = c.args.number in
    let old = c.args.self.now in
    let come = c.deliver_at.ensures in
    let other = c.if-number-eq0.false in
    let next : number ≡ (number - 1) + 1 = omega arith in
    one_goes c.deliver_at.result (IsDelivery number) old (after_delivery (number - 1) come.sent old) c.deliver_at.new.self
    (one_delivery old (number - 1) number come.sent come.at next) come.after come.limit

pub returns-clause-stopped : goal.returns-clause-stopped
returns-clause-stopped c =
    let number = c.args.number in
    let old = c.args.self.now in
    let come = c.deliver_at.ensures in
    let other = c.if-number-eq0.false in
    let next : number ≡ (number - 1) + 1 = omega arith in
    one_stops c.deliver_at.result (IsDelivery number) old (after_delivery (number - 1) come.sent old)
    (one_delivery old (number - 1) number come.sent come.at next) come.limit
