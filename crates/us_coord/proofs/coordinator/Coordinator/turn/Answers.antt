use Rattle.std.proofs.Common.{◌≡◌, ◌∙◌, ap, sym, subst}
use Rattle.us_model.specs.Coordinators.{each_session, remembered}
use Rattle.us_coord.specs.Order.{InOrder}
use Rattle.us_coord.specs.Steps.{acts}
use Rattle.us_coord.proofs.Acts.{acts-number}
use Rattle.us_coord.specs.Table.{Ascends}
use Rattle.us_coord.proofs.Found.{in_order_ascends}
use Rattle.us_coord.proofs.Idle.{all_marked}
use Rattle.us_coord.proofs.Visits.{in_order_each}
use Rattle.us_coord.proofs.coordinator.Coordinator.turn.Goals as goal

pub invariant_of-self-2 : goal.invariant_of-self-2
invariant_of-self-2 c =
    let f = acts c.args.turn.now in
    let ss = c.self.inside.sessions.items in
    let d = c.context_of-context.result in
    let left : c.all.new.sessions.items ≡ remembered (each_session f d ss).sessions =
    c.in_ok-all.ensures.sessions ∙ ap (λ v. remembered (each_session f d v.items).sessions) c.replace-sessions.ensures.value in
    record {
      order =
          subst (λ xs. InOrder 0 xs c.self.inside.opens) (sym left)
          (in_order_each f (acts-number c.args.turn.now) 0 c.self.inside.opens d ss c.self.invariant.order);
      idle = all_marked c.all.new.sessions.items;
      found = c.in_ok-all.ensures.found;
    }

pub all-requires-clause-ascend : goal.all-requires-clause-ascend
all-requires-clause-ascend c =
    subst (Ascends 0) (sym (ap (λ v. v.items) c.replace-sessions.ensures.value))
    (in_order_ascends 0 c.self.inside.opens c.self.inside.sessions.items c.self.invariant.order)
