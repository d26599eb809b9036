use Rattle.std.proofs.Common.{◌≡◌, ◌+◌, [], ◌∷◌, ◌++◌, ap, sym, subst, ◌∙◌}
use Rattle.us_model.specs.Coordinators.{new_session}
use Rattle.us_coord.specs.Order.{InOrder}
use Rattle.us_coord.specs.Marks.{AreIdle}
use Rattle.us_coord.specs.Table.{AreFound, found_in}
use Rattle.us_coord.proofs.Found.{found_push}
use Rattle.us_coord.proofs.Idle.{idle_push}
use Rattle.us_coord.proofs.Visits.{in_order_push}
use Rattle.us_coord.proofs.coordinator.Coordinator.open.Goals as goal

pub invariant_of-self-2 : goal.invariant_of-self-2
invariant_of-self-2 c =
    let ss = c.self.inside.sessions.items in
    let opens = c.self.inside.opens in
    let number : c.in_ok-number.number ≡ opens + 1 = c.in_ok-number.ensures in
    let items : c.push-2.new.self.items ≡ ss ++ new_session (opens + 1) ∷ [] =
    c.in_ok-push-2.ensures.items ∙ ap (λ s. ss ++ s ∷ []) (c.new_session.ensures ∙ ap new_session number) in
    record {
      order =
          subst (λ n. InOrder 0 c.push-2.new.self.items n) (sym number)
          (subst (λ xs. InOrder 0 xs (opens + 1)) (sym items) (in_order_push 0 opens ss c.self.invariant.order));
      idle = subst (AreIdle c.self.inside.marked) (sym items) (idle_push c.self.inside.marked ss (opens + 1) c.self.invariant.idle);
      found =
          subst (AreFound (found_in c.self.inside.table) c.self.inside.seq) (sym items)
          (found_push (found_in c.self.inside.table) c.self.inside.seq ss (opens + 1) c.self.invariant.found);
    }
