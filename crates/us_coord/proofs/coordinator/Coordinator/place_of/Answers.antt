use Rattle.std.proofs.Common.{◌≡◌, ◌<◌, true, false, rules, length, get_or, ap, sym, subst, ◌∙◌, arith}
use Rattle.std.specs.Prelude.{nat_lt}
use Rattle.std.specs.List.Sorted.{IsPartitionPoint}
use Rattle.std.proofs.lemmas.List.Sorted.{IsPartitionPoint-from_clause}
use Rattle.std.proofs.lemmas.List.{get_or_default}
use Rattle.us_model.specs.State.{Coordinator}
use Rattle.us_model.specs.declared.coordinator.Session.{Session}
use Rattle.us_coord.specs.Order.{InOrder, Absent}
use Rattle.us_coord.proofs.Visits.{absent_at, in_order_parted}
use Rattle.us_coord.proofs.coordinator.Coordinator.place_of.Goals as goal
use Rattle.us_coord.proofs.coordinator.Coordinator.place_of.Goals.{else-place-len-via-then-place-len+else-index-number, else-place-len-via-else-place-len}

pub returns-clause-absent : goal.returns-clause-absent
returns-clause-absent c none =
    let n = c.args.number in
    let opens = c.self.inside.opens in
    let ss = c.as_slice.result.now in
    let i = c.partition_point-place.result in
    let same : ss ≡ c.self.inside.sessions.items = c.as_slice.ensures.value in
    let test = λ (s : Session). nat_lt s.number n in
    let h : InOrder 0 ss opens = subst (λ xs. InOrder 0 xs opens) (sym same) c.self.invariant.order in
    let point : IsPartitionPoint (λ s. test s ≡ true) (λ s. test s ≡ false) ss i =
    IsPartitionPoint-from_clause test ss i c.partition_point-place.ensures.partitioned (in_order_parted 0 opens n ss h) (λ a r q k. search rules) in
    let other : (d : Session) → i < length ss → (get_or ss i d).number ≡ n → ⊥ =
    λ d less e. elim c.else-place-len.branch [
      | else-place-len-via-then-place-len+else-index-number w ↦ w.if-index-number.false
          (ap (λ (s : Session). s.number)
          (w.index.ensures ∙ ap (λ xs. get_or xs i w.index.result.now) (sym same) ∙ get_or_default ss i w.index.result.now d less)
          ∙ e)
      | else-place-len-via-else-place-len w ↦
          let count : length ss ≡ c.len.result = c.as_slice.ensures.len ∙ sym c.len.ensures in
          let past = w.if-place-len.false in
          omega (arith, count, past, less)
    ] in
    subst (Absent n) (same ∙ ap (λ (k : Coordinator). k.sessions) c.self.view_is) (absent_at 0 opens n ss i h point.0 point.1 other)
