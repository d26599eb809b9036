use Rattle.std.proofs.Common.{refl, ap, sym, subst, rules}
use Rattle.us_model.specs.State.{Coordinator}
use Rattle.us_model.specs.Coordinators.{Coordinated}
use Rattle.us_coord.specs.Order.{InOrder, StandsAt}
use Rattle.us_coord.specs.Steps.{acts}
use Rattle.us_coord.specs.Marks.{AreIdle}
use Rattle.us_coord.proofs.Acts.{acts-number}
use Rattle.us_coord.specs.Table.{Ascends}
use Rattle.us_coord.proofs.Found.{in_order_ascends}
use Rattle.us_coord.proofs.Idle.{turn_idle}
use Rattle.us_coord.proofs.Visits.{TurnAt, absent_acts, given_acts, turn_in_order}
use Rattle.us_coord.proofs.coordinator.Coordinator.turn_of.Goals as goal

pub returns-in_default-clause-coordinator : goal.returns-in_default-clause-coordinator
returns-in_default-clause-coordinator c =
    let h : InOrder 0 c.args.self.now.sessions c.args.self.now.opens = search rules in
    sym
    (ap (λ (a : Coordinated). a.coordinator)
    (absent_acts (acts c.args.turn.now) c.args.view.now c.args.self.now c.args.out c.args.number 0 c.args.self.now.opens h
    (c.in_default.ensures.absent refl) c.requires.concerns))

pub returns-in_default-clause-out : goal.returns-in_default-clause-out
returns-in_default-clause-out c =
    let h : InOrder 0 c.args.self.now.sessions c.args.self.now.opens = search rules in
    sym
    (ap (λ (a : Coordinated). a.out)
    (absent_acts (acts c.args.turn.now) c.args.view.now c.args.self.now c.args.out c.args.number 0 c.args.self.now.opens h
    (c.in_default.ensures.absent refl) c.requires.concerns))

pub invariant_of-self-2 : goal.invariant_of-self-2
invariant_of-self-2 c =
    let f = acts c.args.turn.now in
    let n = c.args.number in
    let i = c.in-Some.place in
    let d = c.context_of-context.result in
    let d' = c.one.new.context in
    let ss = c.self.inside.sessions.items in
    let ss' = c.one.new.sessions.items in
    let at : StandsAt n ss i = subst (λ (k : Coordinator). StandsAt n k.sessions i) (sym c.self.view_is) c.in-Some.ensures.found in
    let here : TurnAt f d c.replace-sessions.result.items i d' ss' =
    record { context = c.in_ok-one.ensures.context; sessions = c.in_ok-one.ensures.sessions } in
    let there = subst (λ xs. TurnAt f d xs i d' ss') (ap (λ v. v.items) c.replace-sessions.ensures.value) here in
    record {
      order = turn_in_order f (acts-number c.args.turn.now) c.self.inside.opens n i d d' ss ss' c.self.invariant.order at there;
      idle =
          subst (λ m. AreIdle m ss') (sym c.marking-self-inside.ensures)
          (turn_idle f (acts-number c.args.turn.now) c.self.inside.marked n i d d' ss ss' at there c.self.invariant.idle);
      found = c.in_ok-one.ensures.found;
    }

pub returns-clause-coordinator : goal.returns-clause-coordinator
returns-clause-coordinator c =
    let k : Coordinator = record { seq = c.self.inside.seq; opens = c.self.inside.opens; sessions = c.self.inside.sessions.items } in
    let turn : TurnAt (acts c.args.turn.now) c.context_of-context.result c.replace-sessions.result.items c.in-Some.place c.one.new.context
    c.one.new.sessions.items = record { context = c.in_ok-one.ensures.context; sessions = c.in_ok-one.ensures.sessions } in
    ap (λ (a : Coordinated). a.coordinator)
    (given_acts (acts c.args.turn.now) c.args.view.now k c.args.self.now c.args.out c.args.number c.in-Some.place c.context_of-context.result
    c.one.new.context c.replace-sessions.result.items c.one.new.sessions.items c.self.view_is c.self.invariant.order c.in-Some.ensures.found
    c.requires.concerns c.context_of-context.ensures (ap (λ v. v.items) c.replace-sessions.ensures.value) turn)

pub returns-clause-out : goal.returns-clause-out
returns-clause-out c =
    let k : Coordinator = record { seq = c.self.inside.seq; opens = c.self.inside.opens; sessions = c.self.inside.sessions.items } in
    let turn : TurnAt (acts c.args.turn.now) c.context_of-context.result c.replace-sessions.result.items c.in-Some.place c.one.new.context
    c.one.new.sessions.items = record { context = c.in_ok-one.ensures.context; sessions = c.in_ok-one.ensures.sessions } in
    ap (λ (a : Coordinated). a.out)
    (given_acts (acts c.args.turn.now) c.args.view.now k c.args.self.now c.args.out c.args.number c.in-Some.place c.context_of-context.result
    c.one.new.context c.replace-sessions.result.items c.one.new.sessions.items c.self.view_is c.self.invariant.order c.in-Some.ensures.found
    c.requires.concerns c.context_of-context.ensures (ap (λ v. v.items) c.replace-sessions.ensures.value) turn)

pub one-requires-clause-ascend : goal.one-requires-clause-ascend
one-requires-clause-ascend c =
    subst (Ascends 0) (sym (ap (λ v. v.items) c.replace-sessions.ensures.value))
    (in_order_ascends 0 c.self.inside.opens c.self.inside.sessions.items c.self.invariant.order)
