use Rattle.std.proofs.Common.{◌≡◌, ◌∙◌, ap, sym, subst}
use Rattle.us_model.specs.State.{Coordinator}
use Rattle.us_model.specs.Sessions.{run_session}
use Rattle.us_model.specs.Coordinators.{Coordinated, each_acts, context_of}
use Rattle.us_coord.specs.declared.marks.Marked.TheVariants as marked
use Rattle.us_coord.specs.Marks.{AreIdle}
use Rattle.us_coord.proofs.Idle.{idle_each, nobody_acts}
use Rattle.us_coord.proofs.coordinator.Coordinator.run.Goals as goal

pub returns-in-Nobody-clause-coordinator : goal.returns-in-Nobody-clause-coordinator
returns-in-Nobody-clause-coordinator c =
    let ss = c.self.inside.sessions.items in
    let k : Coordinator = record { seq = c.self.inside.seq; opens = c.self.inside.opens; sessions = ss } in
    let idle : AreIdle marked.Nobody ss = subst (λ m. AreIdle m ss) c.in-Nobody.is c.self.invariant.idle in
    let same = nobody_acts c.args.catalog.now c.args.view.now k c.args.out c.self.invariant.order idle in
    sym
    (ap (λ (a : Coordinated). a.coordinator)
    (subst (λ (x : Coordinator). each_acts (run_session c.args.catalog.now) c.args.view.now x c.args.out ≡ record { coordinator = x; out = c.args.out })
    c.self.view_is same))

pub returns-in-Nobody-clause-out : goal.returns-in-Nobody-clause-out
returns-in-Nobody-clause-out c =
    let ss = c.self.inside.sessions.items in
    let k : Coordinator = record { seq = c.self.inside.seq; opens = c.self.inside.opens; sessions = ss } in
    let idle : AreIdle marked.Nobody ss = subst (λ m. AreIdle m ss) c.in-Nobody.is c.self.invariant.idle in
    let same = nobody_acts c.args.catalog.now c.args.view.now k c.args.out c.self.invariant.order idle in
    sym
    (ap (λ (a : Coordinated). a.out)
    (subst (λ (x : Coordinator). each_acts (run_session c.args.catalog.now) c.args.view.now x c.args.out ≡ record { coordinator = x; out = c.args.out })
    c.self.view_is same))

pub invariant_of-self : goal.invariant_of-self
invariant_of-self c =
    let d = context_of c.args.view.now c.args.self.now c.args.out in
    let after = ap (λ (k : Coordinator). k.sessions) (c.self-2.view_is ∙ c.in_ok-out.ensures.coordinator) in
    record {
      order = c.self-2.invariant.order;
      found = c.self-2.invariant.found;
      idle = subst (AreIdle marked.Nobody) (sym after) (idle_each c.args.catalog.now d c.args.self.now.sessions);
    }
