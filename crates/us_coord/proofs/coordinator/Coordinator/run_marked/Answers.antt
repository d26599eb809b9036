use Rattle.std.proofs.Common.{subst}
use Rattle.us_model.specs.State.{Coordinator}
use Rattle.us_model.specs.Sessions.{run_session}
use Rattle.us_coord.specs.declared.marks.Marked.TheVariants as marked
use Rattle.us_coord.specs.Marks.{AreIdle}
use Rattle.us_coord.specs.Order.{Concerns}
use Rattle.us_coord.proofs.Idle.{run_concerns}
use Rattle.us_coord.proofs.coordinator.Coordinator.run_marked.Goals as goal

pub turn_of-requires-clause-concerns : goal.turn_of-requires-clause-concerns
turn_of-requires-clause-concerns c =
    let n = c.in-One.number in
    let ss = c.self.inside.sessions.items in
    let idle : AreIdle (marked.One n) ss = subst (λ m. AreIdle m ss) c.in-One.is c.self.invariant.idle in
    subst (λ (k : Coordinator). Concerns (run_session c.args.catalog.now) n k.sessions) c.self.view_is (run_concerns c.args.catalog.now n ss idle)
