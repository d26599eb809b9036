use Rattle.std.proofs.Common.{sym, subst}
use Rattle.us_model.specs.State.{Coordinator}
use Rattle.us_model.specs.Sessions.{version}
use Rattle.us_coord.specs.Order.{Concerns}
use Rattle.us_coord.specs.Table.{found_in}
use Rattle.us_coord.proofs.Concerned.{version_concerns}
use Rattle.us_coord.proofs.coordinator.Coordinator.version.Goals as goal

pub turn_of-requires-clause-concerns : goal.turn_of-requires-clause-concerns
turn_of-requires-clause-concerns c =
    let v = c.args.received.now in
    let ss = c.self.inside.sessions.items in
    subst (λ n. Concerns (version v) n c.args.self.now.sessions) (sym c.session_of-session.ensures)
    (subst (λ (k : Coordinator). Concerns (version v) (found_in c.self.inside.table v.tid.seq) k.sessions) c.self.view_is
    (version_concerns (found_in c.self.inside.table) c.self.inside.seq v ss c.self.invariant.found))
