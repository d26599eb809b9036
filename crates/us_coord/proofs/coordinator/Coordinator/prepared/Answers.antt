use Rattle.std.proofs.Common.{sym, subst}
use Rattle.us_model.specs.State.{Coordinator}
use Rattle.us_model.specs.Sessions.{prepared}
use Rattle.us_coord.specs.Order.{Concerns}
use Rattle.us_coord.specs.Table.{found_in}
use Rattle.us_coord.proofs.Concerned.{prepared_concerns}
use Rattle.us_coord.proofs.coordinator.Coordinator.prepared.Goals as goal

pub turn_of-requires-clause-concerns : goal.turn_of-requires-clause-concerns
turn_of-requires-clause-concerns c =
    let tid = c.args.tid in
    let ss = c.self.inside.sessions.items in
    subst (λ n. Concerns (prepared c.args.one.part tid c.args.one.ts) n c.args.self.now.sessions) (sym c.session_of-session.ensures)
    (subst (λ (k : Coordinator). Concerns (prepared c.args.one.part tid c.args.one.ts) (found_in c.self.inside.table tid.seq) k.sessions) c.self.view_is
    (prepared_concerns (found_in c.self.inside.table) c.self.inside.seq c.args.one.part tid c.args.one.ts ss c.self.invariant.found))
