use Rattle.std.proofs.Common.{◌≡◌, ◌++◌, ◌∷◌, [], ◌∙◌, List, Option, Some, ap, sym, subst, is_ok, length, ◌<◌, vec_capacity, arith}
use Rattle.us_edge.specs.Links.{Connections, IsOpen}
use Rattle.us_edge.specs.MemoryLinks.{MemoryLinks}
use Rattle.us_edge.specs.declared.links.Dropped.{Dropped}
use Rattle.us_edge.proofs.Connections.{dropped_in_order, pushed_ok, room_for_drop}
use Rattle.us_edge.proofs.memory_links.MemoryLinksLinks.drop_client.Goals as goal
use Rattle.us_edge.proofs.memory_links.MemoryLinksLinks.drop_client.Goals.{After-push}

-- the connection is open as the fields stand
open_inside : (c : After-push) → IsOpen (Some (record { opened = c.self.inside.opened.items; dropped = c.self.inside.dropped.items })) c.args.conn
open_inside c =
    let P : MemoryLinks → Type 0 = λ m. IsOpen (Some m.connections) c.args.conn in
    subst P (sym c.self.view_is) c.requires.open

room : (c : After-push) → length c.self.inside.dropped.items < vec_capacity c.self.inside.dropped
room c = room_for_drop c.self.inside.inputs.items c.self.inside.opened.items c.self.inside.dropped.items (vec_capacity c.self.inside.dropped) c.args.conn (open_inside c) c.self.invariant

-- there was room for the drop, so it stands at the end
dropped : (c : After-push) → c.push.new.self.items ≡ c.self.inside.dropped.items ++ record { conn = c.args.conn; before = c.offered_before-before.result } ∷ []
dropped c =
    pushed_ok (is_ok c.push.result) c.push.new.self.items c.self.inside.dropped.items _ c.push.ensures.items (c.push.ensures.succeeds (omega (arith, room c)))

pub invariant_of-self : goal.invariant_of-self
invariant_of-self c =
    dropped_in_order c.self.inside.inputs.items c.self.inside.opened.items c.self.inside.dropped.items c.push.new.self.items _ _ (record { conn = c.args.conn; before = c.offered_before-before.result }) (dropped c) c.push.ensures.capacity (open_inside c) c.self.invariant

pub returns-clause-drops : goal.returns-clause-drops
returns-clause-drops c = (invariant_of-self c).drops

pub returns-clause-dropped : goal.returns-clause-dropped
returns-clause-dropped c =
    let d : Dropped = record { conn = c.args.conn; before = c.offered_before-before.result } in
    let told : List Dropped → Option Connections = λ drops. Some (record { opened = c.self.inside.opened.items; dropped = drops }) in
    let with_drop : MemoryLinks → Option Connections = λ m. Some (record { opened = m.connections.opened; dropped = m.connections.dropped ++ d ∷ [] }) in
    (c.offered_before-before.result, ap told (dropped c) ∙ ap with_drop c.self.view_is, c.offered_before-before.ensures)
