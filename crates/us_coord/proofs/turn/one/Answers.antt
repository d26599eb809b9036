use Rattle.std.proofs.Common.{◌≡◌, ap, sym, subst, ◌∙◌, true, rules}
use Rattle.std.proofs.lemmas.List.{get_or_default}
use Rattle.us_model.specs.Coordinators.{is_over}
use Rattle.us_model.specs.Sessions.{SessionStep}
use Rattle.us_coord.specs.Order.{put_back}
use Rattle.us_coord.specs.Steps.{acts}
use Rattle.us_coord.specs.Table.{AreFound, found_in}
use Rattle.us_coord.proofs.Acts.{acts-number, acts-goes}
use Rattle.us_coord.proofs.Found.{found_turn, found_left, over_put_back}
use Rattle.us_coord.proofs.turn.one.Goals as goal

pub returns-else-is_over-clause-found : goal.returns-else-is_over-clause-found
returns-else-is_over-clause-found c =
    found_turn (acts c.args.turn.now) (acts-number c.args.turn.now) (acts-goes c.args.turn.now) (found_in c.args.table.now) (found_in c.take_turn.new.table)
    c.args.context.now c.take_turn.new.context 0 c.args.sessions.now.items c.args.place c.index_mut.result.now c.take_turn.new.session c.requires.place
    c.index_mut.ensures.value c.in_ok-take_turn.ensures.step c.requires.ascend c.requires.found c.in_ok-take_turn.ensures.table

pub returns-then-is_over-clause-found : goal.returns-then-is_over-clause-found
returns-then-is_over-clause-found c =
    let found = found_turn (acts c.args.turn.now) (acts-number c.args.turn.now) (acts-goes c.args.turn.now) (found_in c.args.table.now)
    (found_in c.take_turn.new.table) c.args.context.now c.take_turn.new.context 0 c.args.sessions.now.items c.args.place c.index_mut.result.now
    c.take_turn.new.session c.requires.place c.index_mut.ensures.value c.in_ok-take_turn.ensures.step c.requires.ascend c.requires.found
    c.in_ok-take_turn.ensures.table in
    subst (AreFound (found_in c.take_turn.new.table) c.take_turn.new.context.seq) (sym c.remove.ensures.items)
    (found_left (found_in c.take_turn.new.table) c.take_turn.new.context.seq _ c.args.place found)

pub returns-then-is_over-clause-sessions : goal.returns-then-is_over-clause-sessions
returns-then-is_over-clause-sessions c s is =
    let f = acts c.args.turn.now in
    let d = c.args.context.now in
    let same : c.index_mut.result.now ≡ s = c.index_mut.ensures.value
    ∙ get_or_default c.args.sessions.now.items c.args.place c.index_mut.result.now s c.requires.place
    ∙ sym is in
    let session : c.take_turn.new.session ≡ (f d s).session = ap (λ (a : SessionStep). a.session) (c.in_ok-take_turn.ensures.step ∙ ap (f d) same) in
    let over : is_over c.take_turn.new.session ≡ true = search rules in
    c.remove.ensures.items
    ∙ over_put_back c.args.sessions.now.items c.args.place c.take_turn.new.session over
    ∙ ap (put_back c.args.sessions.now.items c.args.place) session
