use Rattle.std.proofs.Common.{◌≡◌, ℕ, ◌<◌, ◌∙◌, ap, sym, subst, arith}
use Rattle.us_base.specs.Shape.{IsShape}
use Rattle.us_base.specs.declared.shape.Shape.{Shape}
use Rattle.us_model.specs.declared.coordinator.Session.{Session}
use Rattle.us_peer_wire.specs.declared.message.Actor.{Actor}
use Rattle.us_coord.specs.Steps.{acts}
use Rattle.us_model.specs.Sessions.{SessionStep}
use Rattle.us_session.proofs.Posts.{post}
use Rattle.us_coord.proofs.Acts.{acts-post, acts-number, acts-goes}
use Rattle.us_coord.proofs.Found.{ascends_set, found_turn}
use Rattle.us_coord.specs.Table.{runs, found_in, moved_on}
use Rattle.us_coord.proofs.EachSession.{each-context, each-sessions}
use Rattle.us_coord.proofs.turn.each.Goals as goal

pub loop-i-preserved : goal.loop-i-preserved
loop-i-preserved c =
    let f = acts c.args.turn.now in
    let s = c.index-sessions-i.result in
    let is = c.index-sessions-i.is in
    let d = c.loop-i.context in
    let context : c.take_turn.new.context ≡ (f d s).context = ap (λ (a : SessionStep). a.context) c.in_ok-take_turn.ensures.step
    ∙ ap (λ (x : Session). (f d x).context) (sym is) in
    let session : c.take_turn.new.session ≡ (f d s).session = ap (λ (a : SessionStep). a.session) c.in_ok-take_turn.ensures.step
    ∙ ap (λ (x : Session). (f d x).session) (sym is) in
    let same = ap (λ (x : Session). x.number) session ∙ acts-number c.args.turn.now d s in
    let step = c.in_ok-take_turn.ensures.step ∙ ap (f d) (sym is) in
    let told : (q : ℕ) → found_in c.take_turn.new.table q ≡ moved_on s.number (runs s) (runs c.take_turn.new.session) (found_in c.loop-i.table) q =
    λ q. c.in_ok-take_turn.ensures.table q
    ∙ ap (λ (x : Session). moved_on x.number (runs x) (runs c.take_turn.new.session) (found_in c.loop-i.table) q) (sym is) in
    record {
      post = ap post context ∙ acts-post c.args.turn.now d s ∙ c.loop-i.invariant.post;
      context = each-context f d c.take_turn.new.context s c.take_turn.new.session c.loop-i.sessions c.loop-i.i (omega arith) is context
          ∙ c.loop-i.invariant.context;
      sessions = each-sessions f d c.take_turn.new.context s c.take_turn.new.session c.loop-i.sessions c.loop-i.i (omega arith) is context session
          ∙ c.loop-i.invariant.sessions;
      ascend = ascends_set 0 c.loop-i.sessions c.loop-i.i s c.take_turn.new.session (omega arith) is same c.loop-i.invariant.ascend;
      found =
          found_turn f (acts-number c.args.turn.now) (acts-goes c.args.turn.now) (found_in c.loop-i.table) (found_in c.take_turn.new.table) d
          c.take_turn.new.context 0 c.loop-i.sessions c.loop-i.i s c.take_turn.new.session (omega arith) is step c.loop-i.invariant.ascend
          c.loop-i.invariant.found told;
    }

pub take_turn-requires : goal.take_turn-requires
take_turn-requires c = record {
  site = subst (λ (p : Actor × Shape). p.0.site < 10) (sym c.loop-i.invariant.post) c.requires.site;
  shape = subst (λ (p : Actor × Shape). IsShape p.1) (sym c.loop-i.invariant.post) c.requires.shape;
}
