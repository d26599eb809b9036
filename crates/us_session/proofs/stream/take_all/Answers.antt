use Rattle.std.proofs.Common.{arith, ◌∙◌, ap, sym, subst}
use Rattle.std.proofs.lemmas.Grind.{common_steps}
use Rattle.us_base.specs.Shape.{IsShape}
use Rattle.us_base.specs.declared.shape.Shape.{Shape}
use Rattle.us_peer_wire.specs.declared.message.Actor.{Actor}
use Rattle.us_model.specs.Sessions.{SessionStep}
use Rattle.us_session.proofs.Posts.{post, framed-post}
use Rattle.us_session.proofs.stream.take_all.Goals as goal

pub take_frame-requires : goal.take_frame-requires
take_frame-requires c = subst (λ (p : Actor × Shape). IsShape p.1) (sym c.loop-frame.invariant.post) c.requires

pub refuse_malformed-requires : goal.refuse_malformed-requires
refuse_malformed-requires c = subst (λ (p : Actor × Shape). IsShape p.1) (sym c.loop-frame.invariant.post) c.requires

pub loop-frame-preserved : goal.loop-frame-preserved
loop-frame-preserved c = record {
  frames = grind (arith, common_steps);
  post = ap (λ (a : SessionStep). post a.context) c.in_ok-take_frame.ensures ∙ framed-post c.args.catalog.now c.loop-frame.context c.loop-frame.session _
      ∙ c.loop-frame.invariant.post;
}
