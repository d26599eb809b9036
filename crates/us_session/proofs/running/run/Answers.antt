use Rattle.std.proofs.Common.{◌≡◌, ◌∙◌, sym, ap, subst, length, true, false, arith, [], eqb-true}
use Rattle.us_base.specs.Shape.{IsShape}
use Rattle.us_base.specs.declared.shape.Shape.{Shape}
use Rattle.us_peer_wire.specs.declared.message.Actor.{Actor}
use Rattle.us_session.proofs.Posts.{post, request-post}
use Rattle.us_model.specs.Sessions.{SessionStep, is_nothing, run_session}
use Rattle.us_session.proofs.Turns.{run-turn, run-waits, run-empty, request-requests, taken_first, no_items}
use Rattle.us_session.proofs.running.run.Goals as goal

pub requests-smaller : goal.requests-smaller
requests-smaller c =
    let first = taken_first c.requests.session.requests c.remove-at.new.self c.remove-at.result c.remove-at.ensures.taken c.remove-at.ensures.rest in
    let kept = ap (λ (a : SessionStep). length a.session.requests) c.in_ok-perform_request.ensures ∙ ap length (request-requests _ _ _ _ _) in
    let count = ap length first in
    omega (arith, kept, count)

pub requests-preserved : goal.requests-preserved
requests-preserved c =
    let first = taken_first c.requests.session.requests c.remove-at.new.self c.remove-at.result c.remove-at.ensures.taken c.remove-at.ensures.rest in
    let e = c.in_ok-perform_request.ensures in
    let w : is_nothing c.requests.session.waits ≡ true = sym c.requests-test.ensures in
    record {
      run = ap (λ (a : SessionStep). run_session c.args.catalog.now a.context a.session) e
          ∙ (run-turn c.args.catalog.now c.requests.context c.requests.session c.remove-at.result c.remove-at.new.self w first ∙ c.requests.invariant.run);
      post = ap (λ (a : SessionStep). post a.context) e
          ∙ request-post c.args.catalog.now c.requests.context (record c.requests.session { requests = c.remove-at.new.self }) _ _
          ∙ c.requests.invariant.post;
    }

pub perform_request-requires : goal.perform_request-requires
perform_request-requires c = subst (λ (p : Actor × Shape). IsShape p.1) (sym c.requests.invariant.post) c.requires

pub returns-else-not-is_empty : goal.returns-else-not-is_empty
returns-else-not-is_empty c =
    let none : c.requests.session.requests ≡ [] = no_items _ (eqb-true _ _ (sym c.if-not-is_empty.ensures)) in
    sym (run-empty c.args.catalog.now c.requests.context c.requests.session none) ∙ c.requests.invariant.run

pub returns-after-requests : goal.returns-after-requests
returns-after-requests c =
    let w : is_nothing c.requests.session.waits ≡ false = sym c.waits_for_nothing.ensures ∙ c.requests-test.false in
    sym (run-waits c.args.catalog.now c.requests.context c.requests.session w) ∙ c.requests.invariant.run
