use Rattle.std.proofs.Common.{◌≡◌, ◌∙◌, ◌<◌, ap, sym, subst, List}
use Rattle.std.specs.Prelude.{length, IfSome}
use Rattle.us_index.specs.Places.{places_of}
use Rattle.us_network.specs.declared.sent.Sent.{Sent}
use Rattle.us_network.specs.declared.sent.Pair.{Pair}
use Rattle.us_network.specs.Packets.{IsLeastDue, pair_eq, places_between, AllPassed}
use Rattle.us_network.proofs.Due.{least_due_is, place_within}
use Rattle.us_network.proofs.Kept.{front_set}
use Rattle.us_network.proofs.network.Network.next_due.Goals as goal

pub invariant_of-self : goal.invariant_of-self
invariant_of-self c =
    let sent = c.self.inside.sent.items in
    let q : Pair = record { from = c.args.from; to = c.args.to } in
    let are : c.of-places.result.now ≡ places_between q sent = c.of-places.ensures ∙ ap (places_of (λ k. pair_eq k q) 0) c.self.invariant.pairs in
    record {
      pairs = c.self.invariant.pairs;
      passed =
          front_set sent c.self.inside.fronts c.front_of.result _
          (subst (λ ps. AllPassed sent c.pass-passed.result ps) are
          (subst (λ ss. AllPassed ss c.pass-passed.result c.of-places.result.now) c.as_slice-2.ensures.value c.pass-passed.ensures.all))
          c.self.invariant.passed;
    }

pub returns-clause-due : goal.returns-clause-due
returns-clause-due c =
    let sent = c.self.inside.sent.items in
    let q : Pair = record { from = c.args.from; to = c.args.to } in
    let are : c.of-places.result.now ≡ places_between q sent = c.of-places.ensures ∙ ap (places_of (λ k. pair_eq k q) 0) c.self.invariant.pairs in
    subst (λ ss. IsLeastDue c.args.from c.args.to ss c.place_at-due.result) (c.as_slice-2.ensures.value ∙ c.self.view_is)
    (least_due_is c.args.from c.args.to c.as_slice-2.result.now c.of-places.result.now c.pass-passed.result c.place_at-due.result
    (are ∙ ap (places_between q) (sym c.as_slice-2.ensures.value)) c.pass-passed.ensures.all c.pass-passed.ensures.stops c.place_at-due.ensures)

pub returns-clause-within : goal.returns-clause-within
returns-clause-within c =
    let sent = c.self.inside.sent.items in
    let q : Pair = record { from = c.args.from; to = c.args.to } in
    let are : c.of-places.result.now ≡ places_between q sent = c.of-places.ensures ∙ ap (places_of (λ k. pair_eq k q) 0) c.self.invariant.pairs in
    subst (λ (ss : List Sent). IfSome c.place_at-due.result (λ place. place < length ss)) c.self.view_is
    (place_within q sent c.of-places.result.now c.pass-passed.result c.place_at-due.result are c.place_at-due.ensures)
