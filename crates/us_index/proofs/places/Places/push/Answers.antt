use Rattle.std.proofs.Common.{length, ap}
use Rattle.us_index.specs.Places.{places_under}
use Rattle.us_index.proofs.OneMore.{placed}
use Rattle.us_index.proofs.places.Places.push.Goals as goal

pub invariant_of-self-in-Ok : goal.invariant_of-self-in-Ok
invariant_of-self-in-Ok g c = λ q.
    placed (λ k. g.K.PartialEq.eq k q) c.self.inside.keys.items c.push.new.self.items c.args.key (length c.as_slice-place.result.now)
    (places_under g.K.PartialEq.eq c.self.inside.places q) (places_under g.K.PartialEq.eq c.put_under.new.places q)
    (ap length c.as_slice-place.ensures.value) c.in_ok-push.ensures.items (c.self.invariant q) (c.in-Ok.ensures.ok q)
