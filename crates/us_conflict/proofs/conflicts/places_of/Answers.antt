use Rattle.us_conflict.specs.Places.{place_of}
use Rattle.us_value.specs.declared.operation.Class.TheVariants.{Read}
use Rattle.us_conflict.proofs.PlaceLemmas.{after_put}
use Rattle.us_conflict.proofs.conflicts.places_of.Goals as goal

pub loop-pair-preserved : goal.loop-pair-preserved
loop-pair-preserved c space a b =
    after_put c.loop-pair.places c.insert.new.self c.place.result c.args.pairs.now c.loop-pair.pair-index (0, Read, Read) space a b _ c.loop-pair-test.true c.place.ensures
    (c.in_ok-insert.ensures.updates.0 (place_of space a b)) (c.loop-pair.invariant space a b)
