use Rattle.std.proofs.Common.{◌∙◌, ◌+◌, ◌++◌, [], ap, append_assoc, drop, get_or, slice_get}
use Rattle.us_extract.specs.PastSearch.{done_before, done_at}
use Rattle.us_extract.proofs.Places.{done_turn}
use Rattle.us_extract.proofs.performances.operations_at.Goals as goal

pub loop-place-preserved : goal.loop-place-preserved
loop-place-preserved c =
    let list = c.args.list.now in
    let places = c.args.places.now in
    let i = c.loop-place.place-index in
    let rest = done_at list (drop (i + 1) places) in
    ap (λ ops. ops ++ rest) c.in_ok-add_copy.ensures
    ∙ append_assoc c.loop-place.ops (done_before (slice_get list (get_or places i 0)) []) rest
    ∙ ap (λ ds. c.loop-place.ops ++ ds) (done_turn list places i c.loop-place-test.true)
    ∙ c.loop-place.invariant
