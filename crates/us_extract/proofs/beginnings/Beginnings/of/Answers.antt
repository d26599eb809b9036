use Rattle.std.proofs.Common.{◌∙◌, ap, slice_get}
use Rattle.us_history.specs.Histories.{begun_of}
use Rattle.us_extract.proofs.Places.{begun_none, begun_at}
use Rattle.us_extract.proofs.beginnings.Beginnings.of.Goals as goal

pub returns-in-None : goal.returns-in-None
returns-in-None c =
    begun_none c.args.tid.now c.self.inside.list.items c.self.inside.tids c.of.result.now c.self.invariant c.of.ensures c.in-None.ensures.value
    ∙ ap (begun_of c.args.tid.now) c.self.view_is

pub returns-in-Some : goal.returns-in-Some
returns-in-Some c =
    begun_at c.args.tid.now c.self.inside.list.items c.self.inside.tids c.of.result.now c.in-Some.place.now c.at_place.result c.self.invariant
    c.of.ensures c.in-Some.ensures.value
    (c.at_place.ensures ∙ ap (λ xs. slice_get xs c.in-Some.place.now) c.as_slice.ensures.value)
    ∙ ap (begun_of c.args.tid.now) c.self.view_is
