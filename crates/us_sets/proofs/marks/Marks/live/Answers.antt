use Rattle.std.proofs.Common.{◌≡◌, map, ap, ◌∙◌, rules}
use Rattle.std.proofs.lemmas.Map.Iter.{iter_end}
use Rattle.std.specs.Map.Iter.{deref_pair}
use Rattle.us_sets.specs.Keys.{keys_where}
use Rattle.us_sets.specs.Marks.{is_positive, live_tags}
use Rattle.us_sets.proofs.Views.{live_tags-view}
use Rattle.us_sets.proofs.marks.Marks.live.Goals as goal

pub returns : goal.returns
returns c =
    let all : map deref_pair c.loop-tag.yielded ≡ c.self.inside.counts.entries = search (rules, iter_end) in
    c.loop-tag.invariant ∙ ap (keys_where is_positive) all
    ∙ live_tags-view c.self.inside.counts.entries c.into_iter-tag-iterator.ensures.into_iter_gives.5 ∙ ap live_tags c.self.view_is
