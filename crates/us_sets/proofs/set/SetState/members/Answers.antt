use Rattle.std.proofs.Common.{◌≡◌, map, ap, ◌∙◌, rules}
use Rattle.std.proofs.lemmas.Map.Iter.{iter_end}
use Rattle.std.specs.FinMap.{entries}
use Rattle.std.specs.Map.Iter.{deref_pair}
use Rattle.us_sets.specs.Keys.{keys_where}
use Rattle.us_sets.specs.Marks.{is_live}
use Rattle.us_sets.proofs.Views.{members-view}
use Rattle.us_sets.proofs.set.SetState.members.Goals as goal

pub returns : goal.returns
returns c =
    let all : map deref_pair c.loop-value.yielded ≡ c.self.inside.elements.entries = search (rules, iter_end) in
    c.loop-value.invariant ∙ ap (keys_where is_live) all
    ∙ members-view c.self.inside.elements.entries c.into_iter-value-iterator.ensures.into_iter_gives.5 ∙ ap (λ s. keys_where is_live (entries s)) c.self.view_is
