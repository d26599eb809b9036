use Rattle.std.proofs.Common.{◌≡◌, map, ap, sym, ◌∙◌, rules, true, arith, ◌∷◌, ◌++◌}
use Rattle.std.proofs.lemmas.Int.{ints}
use Rattle.std.proofs.lemmas.Map.Iter.{iter_end, rest_so_far, rest_more}
use Rattle.std.specs.BTreeMap.{values}
use Rattle.std.specs.List.{list_any}
use Rattle.std.specs.Map.Iter.{deref}
use Rattle.us_sets.specs.Marks.{is_live, is_positive}
use Rattle.us_sets.proofs.Views.{is_live-view, list_any-here}
use Rattle.us_sets.proofs.marks.Marks.is_live.Goals as goal

pub returns-then-count-gt0 : goal.returns-then-count-gt0
returns-then-count-gt0 c =
    let so_far : c.into_iter-count-iterator.result ≡ map deref c.loop-count.yielded ++ c.loop-count.count-iterator = rest_so_far deref _ _ _ c.loop-count.yielded_by in
    let next : c.loop-count.count-iterator ≡ c.in-Some.count.now ∷ c.next.new.self = rest_more deref _ _ _ c.in-Some.count c.in-Some.is c.next.ensures.steps in
    let start : values c.self.inside.counts ≡ c.into_iter-count-iterator.result = search rules in
    let above : is_positive c.in-Some.count.now ≡ true = grind (arith, ints) in
    sym (list_any-here is_positive (values c.self.inside.counts) (map deref c.loop-count.yielded) c.next.new.self c.in-Some.count.now
    (start ∙ so_far ∙ ap (λ t. map deref c.loop-count.yielded ++ t) next) above)
    ∙ is_live-view c.self.inside.counts.entries c.values-count-items.ensures.ordered ∙ ap is_live c.self.view_is

pub returns : goal.returns
returns c =
    let all : map deref c.loop-count.yielded ≡ values c.self.inside.counts = search (rules, iter_end) in
    sym c.loop-count.invariant ∙ ap (list_any is_positive) all
    ∙ is_live-view c.self.inside.counts.entries c.values-count-items.ensures.ordered ∙ ap is_live c.self.view_is
