-- The counter keeps the laws of a replicated type.
use Rattle.std.proofs.Common.{◌≡◌, List, [], ◌∷◌, true, refl, sym, ap, ◌∙◌, arith}
use Rattle.std.specs.Prelude.{◌+◌, ◌≤◌, ℤ, pos, ◌+ℤ◌, Some, None, ◌↔◌}
use Rattle.std.proofs.lemmas.Int.{ints}
use Rattle.us_kind.specs.Histories.{all_from}
use Rattle.us_kind.specs.Updates.{Stamped, All, Commutes, CountsUpdates, AnswersInOrder, state_after, updates_of}
use Rattle.us_kind.specs.Comparison.{tag_of}
use Rattle.us_kind.specs.declared.identity.Stamp.{Stamp}
use Rattle.us_kind.specs.declared.identity.Tag.{Tag}
use Rattle.us_plain.specs.Counter.{counter_initial, counter_updated, counter_answered, counter_prepared, counter_reads, counter_value, amount_of, sum_of}
use Rattle.us_plain.specs.Sums.{Sum}
use Rattle.us_plain.specs.declared.counter.CounterOp.{CounterOp}
use Rattle.us_plain.specs.declared.counter.CounterOp.TheVariants.{CounterRead, CounterAdd}
use Rattle.us_plain.specs.declared.counter.CounterEffect.{CounterEffect}
use Rattle.us_plain.specs.declared.counter.CounterEffect.TheVariants.{CounterAdd as Added}
use Rattle.us_plain.specs.declared.counter.CounterAnswer.TheVariants.{Number}

add_two : (a b c : ℤ) → ((a +ℤ b) +ℤ c) ≡ ((a +ℤ c) +ℤ b)
add_two a b c = omega (arith, ints)

add_group : (a b c : ℤ) → ((a +ℤ b) +ℤ c) ≡ (a +ℤ (b +ℤ c))
add_group a b c = omega (arith, ints)

add_nothing : (a : ℤ) → (pos 0 +ℤ a) ≡ a
add_nothing a = omega (arith, ints)

pub counter-commutes : Commutes counter_updated
counter-commutes s (Added a) (Added b) m n i = record { total = add_two s.total a b i; updates = s.updates + 1 + 1 }

pub counter-reads : (tag : Tag) (op : CounterOp) (s : Sum) → (counter_prepared tag op s ≡ None) ↔ (counter_reads op ≡ true)
counter-reads tag CounterRead s = (λ e. refl, λ e. refl)
counter-reads tag (CounterAdd a) s = (λ e. absurd (cc), λ e. absurd (cc))

-- each addition counts once
one_more : (s : Sum) (e : CounterEffect) (m : Stamp) → (counter_updated s e m).updates ≤ s.updates + 1
one_more s (Added a) m = omega arith

pub counter-counts : CountsUpdates counter_initial counter_updated (λ s. s.updates)
counter-counts = record { none = refl; one_more = one_more }

-- the amount of an effect
added : CounterEffect → ℤ
added (Added a) = a

prepared_add : (tag : Tag) (op : CounterOp) (s : Sum) (e : CounterEffect) → counter_prepared tag op s ≡ Some e → amount_of op ≡ added e
unfolding added
prepared_add tag CounterRead s e h = absurd (cc)
prepared_add tag (CounterAdd a) s (Added b) h = cc

after_add : (s : Sum) (e : CounterEffect) (m : Stamp) → (counter_updated s e m).total ≡ (s.total +ℤ added e)
unfolding added
after_add s (Added a) m = refl

-- the sum grows by the amounts, one after another
sum_after : (s : Sum) (us : List (Stamped CounterOp CounterEffect)) → All (λ u. amount_of u.op ≡ added u.effect) us
    → (state_after counter_updated s us).total ≡ (s.total +ℤ sum_of (updates_of us))
sum_after s [] adds = omega (arith, ints)
sum_after s (u ∷ us) adds =
    let rest = sum_after (counter_updated s u.effect u.stamp) us adds.1 in
    rest ∙ ap (λ n. n +ℤ sum_of (updates_of us)) (after_add s u.effect u.stamp) ∙ add_group s.total (added u.effect) (sum_of (updates_of us))
    ∙ ap (λ n. s.total +ℤ (n +ℤ sum_of (updates_of us))) (sym adds.0)

pub counter-in_order : AnswersInOrder counter_initial counter_updated counter_answered counter_prepared counter_value
counter-in_order after us history (CounterAdd a) = refl
counter-in_order after us history CounterRead =
    let adds = all_from (λ u. amount_of u.op ≡ added u.effect) us (λ u i. prepared_add (tag_of u.stamp) u.op _ u.effect (history.made u i).effect) in
    ap Number (sum_after counter_initial us adds ∙ add_nothing (sum_of (updates_of us)))
