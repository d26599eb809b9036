-- A state counts at most one more update after each.
use Rattle.std.proofs.Common.{◌≤◌, ◌+◌, Option, Some, None, refl, arith}
use Rattle.us_kind.specs.declared.identity.Stamp.{Stamp}
use Rattle.us_plain.specs.Counter.{counter_updated}
use Rattle.us_plain.specs.declared.counter.CounterEffect.{CounterEffect}
use Rattle.us_plain.specs.declared.counter.CounterEffect.TheVariants.{CounterAdd}
use Rattle.us_plain.specs.Sums.{Sum}
use Rattle.us_value.specs.declared.operation.Effect.{Effect}
use Rattle.us_value.specs.declared.operation.Kind.TheVariants as kind
use Rattle.us_value.specs.declared.operation.State.{State}
use Rattle.us_value.specs.declared.operation.State.TheVariants as state
use Rattle.us_value.specs.Laws.{CountsAsApplied}
use Rattle.us_value.specs.Values.{update_count, counter_effect, updated, updated_by}

counter_counts : (s : Sum) (e : Option CounterEffect) (m : Stamp) → (updated_by counter_updated s e m).updates ≤ s.updates + 1
counter_counts s None m = omega arith
counter_counts s (Some (CounterAdd amount)) m = omega arith

pub one_more : (s : State) (e : Effect) (m : Stamp) → update_count (updated s e m) ≤ update_count s + 1
one_more (state.Register s) e m = omega arith
one_more (state.Counter s) e m = counter_counts s (counter_effect e) m
one_more (state.Set s) e m = omega arith
one_more (state.Flag s) e m = omega arith
one_more (state.Multi s) e m = omega arith

pub counts-as-applied : CountsAsApplied
counts-as-applied kind.Register = record { none = refl; one_more = one_more }
counts-as-applied kind.Counter = record { none = refl; one_more = one_more }
counts-as-applied kind.Set = record { none = refl; one_more = one_more }
counts-as-applied kind.Flag = record { none = refl; one_more = one_more }
counts-as-applied kind.Multi = record { none = refl; one_more = one_more }
