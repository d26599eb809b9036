-- Two effects of the joined type in either order: each kind's own law, and nothing where an effect isn't of the state's kind.
use Rattle.std.proofs.Common.{◌≡◌, Option, Some, None, refl, ap}
use Rattle.us_kind.specs.declared.identity.Stamp.{Stamp}
use Rattle.us_kind.specs.Updates.{Commutes}
use Rattle.us_plain.specs.Register.{register_updated}
use Rattle.us_plain.specs.RegisterLaws.{register-commutes}
use Rattle.us_plain.specs.Counter.{counter_updated}
use Rattle.us_plain.specs.CounterLaws.{counter-commutes}
use Rattle.us_sets.specs.Set.{set_updated}
use Rattle.us_sets.specs.SetLaws.{set-commutes}
use Rattle.us_sets.specs.Flag.{flag_updated}
use Rattle.us_sets.specs.FlagLaws.{flag-commutes}
use Rattle.us_multi.specs.Multi.{multi_updated}
use Rattle.us_multi.specs.MultiLaws.{multi-commutes}
use Rattle.us_value.specs.declared.operation.State.TheVariants as state
use Rattle.us_value.specs.Values.{updated, updated_by, register_effect, counter_effect, set_effect, flag_effect, multi_effect}

both-commute : {S E : Type 0} (up : S → E → Stamp → S) → Commutes up → (s : S) (a b : Option E) (m n : Stamp)
    → updated_by up (updated_by up s a m) b n ≡ updated_by up (updated_by up s b n) a m
both-commute up c s None None m n = refl
both-commute up c s None (Some b) m n = refl
both-commute up c s (Some a) None m n = refl
both-commute up c s (Some a) (Some b) m n = c s a b m n

pub effects-commute : Commutes updated
effects-commute (state.Register s) a b m n =
    ap state.Register (both-commute register_updated register-commutes s (register_effect a) (register_effect b) m n)
effects-commute (state.Counter s) a b m n = ap state.Counter (both-commute counter_updated counter-commutes s (counter_effect a) (counter_effect b) m n)
effects-commute (state.Set s) a b m n = ap state.Set (both-commute set_updated set-commutes s (set_effect a) (set_effect b) m n)
effects-commute (state.Flag s) a b m n = ap state.Flag (both-commute flag_updated flag-commutes s (flag_effect a) (flag_effect b) m n)
effects-commute (state.Multi s) a b m n = ap state.Multi (both-commute multi_updated multi-commutes s (multi_effect a) (multi_effect b) m n)
