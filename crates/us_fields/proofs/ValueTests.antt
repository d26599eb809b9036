-- The tests of values and what they say.
use Rattle.std.proofs.Common.{◌≡◌, ℕ, ◌<◌, ◌≤◌, ◌^◌, List, [], ◌∷◌, Bool, true, ◌&&◌, length, refl, arith}
use Rattle.std.specs.Prelude.{nat_le}
use Rattle.std.specs.List.{AllByRecursion}
use Rattle.std.proofs.lemmas.Bool.{and_parts, leb-true}
use Rattle.std.proofs.lemmas.Bool.Decides.{nat_tests}
use Rattle.us_wire.specs.Fields.{longest_value}
use Rattle.us_fields.specs.Fields.{ValuesFit}
use Rattle.us_fields.specs.FieldDecoders.{is_ascending}
use Rattle.us_fields.specs.Lengths.{all_short}
use Rattle.us_fields.proofs.FieldLaws.{rises, ascends}

shorts : (vs : List (List ℕ)) → all_short vs ≡ true → AllByRecursion (λ bytes. length bytes ≤ longest_value) vs
shorts [] e = tt
shorts (v ∷ vs) e = let both = and_parts (nat_le (length v) longest_value) (all_short vs) e in (leb-true (length v) longest_value both.0, shorts vs both.1)

and_both : (a b : Bool) → a ≡ true → b ≡ true → (a && b) ≡ true
and_both a b e f = rw (e, f) refl

short_all : (vs : List (List ℕ)) → AllByRecursion (λ bytes. length bytes ≤ longest_value) vs → all_short vs ≡ true
short_all [] h = refl
short_all (v ∷ vs) h = let first : nat_le (length v) longest_value ≡ true = (let f = h.0 in grind (arith, nat_tests)) in and_both (nat_le (length v) longest_value) (all_short vs) first (short_all vs h.1)

pub values_fit : (vs : List (List ℕ)) → length vs < 2 ^ 32 → all_short vs ≡ true → is_ascending vs ≡ true → ValuesFit vs
values_fit vs n e f = record { few = n; each = shorts vs e; ascending = rises vs f }

pub fit_values : (vs : List (List ℕ)) → ValuesFit vs → (length vs < 2 ^ 32) × (all_short vs ≡ true) × (is_ascending vs ≡ true)
fit_values vs h = (h.few, short_all vs h.each, ascends vs h.ascending)
