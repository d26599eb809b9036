-- Values that are read, compared and written one after the other.
use Rattle.std.proofs.Common.{◌≡◌, ℕ, zero, suc, ◌+◌, ◌-◌, ◌<◌, ◌≤◌, Bool, true, false, ◌&&◌, List, [], ◌∷◌, ◌++◌, length, take, drop, get_or, Option, Some, Err, refl, sym, ap, subst, ◌∙◌, append_assoc, append-nil, arith, drop-cons, length-drop}
use Rattle.std.proofs.Math.Seq.{take-suc}
use Rattle.std.specs.List.{AllByRecursion}
use Rattle.std.specs.Cmp.Lexicographic.{slice_cmp}
use Rattle.std.specs.Ordering.{nat_cmp, is_lt, is_ge}
use Rattle.std.specs.declared.cmp.Ordering.{Ordering}
use Rattle.std.specs.declared.cmp.Ordering.TheVariants.{Less, Equal, Greater}
use Rattle.us_kind.specs.Comparison.{bytes_less}
use Rattle.us_kind.specs.Orders.{bytes_less-cmp}
use Rattle.std.specs.Int.{w8}
use Rattle.us_wire.specs.Fields.{value, value_at, longest_value, AreBytes}
use Rattle.std.proofs.lemmas.Bool.{le-leb, cond-true}
use Rattle.us_wire.specs.Decoders.{and_then, many_at, many_encoding, number_between_at}
use Rattle.us_wire.proofs.Combined.{in_front, many_at-start, many_at-stop, many_encoding-push, reads_byte}
use Rattle.us_fields.specs.declared.fault.DecodeFault.{DecodeFault}
use Rattle.us_fields.specs.declared.fault.DecodeFault.TheVariants.{Malformed, Memory}
use Rattle.us_fields.specs.DecodeResult.{Tells}
use Rattle.us_fields.specs.FieldDecoders.{is_below_first, is_ascending, cut_at, id_at}

pub many_stop : (count i : ℕ) (input : List ℕ) (at mid : ℕ) (xs : List (List ℕ)) (fault : DecodeFault) → i < count → many_at value_at count input at ≡ in_front xs (many_at value_at (count - i) input mid)
    → Tells {X = List ℕ × ℕ} (Err fault) (value_at input mid) → Tells {X = List (List ℕ) × ℕ} (Err fault) (many_at value_at count input at)
many_stop count i input at mid xs Malformed lt h e = many_at-stop value_at count i input at mid xs lt h e
many_stop count i input at mid xs Memory lt h e = tt

less_where : (o : Ordering) (b : Bool) → b ≡ is_ge o → b ≡ false → is_lt o ≡ true
less_where Less b e f = refl
less_where Equal b e f = absurd (cc)
less_where Greater b e f = absurd (cc)

not_less_where : (o : Ordering) (b : Bool) → b ≡ is_ge o → b ≡ true → is_lt o ≡ false
not_less_where Less b e f = absurd (cc)
not_less_where Equal b e f = refl
not_less_where Greater b e f = refl

-- the value before place i, and the values from there on
turn : (xs : List (List ℕ)) (i : ℕ) (x y : List ℕ) → 1 ≤ i → i < length xs → x ≡ get_or xs (i - 1) x → y ≡ get_or xs i y → is_ascending (drop (i - 1) xs) ≡ (bytes_less x y && is_ascending (drop i xs))
turn xs i x y one lt e f =
    let next : suc (i - 1) ≡ i = omega arith in
    let before : i - 1 < length xs = omega arith in
    let p : drop (i - 1) xs ≡ x ∷ drop i xs = drop-cons xs (i - 1) x before ∙ (λ k. sym e k ∷ drop (next k) xs) in
    let q : drop i xs ≡ y ∷ drop (suc i) xs = drop-cons xs i y lt ∙ (λ k. sym f k ∷ drop (suc i) xs) in
    ap is_ascending p ∙ ap (λ (w : List (List ℕ)). is_below_first x w && is_ascending w) q ∙ ap (λ (w : List (List ℕ)). bytes_less x y && is_ascending w) (sym q)

pub turn_passes : (xs : List (List ℕ)) (i : ℕ) (x y : List ℕ) (b : Bool) → 1 ≤ i → i < length xs → x ≡ get_or xs (i - 1) x → y ≡ get_or xs i y → b ≡ is_ge (slice_cmp nat_cmp x y) → b ≡ false
    → is_ascending xs ≡ is_ascending (drop (i - 1) xs) → is_ascending xs ≡ is_ascending (drop (i + 1 - 1) xs)
turn_passes xs i x y b one lt e f cmp is so_far =
    let less : bytes_less x y ≡ true = sym (bytes_less-cmp x y) ∙ less_where (slice_cmp nat_cmp x y) b cmp is in
    let back : i ≡ i + 1 - 1 = omega arith in
    so_far ∙ turn xs i x y one lt e f ∙ ap (λ (t : Bool). t && is_ascending (drop i xs)) less ∙ ap (λ (k : ℕ). is_ascending (drop k xs)) back

pub turn_fails : (xs : List (List ℕ)) (i : ℕ) (x y : List ℕ) (b : Bool) → 1 ≤ i → i < length xs → x ≡ get_or xs (i - 1) x → y ≡ get_or xs i y → b ≡ is_ge (slice_cmp nat_cmp x y) → b ≡ true
    → is_ascending xs ≡ is_ascending (drop (i - 1) xs) → false ≡ is_ascending xs
turn_fails xs i x y b one lt e f cmp is so_far =
    let less : bytes_less x y ≡ false = sym (bytes_less-cmp x y) ∙ not_less_where (slice_cmp nat_cmp x y) b cmp is in
    sym (so_far ∙ turn xs i x y one lt e f ∙ ap (λ (t : Bool). t && is_ascending (drop i xs)) less)

pub turns_end : (xs : List (List ℕ)) (i : ℕ) → 1 ≤ i → length xs ≤ i → is_ascending xs ≡ is_ascending (drop (i - 1) xs) → true ≡ is_ascending xs
turns_end xs i one end so_far = sym (so_far ∙ few (drop (i - 1) xs) (omega (arith, length-drop (i - 1) xs)))
  where
    few : (ys : List (List ℕ)) → length ys ≤ 1 → is_ascending ys ≡ true
    few [] le = refl
    few (y ∷ []) le = refl
    few (y ∷ z ∷ ys) le = absurd (omega arith)

-- the fact at a place
pub at_place : (xs : List (List ℕ)) (i : ℕ) (x : List ℕ) → AllByRecursion (λ bytes. length bytes ≤ longest_value) xs → i < length xs → x ≡ get_or xs i x → length x ≤ longest_value
at_place [] i x all lt e = absurd (omega arith)
at_place (y ∷ xs) zero x all lt e = subst (λ (w : List ℕ). length w ≤ longest_value) (sym e) all.0
at_place (y ∷ xs) (suc i) x all lt e = at_place xs i x all.1 (omega arith) e

pub no_value_written : (xs : List (List ℕ)) (old : List ℕ) → old ≡ old ++ many_encoding value (take 0 xs)
unfolding many_encoding
no_value_written xs old = sym (append-nil old)

pub value_written : (xs : List (List ℕ)) (i : ℕ) (x old now new : List ℕ) → i < length xs → x ≡ get_or xs i x → now ≡ old ++ many_encoding value (take i xs) → new ≡ now ++ value x → new ≡ old ++ many_encoding value (take (i + 1) xs)
value_written xs i x old now new lt is so_far written =
    let one : i + 1 ≡ suc i = omega arith in
    let taken : take (i + 1) xs ≡ take i xs ++ x ∷ [] = ap (λ (k : ℕ). take k xs) one ∙ take-suc xs i x lt ∙ ap (λ (w : List ℕ). take i xs ++ w ∷ []) (sym is) in
    written ∙ ap (λ (w : List ℕ). w ++ value x) so_far ∙ append_assoc old (many_encoding value (take i xs)) (value x)
    ∙ ap (λ (w : List ℕ). old ++ w) (sym (many_encoding-push value (take i xs) x)) ∙ ap (λ (w : List (List ℕ)). old ++ many_encoding value w) (sym taken)

pub no_value_read : (count : ℕ) (input : List ℕ) (at : ℕ) → many_at value_at count input at ≡ in_front [] (many_at value_at (count - 0) input at)
no_value_read count input at = let whole : count ≡ count - 0 = omega arith in many_at-start value_at count input at ∙ ap (λ (k : ℕ). in_front [] (many_at value_at k input at)) whole

pub byte_within : (least most : ℕ) (input : List ℕ) (at n next : ℕ) → most < 256 → AreBytes input → number_between_at w8 least most input at ≡ Some (n, next) → next ≤ length input
byte_within least most input at n next small are e = ((reads_byte least most small).found input at n next are e).0.within

pub id_taken : (input : List ℕ) (at size start n : ℕ) → number_between_at w8 1 64 input at ≡ Some (size, start) → n ≡ size → start ≤ length input → n ≤ length input - start
    → Some (take (start + n - start) (drop start input), start + n) ≡ id_at input at
unfolding id_at
id_taken input at size start n e is within room =
    let cut : start + n - start ≡ size = omega arith in
    let fits : start + size ≤ length input = omega arith in
    let pair : ℕ → ℕ → Option (List ℕ × ℕ) = λ k next. Some (take k (drop start input), next) in
    sym (ap (λ (o : Option (ℕ × ℕ)). and_then o (λ k next. cut_at k input next)) e ∙ cond-true _ _ _ (le-leb _ _ fits) ∙ (λ i. pair (sym cut i) (start + sym is i)))
