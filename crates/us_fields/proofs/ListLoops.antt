-- Items that are read, compared, measured and written one after the other.
use Rattle.std.proofs.Common.{◌≡◌, ℕ, zero, suc, ◌+◌, ◌-◌, ◌<◌, ◌≤◌, Bool, true, false, ◌&&◌, List, [], ◌∷◌, ◌++◌, length, take, drop, get_or, Err, refl, sym, ap, subst, ◌∙◌, append_assoc, append-nil, arith, drop-cons, length-drop}
use Rattle.std.proofs.Math.Seq.{take-suc}
use Rattle.std.specs.List.{AllByRecursion}
use Rattle.us_wire.specs.Decoders.{Decoder, many_at, many_encoding}
use Rattle.us_wire.proofs.Combined.{in_front, many_at-start, many_at-stop, many_encoding-push}
use Rattle.us_fields.specs.declared.fault.DecodeFault.{DecodeFault}
use Rattle.us_fields.specs.declared.fault.DecodeFault.TheVariants.{Malformed, Memory}
use Rattle.us_fields.specs.DecodeResult.{Tells}
use Rattle.us_fields.specs.Lists.{is_before_first, is_in_order}

pub none_read : {A : Type 0} (r : Decoder A) (count : ℕ) (input : List ℕ) (at : ℕ) (xs : List A) → xs ≡ [] → many_at r count input at ≡ in_front xs (many_at r (count - 0) input at)
none_read r count input at xs e =
    let whole : count ≡ count - 0 = omega arith in
    many_at-start r count input at ∙ ap (λ (k : ℕ). in_front [] (many_at r k input at)) whole ∙ ap (λ (ys : List _). in_front ys (many_at r (count - 0) input at)) (sym e)

pub fault_read : {A : Type 0} (r : Decoder A) (count i : ℕ) (input : List ℕ) (at mid : ℕ) (xs : List A) (fault : DecodeFault) → i < count → many_at r count input at ≡ in_front xs (many_at r (count - i) input mid)
    → Tells {X = A × ℕ} (Err fault) (r input mid) → Tells {X = List A × ℕ} (Err fault) (many_at r count input at)
fault_read r count i input at mid xs Malformed lt h e = many_at-stop r count i input at mid xs lt h e
fault_read r count i input at mid xs Memory lt h e = tt

-- the fact at a place
pub at_place : {A : Type 0} (F : A → Type 0) (xs : List A) (i : ℕ) (x : A) → AllByRecursion F xs → i < length xs → x ≡ get_or xs i x → F x
at_place F [] i x all lt e = absurd (omega arith)
at_place F (y ∷ xs) zero x all lt e = subst F (sym e) all.0
at_place F (y ∷ xs) (suc i) x all lt e = at_place F xs i x all.1 (omega arith) e

pub none_written : {A : Type 0} (s : A → List ℕ) (xs : List A) (old : List ℕ) → old ≡ old ++ many_encoding s (take 0 xs)
unfolding many_encoding
none_written s xs old = sym (append-nil old)

pub one_written : {A : Type 0} (s : A → List ℕ) (xs : List A) (i : ℕ) (x : A) (old now new : List ℕ) → i < length xs → x ≡ get_or xs i x → now ≡ old ++ many_encoding s (take i xs) → new ≡ now ++ s x → new ≡ old ++ many_encoding s (take (i + 1) xs)
one_written {A = A} s xs i x old now new lt is so_far written =
    let one : i + 1 ≡ suc i = omega arith in
    let taken : take (i + 1) xs ≡ take i xs ++ x ∷ [] = ap (λ (k : ℕ). take k xs) one ∙ take-suc xs i x lt ∙ ap (λ (w : A). take i xs ++ w ∷ []) (sym is) in
    written ∙ ap (λ (w : List ℕ). w ++ s x) so_far ∙ append_assoc old (many_encoding s (take i xs)) (s x)
    ∙ ap (λ (w : List ℕ). old ++ w) (sym (many_encoding-push s (take i xs) x)) ∙ ap (λ (w : List A). old ++ many_encoding s w) (sym taken)

-- the item before place i, and the items from there on
turn : {A : Type 0} (before : A → A → Bool) (xs : List A) (i : ℕ) (x y : A) → 1 ≤ i → i < length xs → x ≡ get_or xs (i - 1) x → y ≡ get_or xs i y → is_in_order before (drop (i - 1) xs) ≡ (before x y && is_in_order before (drop i xs))
turn {A = A} before xs i x y one lt e f =
    let next : suc (i - 1) ≡ i = omega arith in
    let within : i - 1 < length xs = omega arith in
    let p : drop (i - 1) xs ≡ x ∷ drop i xs = drop-cons xs (i - 1) x within ∙ (λ k. sym e k ∷ drop (next k) xs) in
    let q : drop i xs ≡ y ∷ drop (suc i) xs = drop-cons xs i y lt ∙ (λ k. sym f k ∷ drop (suc i) xs) in
    ap (is_in_order before) p ∙ ap (λ (w : List A). is_before_first before x w && is_in_order before w) q ∙ ap (λ (w : List A). before x y && is_in_order before w) (sym q)

pub turn_passes : {A : Type 0} (before : A → A → Bool) (xs : List A) (i : ℕ) (x y : A) (b : Bool) → 1 ≤ i → i < length xs → x ≡ get_or xs (i - 1) x → y ≡ get_or xs i y → b ≡ before x y → b ≡ true
    → is_in_order before xs ≡ is_in_order before (drop (i - 1) xs) → is_in_order before xs ≡ is_in_order before (drop (i + 1 - 1) xs)
turn_passes before xs i x y b one lt e f is passes so_far =
    let back : i ≡ i + 1 - 1 = omega arith in
    so_far ∙ turn before xs i x y one lt e f ∙ ap (λ (t : Bool). t && is_in_order before (drop i xs)) (sym is ∙ passes) ∙ ap (λ (k : ℕ). is_in_order before (drop k xs)) back

pub turn_fails : {A : Type 0} (before : A → A → Bool) (xs : List A) (i : ℕ) (x y : A) (b : Bool) → 1 ≤ i → i < length xs → x ≡ get_or xs (i - 1) x → y ≡ get_or xs i y → b ≡ before x y → b ≡ false
    → is_in_order before xs ≡ is_in_order before (drop (i - 1) xs) → false ≡ is_in_order before xs
turn_fails before xs i x y b one lt e f is fails so_far =
    sym (so_far ∙ turn before xs i x y one lt e f ∙ ap (λ (t : Bool). t && is_in_order before (drop i xs)) (sym is ∙ fails))

pub turns_end : {A : Type 0} (before : A → A → Bool) (xs : List A) (i : ℕ) → 1 ≤ i → length xs ≤ i → is_in_order before xs ≡ is_in_order before (drop (i - 1) xs) → true ≡ is_in_order before xs
turns_end {A = A} before xs i one end so_far = sym (so_far ∙ few (drop (i - 1) xs) (omega (arith, length-drop (i - 1) xs)))
  where
    few : (ys : List A) → length ys ≤ 1 → is_in_order before ys ≡ true
    few [] le = refl
    few (y ∷ []) le = refl
    few (y ∷ z ∷ ys) le = absurd (omega arith)
