-- Fields that are made of fields: one behind the other, a code and what it tells, lists behind a count of two bytes.
use Rattle.std.specs.Prelude.{ℕ, ◌≤◌, List, [], ◌∷◌, ◌++◌, length, Bool, true, ◌&&◌, Some}
use Rattle.std.specs.Int.{to_be_bytes, w8, w16}
use Rattle.std.specs.List.{AllByRecursion}
use Rattle.us_wire.specs.Fields.{number_at}
use Rattle.us_wire.specs.Decoders.{Decoder, and_then, if_passes, many_at, many_encoding, number_between_at}

-- two fields, one behind the other
abbrev pub both_at : {A B : Type 0} → Decoder A → Decoder B → Decoder (A × B)
both_at first second input at = and_then (first input at) (λ a mid. and_then (second input mid) (λ b next. Some ((a, b), next)))

-- what is made of a field
abbrev pub made_at : {A B : Type 0} → (A → B) → Decoder A → Decoder B
made_at make read input at = and_then (read input at) (λ a next. Some (make a, next))

-- a byte, and the fields that it tells
abbrev pub coded_at : {A : Type 0} → (ℕ → Decoder A) → Decoder A
coded_at fields input at = and_then (number_at w8 input at) (λ code next. fields code input next)

-- ---- lists

-- two bytes of count, and the items
abbrev pub list_encoding : {A : Type 0} → (A → List ℕ) → List A → List ℕ
list_encoding encoding xs = to_be_bytes w16 (length xs) ++ many_encoding encoding xs

-- from so many to so many items, each of which has an encoding
pub record ListFits {A : Type 0} (least most : ℕ) (Fits : A → Type 0) (xs : List A) : Type 0 where
  pub enough : least ≤ length xs
  pub not_more : length xs ≤ most
  pub each : AllByRecursion Fits xs

-- so many are told by two bytes at most
abbrev pub longest_list : ℕ
longest_list = 65535

unfoldable pub list_at : {A : Type 0} → (least most : ℕ) → Decoder A → Decoder (List A)
list_at least most read input at = and_then (number_between_at w16 least most input at) (λ count next. many_at read count input next)

-- ---- order

abbrev pub is_before_first : {A : Type 0} → (A → A → Bool) → A → List A → Bool
is_before_first before x [] = true
is_before_first before x (y ∷ ys) = before x y

-- each stands before the next
abbrev pub is_in_order : {A : Type 0} → (A → A → Bool) → List A → Bool
is_in_order before [] = true
is_in_order before (x ∷ xs) = is_before_first before x xs && is_in_order before xs

-- only a list that is in order
abbrev pub ordered_at : {A : Type 0} → (A → A → Bool) → Decoder (List A) → Decoder (List A)
ordered_at before read input at = if_passes (is_in_order before) (read input at)
