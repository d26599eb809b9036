-- Vectors that are read and written entry by entry.
use Rattle.std.proofs.Common.{◌≡◌, ℕ, zero, suc, ◌+◌, ◌-◌, ◌<◌, ◌≤◌, List, [], ◌∷◌, ◌++◌, length, take, drop, Option, None, Some, refl, sym, ap, ◌∙◌, arith}
use Rattle.std.proofs.lemmas.List.{take-append-drop, length-take-le, drop-drop}
use Rattle.std.specs.Int.{w64}
use Rattle.us_base.specs.declared.shape.Shape.{Shape}
use Rattle.us_base.specs.Shape.{sites_of}
use Rattle.us_base.specs.Vector.{with_entry, zero as zeros}
use Rattle.us_wire.specs.Decoders.{and_then, many_at, number_between_at, largest_number}
use Rattle.us_wire.proofs.Combined.{in_front, many_at-start, many_at-turn, many_at-stop, many_at-end}
use Rattle.us_migrate.specs.Decoders.{filled, vector_at}

take-with_entry : (v : List ℕ) (i x : ℕ) → i < length v → take (i + 1) (with_entry v i x) ≡ take i v ++ x ∷ []
unfolding with_entry
take-with_entry v i x lt = let e : i + 1 ≡ suc i = omega arith in ap (λ (k : ℕ). take k (with_entry v i x)) e ∙ on v i lt
  where
    on : (v : List ℕ) (i : ℕ) → i < length v → take (suc i) (with_entry v i x) ≡ take i v ++ x ∷ []
    on [] i lt = absurd (omega arith)
    on (y ∷ v) zero lt = refl
    on (y ∷ v) (suc i) lt = ap (λ (w : List ℕ). y ∷ w) (on v i (omega arith))

drop-with_entry : (v : List ℕ) (i x : ℕ) → i < length v → drop (i + 1) (with_entry v i x) ≡ drop (i + 1) v
unfolding with_entry
drop-with_entry v i x lt = let e : i + 1 ≡ suc i = omega arith in ap (λ (k : ℕ). drop k (with_entry v i x)) e ∙ on v i lt ∙ ap (λ (k : ℕ). drop k v) (sym e)
  where
    on : (v : List ℕ) (i : ℕ) → i < length v → drop (suc i) (with_entry v i x) ≡ drop (suc i) v
    on [] i lt = absurd (omega arith)
    on (y ∷ v) zero lt = refl
    on (y ∷ v) (suc i) lt = on v i (omega arith)

length-with_entry : (v : List ℕ) (i x : ℕ) → i < length v → length (with_entry v i x) ≡ length v
unfolding with_entry
length-with_entry [] i x lt = absurd (omega arith)
length-with_entry (y ∷ v) zero x lt = refl
length-with_entry (y ∷ v) (suc i) x lt = omega (arith, length-with_entry v i x (omega arith))

-- the first i entries were read, and the others are 0
pub record IsReadSoFar (shape : Shape) (input : List ℕ) (at i next : ℕ) (v : List ℕ) : Type 0 where
  pub ten : length v ≡ 10
  pub others : drop i v ≡ drop i zeros
  pub so_far : many_at (number_between_at w64 0 largest_number) (suc (sites_of shape)) input at ≡ in_front (take i v) (many_at (number_between_at w64 0 largest_number) (suc (sites_of shape) - i) input next)

less_none : (n : ℕ) → n ≡ n - 0
less_none n = omega arith

pub nothing_read : (shape : Shape) (input : List ℕ) (at : ℕ) → IsReadSoFar shape input at 0 at zeros
nothing_read shape input at = record {
  ten = refl;
  others = refl;
  so_far = many_at-start (number_between_at w64 0 largest_number) (suc (sites_of shape)) input at ∙ ap (λ (k : ℕ). in_front [] (many_at (number_between_at w64 0 largest_number) k input at)) (less_none (suc (sites_of shape)));
}

pub one_more_read : (shape : Shape) (input : List ℕ) (at i mid next n : ℕ) (v : List ℕ) → sites_of shape ≤ 9 → i < suc (sites_of shape) → IsReadSoFar shape input at i mid v → number_between_at w64 0 largest_number input mid ≡ Some (n, next)
    → IsReadSoFar shape input at (i + 1) next (with_entry v i n)
one_more_read shape input at i mid next n v few lt h here =
    let within : i < length v = omega (arith, h.ten) in
    let turn = many_at-turn (number_between_at w64 0 largest_number) (suc (sites_of shape)) i input at mid next (take i v) n lt h.so_far here in
    record {
      ten = length-with_entry v i n within ∙ h.ten;
      others = drop-with_entry v i n within ∙ sym (drop-drop 1 i v) ∙ ap (drop 1) h.others ∙ drop-drop 1 i zeros;
      so_far = turn ∙ ap (λ (xs : List ℕ). in_front xs (many_at (number_between_at w64 0 largest_number) (suc (sites_of shape) - (i + 1)) input next)) (sym (take-with_entry v i n within));
    }

pub none_read : (shape : Shape) (input : List ℕ) (at i mid : ℕ) (v : List ℕ) → i < suc (sites_of shape) → IsReadSoFar shape input at i mid v → number_between_at w64 0 largest_number input mid ≡ None → None ≡ vector_at shape input at
unfolding vector_at
none_read shape input at i mid v lt h here = sym (ap (λ (o : Option (List ℕ × ℕ)). and_then o (λ numbers next. Some (filled numbers, next))) (many_at-stop (number_between_at w64 0 largest_number) (suc (sites_of shape)) i input at mid (take i v) lt h.so_far here))

pub all_read : (shape : Shape) (input : List ℕ) (at i next : ℕ) (v : List ℕ) → i ≡ suc (sites_of shape) → sites_of shape ≤ 9 → IsReadSoFar shape input at i next v → Some (v, next) ≡ vector_at shape input at
unfolding vector_at
all_read shape input at i next v end few h =
    let all = many_at-end (number_between_at w64 0 largest_number) (suc (sites_of shape)) i input at next (take i v) (omega arith) h.so_far in
    let len : length (take i v) ≡ i = length-take-le i v (omega (arith, h.ten)) in
    let whole : filled (take i v) ≡ v = ap (λ (k : ℕ). take i v ++ drop k zeros) len ∙ ap (λ (xs : List ℕ). take i v ++ xs) (sym h.others) ∙ take-append-drop i v in
    sym (ap (λ (o : Option (List ℕ × ℕ)). and_then o (λ numbers end. Some (filled numbers, end))) all ∙ ap (λ (w : List ℕ). Some (w, next)) whole)
