-- What was written, and what is taken back.
use Rattle.std.proofs.Common.{◌≡◌, ℕ, zero, suc, ◌+◌, ◌<◌, ◌≤◌, List, [], ◌∷◌, ◌++◌, length, take, Result, Ok, Err, refl, sym, ap, ◌∙◌, append_assoc, append-nil, arith, length-append}
use Rattle.std.specs.Prelude.{OnOk, OnErr}
use Rattle.std.specs.Int.{w64, to_be_bytes}
use Rattle.std.proofs.lemmas.List.{take_at}
use Rattle.std.proofs.Math.Seq.{take-suc}
use Rattle.us_base.specs.Vector.{entry}
use Rattle.us_wire.specs.Decoders.{many_encoding}
use Rattle.us_wire.proofs.Combined.{many_encoding-push}

pub on_ok : {X E : Type 0} (r : Result X E) (P Q : Type 0) → (P → Q) → OnOk r P → OnOk r Q
on_ok (Ok x) P Q to h = to h
on_ok (Err e) P Q to h = tt

pub on_err : {X E : Type 0} (r : Result X E) (P Q : Type 0) → (P → Q) → OnErr r P → OnErr r Q
on_err (Ok x) P Q to h = tt
on_err (Err e) P Q to h = to h

pub holds_on_err : {X E : Type 0} (r : Result X E) (P : Type 0) → P → OnErr r P
holds_on_err (Ok x) P h = tt
holds_on_err (Err e) P h = h

-- what stands in front stays in front
pub front_stays : (old more new : List ℕ) → take (length (old ++ more)) new ≡ old ++ more → take (length old) new ≡ old
front_stays old more new h =
    sym (shorter (length old) (length (old ++ more)) new (omega (arith, length-append old more))) ∙ ap (take (length old)) h ∙ take_at old more (length old) refl
  where
    shorter : (m n : ℕ) (xs : List ℕ) → m ≤ n → take m (take n xs) ≡ take m xs
    shorter zero n xs le = refl
    shorter (suc m) zero xs le = absurd (omega arith)
    shorter (suc m) (suc n) [] le = refl
    shorter (suc m) (suc n) (x ∷ xs) le = ap (λ (w : List ℕ). x ∷ w) (shorter m n xs (omega arith))

pub none_written : (v old : List ℕ) → old ≡ old ++ many_encoding (to_be_bytes w64) (take 0 v)
unfolding many_encoding
none_written v old = sym (append-nil old)

pub one_more_written : (v : List ℕ) (i n : ℕ) (old now new : List ℕ) → i < length v → n ≡ entry v i → now ≡ old ++ many_encoding (to_be_bytes w64) (take i v) → new ≡ now ++ to_be_bytes w64 n
    → new ≡ old ++ many_encoding (to_be_bytes w64) (take (i + 1) v)
one_more_written v i n old now new lt is so_far written =
    let one : i + 1 ≡ suc i = omega arith in
    let taken : take (i + 1) v ≡ take i v ++ n ∷ [] = ap (λ (k : ℕ). take k v) one ∙ take-suc v i 0 lt ∙ ap (λ (x : ℕ). take i v ++ x ∷ []) (sym is) in
    written
    ∙ ap (λ (xs : List ℕ). xs ++ to_be_bytes w64 n) so_far
    ∙ append_assoc old (many_encoding (to_be_bytes w64) (take i v)) (to_be_bytes w64 n)
    ∙ ap (λ (xs : List ℕ). old ++ xs) (sym (many_encoding-push (to_be_bytes w64) (take i v) n))
    ∙ ap (λ (xs : List ℕ). old ++ many_encoding (to_be_bytes w64) xs) (sym taken)

-- five fields, one behind the other
pub five : (old one two three four new b c d : List ℕ) (a f : ℕ) → one ≡ old ++ a ∷ [] → two ≡ one ++ f ∷ [] → three ≡ two ++ b → four ≡ three ++ c → new ≡ four ++ d → new ≡ old ++ (a ∷ f ∷ (b ++ (c ++ d)))
five old one two three four new b c d a f p q r s t = rw (t, s, r, q, p) (simp append_assoc)

pub front_of_four : (old one two three four new b c : List ℕ) (a f : ℕ) → one ≡ old ++ a ∷ [] → two ≡ one ++ f ∷ [] → three ≡ two ++ b → four ≡ three ++ c → take (length four) new ≡ four → take (length old) new ≡ old
front_of_four old one two three four new b c a f p q r s h =
    let whole : four ≡ old ++ (a ∷ f ∷ (b ++ c)) = rw (s, r, q, p) (simp append_assoc) in
    front_stays old (a ∷ f ∷ (b ++ c)) new (ap (λ (xs : List ℕ). take (length xs) new) (sym whole) ∙ h ∙ whole)
