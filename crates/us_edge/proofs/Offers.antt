-- How many bytes were offered to a connection.
use Rattle.std.proofs.Common.{◌≡◌, ℕ, ◌+◌, ◌==◌, Bool, true, false, cond, List, [], ◌∷◌, ◌++◌, length, Option, Some, refl, sym, ap, ◌∙◌, arith, ⊎_elim, length-append, add-zero}
use Rattle.std.specs.Option.{unwrap_or}
use Rattle.std.specs.Ordering.{nat_cmp, is_eq}
use Rattle.std.proofs.lemmas.Bool.Decides.{nat_tests, eqb_tells}
use Rattle.us_edge.specs.Links.{offered_to}
use Rattle.us_edge.specs.declared.links.Offer.{Offer}
use Rattle.us_edge.specs.declared.links.Offer.TheVariants.{Client, Peer}

-- one more offer to a client adds its bytes where it is for the connection
length-offered_to-client : (k conn : ℕ) (bytes : List ℕ) (xs : List Offer) → length (offered_to k (xs ++ Client conn bytes ∷ [])) ≡ length (offered_to k xs) + cond (conn == k) (length bytes) 0
length-offered_to-client k conn bytes [] = more (conn == k) where
  more : (b : Bool) → length (cond b (bytes ++ []) []) ≡ 0 + cond b (length bytes) 0
  more true = omega (arith, length-append bytes [])
  more false = refl
length-offered_to-client k conn bytes (Client other text ∷ xs) = more (other == k) (offered_to k (xs ++ Client conn bytes ∷ [])) (offered_to k xs) _ (length-offered_to-client k conn bytes xs) where
  more : (b : Bool) (now before : List ℕ) (n : ℕ) → length now ≡ length before + n → length (cond b (text ++ now) now) ≡ length (cond b (text ++ before) before) + n
  more true now before n e = omega (arith, length-append text now, length-append text before, e)
  more false now before n e = e
length-offered_to-client k conn bytes (Peer site text ∷ xs) = length-offered_to-client k conn bytes xs

-- an offer to another site adds nothing
pub offered_to-peer : (k site : ℕ) (bytes : List ℕ) (xs : List Offer) → offered_to k (xs ++ Peer site bytes ∷ []) ≡ offered_to k xs
offered_to-peer k site bytes [] = refl
offered_to-peer k site bytes (Client other text ∷ xs) = ap (λ (now : List ℕ). cond (other == k) (text ++ now) now) (offered_to-peer k site bytes xs)
offered_to-peer k site bytes (Peer other text ∷ xs) = offered_to-peer k site bytes xs

is_eq-nat_cmp : (a b : ℕ) → is_eq (nat_cmp a b) ≡ (a == b)
is_eq-nat_cmp a b = grind (arith, nat_tests)

-- the connection's sum grows with its bytes, and the others stay
pub client_total : (k conn total : ℕ) (xs : List Offer) (bytes : List ℕ) (old new : Option ℕ) → new ≡ cond (is_eq (nat_cmp conn k)) (Some total) old → unwrap_or old 0 ≡ length (offered_to k xs) → total ≡ length (offered_to conn xs) + length bytes → unwrap_or new 0 ≡ length (offered_to k (xs ++ Client conn bytes ∷ []))
client_total k conn total xs bytes old new at before is_total =
    ap (λ (o : Option ℕ). unwrap_or o 0) (at ∙ ap (λ (b : Bool). cond {A = Option ℕ} b (Some total) old) (is_eq-nat_cmp conn k)) ∙ ⊎_elim (λ e. rw e.0 (is_total ∙ ap (λ (j : ℕ). length (offered_to j xs) + length bytes) e.1)) (λ e. rw e.0 (before ∙ sym (add-zero _))) (eqb_tells conn k) ∙ sym (length-offered_to-client k conn bytes xs)
