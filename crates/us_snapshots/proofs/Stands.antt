-- Which of two committed transactions stands earlier in a list.
use Rattle.std.proofs.Common.{◌≡◌, ◌⊎◌, inl, inr, ⊎_elim, ℕ, ◌<◌, ◌≤◌, List, [], ◌∷◌, ◌++◌, length, Bool, true, false, cond, refl, sym, ap, ◌∙◌, subst, arith}
use Rattle.std.proofs.Common.{true≢false}
use Rattle.us_kind.specs.Comparison.{In, tid_eq}
use Rattle.us_kind.specs.declared.identity.Tid.{Tid}
use Rattle.us_kind.proofs.TestLemmas.{tid_eq-same}
use Rattle.us_kind.specs.Updates.{AllLater}
use Rattle.us_kind.specs.Ascending.{all_in}
use Rattle.us_history.specs.Histories.{Committed}
use Rattle.us_snapshots.proofs.Tests.{cond-first, cond-second, apart-test}

-- c stands earlier than d
abbrev pub StandsEarlier : Committed → Committed → List Committed → Type 0
StandsEarlier c d [] = ⊥
StandsEarlier c d (x ∷ xs) = ((x ≡ c) × In d xs) ⊎ StandsEarlier c d xs

pub earlier_front : (c d : Committed) (xs ys : List Committed) → StandsEarlier c d xs → StandsEarlier c d (xs ++ ys)
earlier_front c d [] ys h = absurd h
earlier_front c d (x ∷ xs) ys (inl e) = inl (e.0, on xs e.1)
  where
    on : (xs : List Committed) → In d xs → In d (xs ++ ys)
    on [] h = absurd h
    on (x ∷ xs) (inl e) = inl e
    on (x ∷ xs) (inr h) = inr (on xs h)
earlier_front c d (x ∷ xs) ys (inr h) = inr (earlier_front c d xs ys h)

pub earlier_push : (c d : Committed) (xs : List Committed) → In c xs → StandsEarlier c d (xs ++ d ∷ [])
earlier_push c d [] h = absurd h
earlier_push c d (x ∷ xs) (inl e) = inl (e, on xs)
  where
    on : (xs : List Committed) → In d (xs ++ d ∷ [])
    on [] = inl refl
    on (x ∷ xs) = inr (on xs)
earlier_push c d (x ∷ xs) (inr h) = inr (earlier_push c d xs h)

-- of two of a list one stands earlier, unless they are one
pub one_earlier : (c d : Committed) (xs : List Committed) → In c xs → In d xs → (c ≡ d) ⊎ (StandsEarlier c d xs ⊎ StandsEarlier d c xs)
one_earlier c d [] i j = absurd i
one_earlier c d (x ∷ xs) (inl e) (inl f) = inl (sym e ∙ f)
one_earlier c d (x ∷ xs) (inl e) (inr j) = inr (inl (inl (e, j)))
one_earlier c d (x ∷ xs) (inr i) (inl f) = inr (inr (inl (f, i)))
one_earlier c d (x ∷ xs) (inr i) (inr j) =
    ⊎_elim (λ e. inl e) (λ h. ⊎_elim (λ a. inr (inl (inr a))) (λ b. inr (inr (inr b))) h) (one_earlier c d xs i j)

-- what holds of each earlier and later one
pub earlier_later : (R : Committed → Committed → Type 0) (c d : Committed) (xs : List Committed) → AllLater R xs → StandsEarlier c d xs → R c d
earlier_later R c d [] h k = absurd k
earlier_later R c d (x ∷ xs) h (inl e) = subst (λ y. R y d) e.0 (all_in (R x) xs d h.0 e.1)
earlier_later R c d (x ∷ xs) h (inr k) = earlier_later R c d xs h.1 k

-- two of one key are one
pub apart_one : {X K : Type 0} (key : X → K) (xs : List X) → AllLater (λ (x y : X). key x ≡ key y → ⊥) xs → (x y : X) → In x xs → In y xs → key x ≡ key y
    → x ≡ y
apart_one {X} {K} key [] h x y i j same = absurd i
apart_one {X} {K} key (z ∷ xs) h x y (inl e) (inl f) same = sym e ∙ f
apart_one {X} {K} key (z ∷ xs) h x y (inl e) (inr j) same = absurd (all_in (λ (w : X). key z ≡ key w → ⊥) xs y h.0 j (ap key e ∙ same))
apart_one {X} {K} key (z ∷ xs) h x y (inr i) (inl f) same = absurd (all_in (λ (w : X). key z ≡ key w → ⊥) xs x h.0 i (ap key f ∙ sym same))
apart_one {X} {K} key (z ∷ xs) h x y (inr i) (inr j) same = apart_one key xs h.1 x y i j same

-- transactions apart
abbrev pub TidsApart : List Committed → Type 0
TidsApart cs = AllLater (λ (c d : Committed). c.begun.tid ≡ d.begun.tid → ⊥) cs

-- both stand in the list
stands_first : (c d : Committed) (xs : List Committed) → StandsEarlier c d xs → In c xs
stands_first c d [] h = absurd h
stands_first c d (x ∷ xs) (inl e) = inl e.0
stands_first c d (x ∷ xs) (inr h) = inr (stands_first c d xs h)

pub stands_second : (c d : Committed) (xs : List Committed) → StandsEarlier c d xs → In d xs
stands_second c d [] h = absurd h
stands_second c d (x ∷ xs) (inl e) = inr e.1
stands_second c d (x ∷ xs) (inr h) = inr (stands_second c d xs h)

-- the first isn't among the rest
not_again : (x c : Committed) (xs : List Committed) → TidsApart (x ∷ xs) → In c xs → x ≡ c → ⊥
not_again x c xs apart i e = all_in (λ (y : Committed). x.begun.tid ≡ y.begun.tid → ⊥) xs c apart.0 i (ap (λ (y : Committed). y.begun.tid) e)

-- from one to the next
pub stands_further : (c d e : Committed) (xs : List Committed) → TidsApart xs → StandsEarlier c d xs → StandsEarlier d e xs → StandsEarlier c e xs
stands_further c d e [] apart h k = absurd h
stands_further c d e (x ∷ xs) apart (inl h) (inl k) = absurd (not_again x d xs apart h.1 k.0)
stands_further c d e (x ∷ xs) apart (inl h) (inr k) = inl (h.0, stands_second d e xs k)
stands_further c d e (x ∷ xs) apart (inr h) (inl k) = absurd (not_again x d xs apart (stands_second c d xs h) k.0)
stands_further c d e (x ∷ xs) apart (inr h) (inr k) = inr (stands_further c d e xs apart.1 h k)

-- HOW MANY stand behind a transaction
abbrev pub behind : Tid → List Committed → ℕ
behind tid [] = 0
behind tid (x ∷ xs) = cond (tid_eq x.begun.tid tid) (length xs) (behind tid xs)

pub behind-most : (tid : Tid) (xs : List Committed) → behind tid xs ≤ length xs
behind-most tid [] = omega arith
behind-most tid (x ∷ xs) = on (tid_eq x.begun.tid tid) (behind-most tid xs)
  where
    on : (b : Bool) → behind tid xs ≤ length xs → cond b (length xs) (behind tid xs) ≤ length (x ∷ xs)
    on true h = omega arith
    on false h = omega arith

behind-in : (d : Committed) (xs : List Committed) → In d xs → behind d.begun.tid xs < length xs
behind-in d [] i = absurd i
behind-in d (x ∷ xs) i = on (tid_eq x.begun.tid d.begun.tid) refl i (λ j. behind-in d xs j)
  where
    on : (b : Bool) → tid_eq x.begun.tid d.begun.tid ≡ b → In d (x ∷ xs) → (In d xs → behind d.begun.tid xs < length xs)
        → cond b (length xs) (behind d.begun.tid xs) < length (x ∷ xs)
    on true e i again = omega arith
    on false e (inl s) again = absurd (true≢false (sym (tid_eq-same d.begun.tid) ∙ ap (λ (y : Committed). tid_eq y.begun.tid d.begun.tid) (sym s) ∙ e))
    on false e (inr j) again = omega (arith, again j)

-- fewer behind the later one
pub behind-less : (c d : Committed) (xs : List Committed) → TidsApart xs → StandsEarlier c d xs → behind d.begun.tid xs < behind c.begun.tid xs
behind-less c d [] apart h = absurd h
behind-less c d (x ∷ xs) apart (inl h) =
    let first : behind c.begun.tid (x ∷ xs) ≡ length xs = cond-first (tid_eq x.begun.tid c.begun.tid) (length xs) (behind c.begun.tid xs)
    (ap (λ (y : Committed). tid_eq y.begun.tid c.begun.tid) h.0 ∙ tid_eq-same c.begun.tid) in
    let second : behind d.begun.tid (x ∷ xs) ≡ behind d.begun.tid xs = cond-second (tid_eq x.begun.tid d.begun.tid) (length xs) (behind d.begun.tid xs)
    (apart-test x.begun.tid d.begun.tid (all_in (λ (y : Committed). x.begun.tid ≡ y.begun.tid → ⊥) xs d apart.0 h.1)) in
    omega (arith, first, second, behind-in d xs h.1)
behind-less c d (x ∷ xs) apart (inr h) =
    omega (arith, skip c (stands_first c d xs h), skip d (stands_second c d xs h), behind-less c d xs apart.1 h)
  where
    skip : (e : Committed) → In e xs → behind e.begun.tid (x ∷ xs) ≡ behind e.begun.tid xs
    skip e i =
        cond-second (tid_eq x.begun.tid e.begun.tid) (length xs) (behind e.begun.tid xs)
        (apart-test x.begun.tid e.begun.tid (all_in (λ (y : Committed). x.begun.tid ≡ y.begun.tid → ⊥) xs e apart.0 i))
