-- Each session's committed transactions are numbered from 1, in the order of decision.
use Rattle.std.proofs.Common.{◌≡◌, ◌∙◌, inl, inr, ℕ, zero, suc, ◌+◌, ◌<◌, ◌≤◌, List, [], ◌∷◌, ◌++◌, length, Bool, true, false, cond, map, refl, sym, ap, subst}
use Rattle.std.proofs.Common.{arith, append-nil, true≢false}
use Rattle.std.specs.List.{range_with_len}
use Rattle.std.proofs.lemmas.List.{map-append, length-append}
use Rattle.std.proofs.lemmas.List.Elements.{filter-append}
use Rattle.us_kind.specs.Comparison.{In}
use Rattle.us_kind.specs.Updates.{All, AllLater}
use Rattle.us_kind.specs.Histories.{all_from}
use Rattle.us_kind.specs.Ascending.{all_in}
use Rattle.us_kind.proofs.ListLemmas.{filter_in}
use Rattle.us_exec.specs.declared.SessionName.{SessionName}
use Rattle.us_exec.specs.Past.{session_eq}
use Rattle.us_history.specs.Histories.{Committed, committed_in, of_session, AreNumbered}
use Rattle.us_snapshots.proofs.Tests.{session_eq-true, session_eq-same}

-- EARLIER AND LATER ONES
all_within : {X : Type 0} (P Q : X → Type 0) (xs : List X) → ((x : X) → In x xs → P x → Q x) → All P xs → All Q xs
all_within P Q [] f h = tt
all_within P Q (x ∷ xs) f h = (f x (inl refl) h.0, all_within P Q xs (λ y i. f y (inr i)) h.1)

pub later_in : {X : Type 0} (R S : X → X → Type 0) (xs : List X) → ((x y : X) → In x xs → In y xs → R x y → S x y) → AllLater R xs → AllLater S xs
later_in R S [] f h = tt
later_in R S (x ∷ xs) f h = (all_within (R x) (S x) xs (λ y i. f x y (inl refl) (inr i)) h.0, later_in R S xs (λ y z i j. f y z (inr i) (inr j)) h.1)

-- NUMBERED FROM a ON
number-above : (a : ℕ) (cs : List Committed) → map (λ (c : Committed). c.number) cs ≡ range_with_len a (length cs) → (d : Committed) → In d cs → a ≤ d.number
number-above a [] e d h = absurd h
number-above a (c ∷ cs) e d h =
    let here : c.number ≡ a = cc in
    let rest : map (λ (x : Committed). x.number) cs ≡ range_with_len (a + 1) (length cs) = cc in
    on here h (λ i. number-above (a + 1) cs rest d i)
  where
    on : c.number ≡ a → In d (c ∷ cs) → (In d cs → a + 1 ≤ d.number) → a ≤ d.number
    on here (inl s) again = let n : c.number ≡ d.number = ap (λ (x : Committed). x.number) s in omega arith
    on here (inr i) again = let k = again i in omega arith

pub numbers_rise : (a : ℕ) (cs : List Committed) → map (λ (c : Committed). c.number) cs ≡ range_with_len a (length cs)
    → AllLater (λ (c d : Committed). c.number < d.number) cs
numbers_rise a [] e = tt
numbers_rise a (c ∷ cs) e =
    let here : c.number ≡ a = cc in
    let rest : map (λ (x : Committed). x.number) cs ≡ range_with_len (a + 1) (length cs) = cc in
    (all_from (λ (d : Committed). c.number < d.number) cs (λ d i. let k = number-above (a + 1) cs rest d i in omega arith), numbers_rise (a + 1) cs rest)

-- ONE MORE IS COMMITTED
range_more : (a n : ℕ) → range_with_len a (suc n) ≡ range_with_len a n ++ (a + n) ∷ []
range_more a zero = let e : a ≡ a + 0 = omega arith in ap (λ m. m ∷ []) e
range_more a (suc n) = let e : a + 1 + n ≡ a + suc n = omega arith in ap (λ ms. a ∷ ms) (range_more (a + 1) n ∙ ap (λ m. range_with_len (a + 1) n ++ m ∷ []) e)

pub counted_session : (s : SessionName) (cs : List Committed) → committed_in s cs ≡ length (of_session s cs)
counted_session s [] = refl
counted_session s (c ∷ cs) = on (session_eq c.begun.session s) (counted_session s cs)
  where
    on : (b : Bool) → committed_in s cs ≡ length (of_session s cs)
        → cond b (committed_in s cs + 1) (committed_in s cs) ≡ length (cond b (c ∷ of_session s cs) (of_session s cs))
    on true e = omega (arith, e)
    on false e = e

pub numbers_more : (cs : List Committed) (c : Committed) → AreNumbered cs → c.number ≡ committed_in c.begun.session cs + 1 → AreNumbered (cs ++ c ∷ [])
numbers_more cs c h number s =
    let split : of_session s (cs ++ c ∷ []) ≡ of_session s cs ++ of_session s (c ∷ []) =
    filter-append (λ (x : Committed). session_eq x.begun.session s) cs (c ∷ []) in
    subst (λ xs. map (λ (x : Committed). x.number) xs ≡ range_with_len 1 (length xs)) (sym split) (on (session_eq c.begun.session s) refl)
  where
    on : (b : Bool) → session_eq c.begun.session s ≡ b
        → map (λ (x : Committed). x.number) (of_session s cs ++ cond b (c ∷ []) []) ≡ range_with_len 1 (length (of_session s cs ++ cond b (c ∷ []) []))
    on true e =
        let xs = of_session s cs in
        let same : c.number ≡ 1 + length xs =
        number ∙ ap (λ q. committed_in q cs + 1) (session_eq-true c.begun.session s e) ∙ omega (arith, counted_session s cs) in
        let longer : length (xs ++ c ∷ []) ≡ suc (length xs) = omega (arith, length-append xs (c ∷ [])) in
        map-append (λ (x : Committed). x.number) xs (c ∷ [])
        ∙ (λ i. h s i ++ same i ∷ [])
        ∙ sym (ap (range_with_len 1) longer ∙ range_more 1 (length xs))
    on false e =
        let xs = of_session s cs in
        subst (λ ys. map (λ (x : Committed). x.number) ys ≡ range_with_len 1 (length ys)) (sym (append-nil xs)) (h s)

-- of two of a session the one that was decided first has the lesser number
abbrev pub RisesInSession : Committed → Committed → Type 0
RisesInSession c d = c.begun.session ≡ d.begun.session → c.number < d.number

rises : (cs : List Committed) → ((s : SessionName) → AllLater (λ (c d : Committed). c.number < d.number) (of_session s cs)) → AllLater RisesInSession cs
rises [] h = tt
rises (c ∷ cs) h = (
  all_from (RisesInSession c) cs (λ d i same. first d (h c.begun.session)
      (filter_in (λ (x : Committed). session_eq x.begun.session c.begun.session) d cs i
      (ap (λ x. session_eq x c.begun.session) (sym same) ∙ session_eq-same c.begun.session))),
  rises cs (λ s. rest s (session_eq c.begun.session s) (h s)),
)
  where
    Less : Committed → Committed → Type 0
    Less x y = x.number < y.number

    here : (b : Bool) → b ≡ true → AllLater Less (cond b (c ∷ of_session c.begun.session cs) (of_session c.begun.session cs))
        → All (Less c) (of_session c.begun.session cs)
    here true e k = k.0
    here false e k = absurd (true≢false (sym e))

    first : (d : Committed) → AllLater Less (of_session c.begun.session (c ∷ cs)) → In d (of_session c.begun.session cs) → c.number < d.number
    first d k i = all_in (Less c) (of_session c.begun.session cs) d (here (session_eq c.begun.session c.begun.session) (session_eq-same c.begun.session) k) i

    rest : (s : SessionName) (b : Bool) → AllLater Less (cond b (c ∷ of_session s cs) (of_session s cs)) → AllLater Less (of_session s cs)
    rest s true k = k.1
    rest s false k = k

pub numbers_ascend : (cs : List Committed) → AreNumbered cs → AllLater RisesInSession cs
numbers_ascend cs are = rises cs (λ s. numbers_rise 1 (of_session s cs) (are s))

-- the numbers that there are
pub number_within : (a : ℕ) (cs : List Committed) → map (λ (c : Committed). c.number) cs ≡ range_with_len a (length cs) → (d : Committed) → In d cs
    → (a ≤ d.number) × (d.number < a + length cs)
number_within a [] e d h = absurd h
number_within a (c ∷ cs) e d (inl s) =
    let here : c.number ≡ a = cc in
    let n : c.number ≡ d.number = ap (λ (x : Committed). x.number) s in
    (omega arith, omega arith)
number_within a (c ∷ cs) e d (inr i) =
    let rest : map (λ (x : Committed). x.number) cs ≡ range_with_len (a + 1) (length cs) = cc in
    let h = number_within (a + 1) cs rest d i in
    (omega (arith, h.0), omega (arith, h.1))
