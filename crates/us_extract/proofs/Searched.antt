-- The greatest number that passes a test, found by binary search.
use Rattle.std.proofs.Common.{◌≡◌, ◌∙◌, inl, inr, ℕ, zero, suc, ◌+◌, ◌-◌, ◌<◌, ◌≤◌, List, [], ◌∷◌, length, Bool, true, false, cond, Some, map, max}
use Rattle.std.proofs.Common.{refl, sym, ap, subst, arith, true≢false}
use Rattle.std.specs.Prelude.{◌&&◌, ◌||◌, not, nat_lt, filter, slice_get, slice_index_or}
use Rattle.std.specs.List.{AllWithin}
use Rattle.std.specs.List.Sorted.{IsPartitionedBy, IsPartitionPoint}
use Rattle.std.proofs.lemmas.Bool.Decides.{nat_tests}
use Rattle.std.proofs.lemmas.Bool.{and_parts}
use Rattle.std.proofs.lemmas.List.{length-map}
use Rattle.std.proofs.lemmas.List.Elements.{filter_agree}
use Rattle.us_kind.specs.Comparison.{In, tid_eq}
use Rattle.us_kind.specs.Updates.{All, AllLater}
use Rattle.us_kind.proofs.ListLemmas.{in_filter}
use Rattle.us_kind.proofs.Members.{later_filter}
use Rattle.us_base.specs.Vector.{at_most}
use Rattle.us_base.proofs.Vectors.{at_most-trans}
use Rattle.us_exec.specs.declared.SessionName.{SessionName}
use Rattle.us_exec.specs.Past.{session_eq}
use Rattle.us_history.specs.Histories.{Begun, Committed, History, has_own_vector, committed_in}
use Rattle.us_history.specs.Pasts.{count_of}
use Rattle.us_snapshots.specs.Ascending.{SessionsAscend, IsNotInItsOwn, Ascends}
use Rattle.us_history.specs.Histories.{of_session}
use Rattle.us_history.specs.Pasts.{count_of}
use Rattle.us_extract.specs.PastSearch.{steps_to}
use Rattle.us_snapshots.proofs.Numbers.{later_in, numbers_rise}
use Rattle.us_snapshots.proofs.Tests.{session_eq-true, session_eq-same}
use Rattle.us_kind.proofs.TestLemmas.{tid_eq-true}
use Rattle.us_index.specs.Places.{places_of}
use Rattle.us_extract.specs.declared.commits.Group.{Group}
use Rattle.us_extract.specs.PastSearch.{group_of, IsIndexed, updates_so, is_in_group, greatest, is_earlier, is_shown, is_earlier_of, is_shown_of}
use Rattle.us_extract.specs.PastSearch.{IsSearchable, found_at, passes, number_of, greatest_found, StandsFirst, PassFirst}

-- EARLIER AND LATER ONES
all_over : {X Y : Type 0} (P : Y → Type 0) (f : X → Y) (xs : List X) → All (λ x. P (f x)) xs → All P (map f xs)
all_over P f [] h = tt
all_over P f (x ∷ xs) h = (h.0, all_over P f xs h.1)

later_over : {X Y : Type 0} (R : Y → Y → Type 0) (f : X → Y) (xs : List X) → AllLater (λ x y. R (f x) (f y)) xs → AllLater R (map f xs)
later_over R f [] h = tt
later_over R f (x ∷ xs) h = (all_over (R (f x)) f xs h.0, later_over R f xs h.1)

-- one of all
all_at : {X Y : Type 0} (P : Y → Type 0) (f : X → Y) (xs : List X) (i : ℕ) (d : X) → i < length xs → All P (map f xs) → P (f (slice_index_or xs i d))
all_at P f [] i d less h = absurd (omega arith)
all_at P f (x ∷ xs) zero d less h = h.0
all_at P f (x ∷ xs) (suc i) d less h = all_at P f xs i d (omega arith) h.1

-- FILTERS
filter-both : {X : Type 0} (p q : X → Bool) (xs : List X) → filter q (filter p xs) ≡ filter (λ x. p x && q x) xs
filter-both p q [] = refl
filter-both p q (x ∷ xs) = on (p x) (filter-both p q xs)
  where
    on : (a : Bool) → filter q (filter p xs) ≡ filter (λ y. p y && q y) xs
        → filter q (cond a (x ∷ filter p xs) (filter p xs)) ≡ cond (a && q x) (x ∷ filter (λ y. p y && q y) xs) (filter (λ y. p y && q y) xs)
    on true k = λ i. cond (q x) (x ∷ k i) (k i)
    on false k = k

-- THE PLACES OF A GROUP
found-places : {K : Type 0} (f : K → Bool) (key : Committed → K) (all : List Committed) (k : ℕ) (cs : List Committed)
    → ((j : ℕ) → slice_get all (k + j) ≡ slice_get cs j)
    → found_at all (places_of f k (map key cs)) ≡ map (λ c. Some c) (filter (λ c. f (key c)) cs)
found-places f key all k [] there = refl
found-places f key all k (c ∷ cs) there =
    on (f (key c)) (found-places f key all (k + 1) cs (λ j. let e : k + 1 + j ≡ k + suc j = omega arith in ap (slice_get all) e ∙ there (suc j)))
  where
    here : slice_get all k ≡ Some c
    here = let e : k ≡ k + 0 = omega arith in ap (slice_get all) e ∙ there 0

    on : (b : Bool) → found_at all (places_of f (k + 1) (map key cs)) ≡ map (λ d. Some d) (filter (λ d. f (key d)) cs)
        → found_at all (cond b (k ∷ places_of f (k + 1) (map key cs)) (places_of f (k + 1) (map key cs))) ≡ map (λ d. Some d)
        (cond b (c ∷ filter (λ d. f (key d)) cs) (filter (λ d. f (key d)) cs))
    on true e = λ i. here i ∷ e i
    on false e = e

-- the test of a group's key
group-test : (q : Group → Bool) (s : SessionName) (updates : Bool)
    → ((a : SessionName) (b : Bool) → q (record { session = a; updates = b }) ≡ (session_eq a s && cond updates b (not b))) → (c : Committed)
    → q (group_of c) ≡ is_in_group s updates c
group-test q s true h c = h c.begun.session (has_own_vector c)
group-test q s false h c = h c.begun.session (has_own_vector c)

pub group_found : (q : Group → Bool) (s : SessionName) (updates : Bool) (cs : List Committed) (keys : List Group) (places : List ℕ)
    → ((a : SessionName) (b : Bool) → q (record { session = a; updates = b }) ≡ (session_eq a s && cond updates b (not b)))
    → IsIndexed cs keys → places ≡ places_of q 0 keys → found_at cs places ≡ map (λ c. Some c) (filter (is_in_group s updates) cs)
group_found q s updates cs keys places test h found =
    ap (found_at cs) (found ∙ ap (places_of q 0) h.groups)
    ∙ found-places q group_of cs 0 cs (λ j. let e : 0 + j ≡ j = omega arith in ap (slice_get cs) e)
    ∙ ap (map (λ c. Some c)) (filter_agree (λ c. q (group_of c)) (is_in_group s updates) (group-test q s updates test) cs)

-- both groups are the session's
pub both_groups : (s : SessionName) (cs : List Committed) (ps qs : List ℕ) → found_at cs ps ≡ map (λ c. Some c) (filter (is_in_group s true) cs)
    → found_at cs qs ≡ map (λ c. Some c) (filter (is_in_group s false) cs)
    → length ps + length qs ≡ committed_in s cs
both_groups s cs ps qs p q =
    let a : length ps ≡ length (filter (is_in_group s true) cs) = as-long ps _ p in
    let b : length qs ≡ length (filter (is_in_group s false) cs) = as-long qs _ q in
    let all = parts cs in
    omega arith
  where
    as-long : (is : List ℕ) (ds : List Committed) → found_at cs is ≡ map (λ c. Some c) ds → length is ≡ length ds
    as-long is ds e = sym (length-map is (λ i. slice_get cs i)) ∙ ap length e ∙ length-map ds (λ c. Some c)

    parts : (ds : List Committed) → length (filter (is_in_group s true) ds) + length (filter (is_in_group s false) ds) ≡ committed_in s ds
    parts [] = refl
    parts (d ∷ ds) = on (session_eq d.begun.session s) (has_own_vector d) (parts ds)
      where
        on : (a u : Bool) → length (filter (is_in_group s true) ds) + length (filter (is_in_group s false) ds) ≡ committed_in s ds
            → length (cond (a && u) (d ∷ filter (is_in_group s true) ds) (filter (is_in_group s true) ds)) + length
            (cond (a && not u) (d ∷ filter (is_in_group s false) ds) (filter (is_in_group s false) ds)) ≡ cond a (committed_in s ds + 1)
            (committed_in s ds)
        on true true e = omega arith
        on true false e = omega arith
        on false u e = e

-- BY HALVES
-- those that pass stand before those that don't
pub parted : (test : Committed → Bool) (cs : List Committed) (is : List ℕ) → PassFirst test (found_at cs is)
    → IsPartitionedBy (λ i. passes test (slice_get cs i)) is
parted test cs is h i j d le less pass = at is i j le less h pass
  where
    at : (is : List ℕ) (i j : ℕ) → i ≤ j → j < length is → PassFirst test (found_at cs is) → passes test (slice_get cs (slice_index_or is j d)) ≡ true
        → passes test (slice_get cs (slice_index_or is i d)) ≡ true
    at [] i j le less h pass = absurd (omega arith)
    at (x ∷ is) zero zero le less h pass = pass
    at (x ∷ is) zero (suc j) le less h pass = (all_at (StandsFirst test (slice_get cs x)) (λ i. slice_get cs i) is j d (omega arith) h.0).passing pass
    at (x ∷ is) (suc i) zero le less h pass = absurd (omega arith)
    at (x ∷ is) (suc i) (suc j) le less h pass = at is i j (omega arith) (omega arith) h.1 pass

none_passes : (test : Committed → Bool) (cs : List Committed) (is : List ℕ) → AllWithin (λ i. passes test (slice_get cs i) ≡ false) is 0 (length is)
    → greatest_found test (found_at cs is) ≡ 0
none_passes test cs [] h = refl
none_passes test cs (i ∷ is) h =
    on (passes test (slice_get cs i)) (h 0 0 (omega arith) (omega arith))
    (none_passes test cs is (λ k d low high. h (suc k) d (omega arith) (omega arith)))
  where
    on : (b : Bool) → b ≡ false → greatest_found test (found_at cs is) ≡ 0
        → cond b (max (number_of (slice_get cs i)) (greatest_found test (found_at cs is))) (greatest_found test (found_at cs is)) ≡ 0
    on true e k = absurd (true≢false e)
    on false e k = k

last_passes : (test : Committed → Bool) (cs : List Committed) (is : List ℕ) (k : ℕ) → k < length is
    → AllWithin (λ i. passes test (slice_get cs i) ≡ true) is 0 (k + 1) → AllWithin (λ i. passes test (slice_get cs i) ≡ false) is (k + 1) (length is)
    → PassFirst test (found_at cs is) → number_of (slice_get cs (slice_index_or is k 0)) ≡ greatest_found test (found_at cs is)
last_passes test cs [] k less front back h = absurd (omega arith)
last_passes test cs (i ∷ is) zero less front back h =
    on (passes test (slice_get cs i)) (front 0 0 (omega arith) (omega arith))
    (none_passes test cs is (λ k d low high. back (suc k) d (omega arith) (omega arith)))
  where
    on : (b : Bool) → b ≡ true → greatest_found test (found_at cs is) ≡ 0
        → number_of (slice_get cs i) ≡ cond b (max (number_of (slice_get cs i)) (greatest_found test (found_at cs is)))
        (greatest_found test (found_at cs is))
    on true e k = omega arith
    on false e k = absurd (true≢false (sym e))
last_passes test cs (i ∷ is) (suc k) less front back h =
    on (passes test (slice_get cs i)) (front 0 0 (omega arith) (omega arith))
    (last_passes test cs is k (omega arith) (λ n d low high. front (suc n) d (omega arith) (omega arith))
    (λ n d low high. back (suc n) d (omega arith) (omega arith)) h.1)
    (all_at (StandsFirst test (slice_get cs i)) (λ j. slice_get cs j) is k 0 (omega arith) h.0).numbers
  where
    on : (b : Bool) → b ≡ true → number_of (slice_get cs (slice_index_or is k 0)) ≡ greatest_found test (found_at cs is)
        → number_of (slice_get cs i) ≤ number_of (slice_get cs (slice_index_or is k 0))
        → number_of (slice_get cs (slice_index_or is k 0)) ≡ cond b (max (number_of (slice_get cs i)) (greatest_found test (found_at cs is)))
        (greatest_found test (found_at cs is))
    on true e same le = omega arith
    on false e same le = absurd (true≢false (sym e))

-- where the point is 0 none passes, and else the one before it is the last that does
abbrev pub IsPoint : (Committed → Bool) → List Committed → List ℕ → ℕ → Type 0
IsPoint test cs is n = IsPartitionPoint (λ i. passes test (slice_get cs i) ≡ true) (λ i. passes test (slice_get cs i) ≡ false) is n

pub point_none : (test : Committed → Bool) (cs : List Committed) (is : List ℕ) (n : ℕ) → IsPoint test cs is n → n ≡ 0 → 0 ≡ greatest_found test (found_at cs is)
point_none test cs is n point z = sym (none_passes test cs is (subst (λ m. AllWithin (λ i. passes test (slice_get cs i) ≡ false) is m (length is)) z point.1))

pub point_last : (test : Committed → Bool) (cs : List Committed) (is : List ℕ) (n : ℕ) → IsPoint test cs is n → (n ≡ 0 → ⊥) → n ≤ length is
    → PassFirst test (found_at cs is)
    → number_of (slice_get cs (slice_index_or is (n - 1) 0)) ≡ greatest_found test (found_at cs is)
point_last test cs is n point some bound first =
    let next : n ≡ (n - 1) + 1 = omega arith in
    let less : n - 1 < length is = omega arith in
    last_passes test cs is (n - 1) less
    (subst (λ m. AllWithin (λ i. passes test (slice_get cs i) ≡ true) is 0 m) next point.0)
    (subst (λ m. AllWithin (λ i. passes test (slice_get cs i) ≡ false) is m (length is)) next point.1)
    first

-- THE GREATEST OF A GROUP
greatest-some : (test : Committed → Bool) (cs : List Committed) → greatest_found test (map (λ c. Some c) cs) ≡ greatest test cs
greatest-some test [] = refl
greatest-some test (c ∷ cs) = ap (λ n. cond (test c) (max c.number n) n) (greatest-some test cs)

greatest-filter : (p test : Committed → Bool) (cs : List Committed) → greatest test (filter p cs) ≡ greatest (λ c. p c && test c) cs
greatest-filter p test [] = refl
greatest-filter p test (c ∷ cs) = on (p c) (greatest-filter p test cs)
  where
    on : (b : Bool) → greatest test (filter p cs) ≡ greatest (λ d. p d && test d) cs
        → greatest test (cond b (c ∷ filter p cs) (filter p cs)) ≡ cond (b && test c) (max c.number (greatest (λ d. p d && test d) cs))
        (greatest (λ d. p d && test d) cs)
    on true e = ap (λ n. cond (test c) (max c.number n) n) e
    on false e = e

pub group_greatest : (s : SessionName) (updates : Bool) (test : Committed → Bool) (cs : List Committed) (is : List ℕ)
    → found_at cs is ≡ map (λ c. Some c) (filter (is_in_group s updates) cs)
    → greatest_found test (found_at cs is) ≡ greatest (λ c. is_in_group s updates c && test c) cs
group_greatest s updates test cs is found =
    ap (greatest_found test) found ∙ greatest-some test (filter (is_in_group s updates) cs) ∙ greatest-filter (is_in_group s updates) test cs

-- a test that the earlier ones of a session pass where the later ones do
abbrev pub Falls : (Committed → Bool) → List Committed → Type 0
Falls test cs = (c d : Committed) → In c cs → In d cs → c.begun.session ≡ d.begun.session → c.number < d.number → test d ≡ true → test c ≡ true

pub group_first : (s : SessionName) (updates : Bool) (test : Committed → Bool) (cs : List Committed) (keys : List Group) (is : List ℕ)
    → IsIndexed cs keys → Falls test cs
    → found_at cs is ≡ map (λ c. Some c) (filter (is_in_group s updates) cs) → PassFirst test (found_at cs is)
group_first s updates test cs keys is h falls found =
    let xs = filter (is_in_group s updates) cs in
    let rise : AllLater (λ (c d : Committed). c.number < d.number) (filter (updates_so updates) (of_session s cs)) =
    later_filter (λ (c d : Committed). c.number < d.number) (updates_so updates) (of_session s cs) (numbers_rise 1 (of_session s cs) (h.numbers s))
    in
    let risen : AllLater (λ (c d : Committed). c.number < d.number) xs =
    subst (λ ys. AllLater (λ (c d : Committed). c.number < d.number) ys)
    (filter-both (λ (c : Committed). session_eq c.begun.session s) (updates_so updates) cs) rise
    in
    subst (PassFirst test) (sym found)
    (later_over (StandsFirst test) (λ c. Some c) xs
    (later_in (λ (c d : Committed). c.number < d.number) (λ c d. StandsFirst test (Some c) (Some d)) xs
    (λ c d i j less. on c d (in_filter (is_in_group s updates) c cs i) (in_filter (is_in_group s updates) d cs j) less) risen))
  where
    in_session : (c : Committed) → is_in_group s updates c ≡ true → c.begun.session ≡ s
    in_session c e = session_eq-true c.begun.session s (and_parts _ _ e).0

    on : (c d : Committed) → In c cs × (is_in_group s updates c ≡ true) → In d cs × (is_in_group s updates d ≡ true) → c.number < d.number
        → StandsFirst test (Some c) (Some d)
    on c d i j less = record { passing = falls c d i.0 j.0 (in_session c i.1 ∙ sym (in_session d j.1)) less; numbers = omega arith }

-- the two tests are such
pub earlier_falls : (seq : ℕ) (cs : List Committed) → SessionsAscend cs → Falls (is_earlier seq) cs
earlier_falls seq cs h c d i j same less pass = below c.begun.tid.seq d.begun.tid.seq (h.seqs c d i j same less) pass
  where
    below : (a b : ℕ) → a < b → nat_lt b seq ≡ true → nat_lt a seq ≡ true
    below a b less e = grind (arith, nat_tests)

pub shown_falls : (snapshot : List ℕ) (cs : List Committed) → SessionsAscend cs → Falls (is_shown snapshot) cs
shown_falls snapshot cs h c d i j same less pass = at_most-trans c.vector d.vector snapshot (h.vectors c d i j same less) pass

-- BOTH GROUPS, AND WHAT LEADS
-- one test or the other
greatest-or : (p a b : Committed → Bool) (cs : List Committed) → ((c : Committed) → In c cs → p c ≡ (a c || b c))
    → greatest p cs ≡ max (greatest a cs) (greatest b cs)
greatest-or p a b [] h = refl
greatest-or p a b (c ∷ cs) h = on (p c) (a c) (b c) (h c (inl refl)) (greatest-or p a b cs (λ d i. h d (inr i)))
  where
    on : (x y z : Bool) → x ≡ (y || z) → greatest p cs ≡ max (greatest a cs) (greatest b cs)
        → cond x (max c.number (greatest p cs)) (greatest p cs) ≡ max (cond y (max c.number (greatest a cs)) (greatest a cs))
        (cond z (max c.number (greatest b cs)) (greatest b cs))
    on true true z e k = on-both z k
      where
        on-both : (z : Bool) → greatest p cs ≡ max (greatest a cs) (greatest b cs)
            → max c.number (greatest p cs) ≡ max (max c.number (greatest a cs)) (cond z (max c.number (greatest b cs)) (greatest b cs))
        on-both true k = omega arith
        on-both false k = omega arith
    on true false true e k = omega arith
    on true false false e k = absurd (true≢false e)
    on false true z e k = absurd (true≢false (sym e))
    on false false true e k = absurd (true≢false (sym e))
    on false false false e k = k

greatest-none : (p : Committed → Bool) (cs : List Committed) → ((c : Committed) → In c cs → p c ≡ false) → greatest p cs ≡ 0
greatest-none p [] h = refl
greatest-none p (c ∷ cs) h = on (p c) (h c (inl refl)) (greatest-none p cs (λ d i. h d (inr i)))
  where
    on : (x : Bool) → x ≡ false → greatest p cs ≡ 0 → cond x (max c.number (greatest p cs)) (greatest p cs) ≡ 0
    on true e k = absurd (true≢false e)
    on false e k = k

pub earlier_both : (s : SessionName) (seq : ℕ) (cs : List Committed)
    → max (greatest (λ c. is_in_group s true c && is_earlier seq c) cs) (greatest (λ c. is_in_group s false c && is_earlier seq c) cs) ≡ greatest
    (is_earlier_of s seq) cs
earlier_both s seq cs =
    sym (greatest-or (is_earlier_of s seq) (λ c. is_in_group s true c && is_earlier seq c) (λ c. is_in_group s false c && is_earlier seq c) cs
    (λ c i. on (session_eq c.begun.session s) (has_own_vector c) (is_earlier seq c)))
  where
    on : (a u e : Bool) → (a && e) ≡ (((a && u) && e) || ((a && not u) && e))
    on true true true = refl
    on true true false = refl
    on true false e = refl
    on false u e = refl

direct-is : (s : SessionName) (t : Begun) (cs : List Committed) → count_of (steps_to t) s cs ≡ greatest (λ c. session_eq c.begun.session s && steps_to t c) cs
direct-is s t [] = refl
direct-is s t (c ∷ cs) = ap (λ n. cond (session_eq c.begun.session s && steps_to t c) (max c.number n) n) (direct-is s t cs)

less-self : (n : ℕ) → nat_lt n n ≡ false
less-self n = grind (arith, nat_tests)

-- the transaction itself is neither earlier nor shown
is_step-either : (cs : List Committed) (t : Begun) → IsNotInItsOwn cs t → (c : Committed) → In c cs
    → steps_to t c ≡ ((session_eq c.begun.session t.session && nat_lt c.begun.tid.seq t.tid.seq) || (has_own_vector c && at_most c.vector t.snapshot))
is_step-either cs t others c i =
    on (tid_eq c.begun.tid t.tid) refl (session_eq c.begun.session t.session) (nat_lt c.begun.tid.seq t.tid.seq) refl (has_own_vector c) refl
    (at_most c.vector t.snapshot) refl
  where
    on : (b : Bool) → tid_eq c.begun.tid t.tid ≡ b → (s l : Bool) → nat_lt c.begun.tid.seq t.tid.seq ≡ l → (u : Bool) → has_own_vector c ≡ u
        → (m : Bool) → at_most c.vector t.snapshot ≡ m
        → (not b && ((s && l) || (u && m))) ≡ ((s && l) || (u && m))
    on false e s l f u g m k = refl
    on true e s true f u g m k =
        absurd (true≢false (sym f ∙ ap (λ (n : ℕ). nat_lt n t.tid.seq) (ap (λ x. x.seq) (tid_eq-true c.begun.tid t.tid e)) ∙ less-self t.tid.seq))
    on true e true false f true g true k = absurd (others c i g k (tid_eq-true c.begun.tid t.tid e))
    on true e true false f true g false k = refl
    on true e true false f false g m k = refl
    on true e false false f true g true k = absurd (others c i g k (tid_eq-true c.begun.tid t.tid e))
    on true e false false f true g false k = refl
    on true e false false f false g m k = refl

direct-or : (s : SessionName) (t : Begun) (cs : List Committed) → IsNotInItsOwn cs t
    → count_of (steps_to t) s cs ≡ max (greatest (λ c. session_eq c.begun.session s &&
    (session_eq c.begun.session t.session && nat_lt c.begun.tid.seq t.tid.seq)) cs) (greatest (is_shown_of s t.snapshot) cs)
direct-or s t cs others =
    direct-is s t cs
    ∙ greatest-or (λ c. session_eq c.begun.session s && steps_to t c)
    (λ c. session_eq c.begun.session s && (session_eq c.begun.session t.session && nat_lt c.begun.tid.seq t.tid.seq)) (is_shown_of s t.snapshot)
    cs
    (λ c i. ap (λ b. session_eq c.begun.session s && b) (is_step-either cs t others c i) ∙ on (session_eq c.begun.session s)
    (session_eq c.begun.session t.session && nat_lt c.begun.tid.seq t.tid.seq) (has_own_vector c) (at_most c.vector t.snapshot))
  where
    on : (a e u m : Bool) → (a && (e || (u && m))) ≡ ((a && e) || ((a && u) && m))
    on true e u m = refl
    on false e u m = refl

-- of the transaction's own session
pub direct_own : (s : SessionName) (t : Begun) (cs : List Committed) (a b : ℕ) → IsNotInItsOwn cs t → session_eq s t.session ≡ true
    → a ≡ greatest (is_earlier_of s t.tid.seq) cs → b ≡ greatest (is_shown_of s t.snapshot) cs → max a b ≡ count_of (steps_to t) s cs
direct_own s t cs a b others same ea eb =
    (λ i. max (ea i) (eb i)) ∙ ap (λ n. max n (greatest (is_shown_of s t.snapshot) cs)) (greatest-same cs) ∙ sym (direct-or s t cs others)
  where
    is : s ≡ t.session
    is = session_eq-true s t.session same

    one : (c : Committed) → is_earlier_of s t.tid.seq c ≡
        (session_eq c.begun.session s && (session_eq c.begun.session t.session && nat_lt c.begun.tid.seq t.tid.seq))
    one c = on (session_eq c.begun.session s) ∙ ap (λ x. session_eq c.begun.session s && (session_eq c.begun.session x && nat_lt c.begun.tid.seq t.tid.seq)) is
      where
        on : (e : Bool) → (e && nat_lt c.begun.tid.seq t.tid.seq) ≡ (e && (e && nat_lt c.begun.tid.seq t.tid.seq))
        on true = refl
        on false = refl

    greatest-same : (ds : List Committed)
        → greatest (is_earlier_of s t.tid.seq) ds ≡ greatest
        (λ c. session_eq c.begun.session s && (session_eq c.begun.session t.session && nat_lt c.begun.tid.seq t.tid.seq)) ds
    greatest-same [] = refl
    greatest-same (d ∷ ds) = λ i. cond (one d i) (max d.number (greatest-same ds i)) (greatest-same ds i)

-- of another session
pub direct_other : (s : SessionName) (t : Begun) (cs : List Committed) (b : ℕ) → IsNotInItsOwn cs t → session_eq s t.session ≡ false
    → b ≡ greatest (is_shown_of s t.snapshot) cs → b ≡ count_of (steps_to t) s cs
direct_other s t cs b others apart eb =
    eb
    ∙ more (greatest (is_shown_of s t.snapshot) cs)
    ∙ ap (λ n. max n (greatest (is_shown_of s t.snapshot) cs))
    (sym (greatest-none (λ c. session_eq c.begun.session s && (session_eq c.begun.session t.session && nat_lt c.begun.tid.seq t.tid.seq)) cs
    (λ c i. none c (session_eq c.begun.session s) refl (session_eq c.begun.session t.session) refl)))
    ∙ sym (direct-or s t cs others)
  where
    more : (n : ℕ) → n ≡ max 0 n
    more n = omega arith

    none : (c : Committed) (a : Bool) → session_eq c.begun.session s ≡ a → (b : Bool) → session_eq c.begun.session t.session ≡ b
        → (a && (b && nat_lt c.begun.tid.seq t.tid.seq)) ≡ false
    none c false e b f = refl
    none c true e false f = refl
    none c true e true f =
        absurd (true≢false (sym (session_eq-same t.session) ∙ ap (λ x. session_eq x t.session) (sym (session_eq-true c.begun.session t.session f))
        ∙ ap (λ x. session_eq x t.session) (session_eq-true c.begun.session s e) ∙ apart))

-- the one whose turn it is
pub in_turn : {X : Type 0} (xs : List X) (i : ℕ) (x : X) → i < length xs → x ≡ slice_index_or xs i x → In x xs
in_turn xs i x less is = subst (λ y. In y xs) (sym is) (at xs i less)
  where
    at : (xs : List _) (i : ℕ) → i < length xs → In (slice_index_or xs i x) xs
    at [] i less = absurd (omega arith)
    at (y ∷ ys) zero less = inl refl
    at (y ∷ ys) (suc i) less = inr (at ys i (omega arith))

-- what is committed and what was begun can be searched for
searchable : (cs ds : List Committed) (t : Begun) → ds ≡ cs → SessionsAscend cs → IsNotInItsOwn cs t → IsSearchable ds t
searchable cs ds t is ascend others = subst (λ (xs : List Committed). IsSearchable xs t) (sym is) (record { sessions = ascend; others = others })

pub committed_searchable : (h : History) → Ascends h → (cs : List Committed) (c : Committed) → cs ≡ h.committed → In c h.committed → IsSearchable cs c.begun
committed_searchable h a cs c is i = searchable h.committed cs c.begun is a.sessions (a.committed c i)

pub begun_searchable : (h : History) → Ascends h → (t : Begun) → In t h.begun → IsSearchable h.committed t
begun_searchable h a t i = searchable h.committed h.committed t refl a.sessions (a.begun t i)
