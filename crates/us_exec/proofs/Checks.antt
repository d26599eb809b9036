-- Tests of an execution: where one passes, the fact that it is of holds.
use Rattle.std.proofs.Common.{◌≡◌, ℕ, ◌<◌, ◌≤◌, ◌⊎◌, inl, inr, List, [], ◌∷◌, ◌++◌, Bool, true, false, length, map, cond, refl, sym, ap, ◌∙◌, subst, arith, true≢false}
use Rattle.std.specs.Prelude.{filter, ◌&&◌, ◌||◌, ◌==◌, nat_lt, nat_le}
use Rattle.std.specs.List.{range_with_len}
use Rattle.std.proofs.lemmas.Bool.{eqb-true, and_parts}
use Rattle.std.proofs.lemmas.Bool.Decides.{nat_tests}
use Rattle.us_kind.specs.Comparison.{In, bytes_eq, tid_eq}
use Rattle.us_kind.specs.Updates.{All, AllLater}
use Rattle.us_kind.specs.declared.identity.Tid.{Tid}
use Rattle.us_kind.proofs.TestLemmas.{bytes_eq-true, tid_eq-same}
use Rattle.us_value.specs.declared.operation.Answer.{Answer}
use Rattle.us_value.specs.declared.operation.Answer.TheVariants as answer
use Rattle.us_value.specs.Values.{value_of}
use Rattle.us_exec.specs.declared.SessionName.{SessionName}
use Rattle.us_exec.specs.declared.Count.{Count}
use Rattle.us_exec.specs.declared.Done.{Done}
use Rattle.us_exec.specs.declared.Entry.{Entry}
use Rattle.us_exec.specs.declared.Loose.{Loose}
use Rattle.us_exec.specs.declared.Link.{Link}
use Rattle.us_exec.specs.declared.Execution.{Execution}
use Rattle.us_exec.specs.Past.{session_eq, session_less, is_before}
use Rattle.us_exec.specs.Values.{HaveValues, visible, updates_of, comes_after}
use Rattle.us_exec.specs.Conflict.{Declared, conflict}
use Rattle.us_exec.specs.WellFormed.{numbers_of, IsOfCoordinator, AreNumbered, NamesEachOnce, CountsFromOne, CountsWithin}
use Rattle.us_exec.specs.Consistency.{HoldsLinked, HoldsWhatIsBefore, StandsBefore, IsOrdered}
use Rattle.us_exec.specs.Facts.{Fact, Numbered, OfCoordinators, LooseOfCoordinators, BegunInOrder, NamedOnce, LooseNamedOnce, NamedApart, CountedOnce, CountedFromOne, CountedWithin, LooseCountedOnce, LooseCountedFromOne, LooseCountedWithin, Linked, LooseLinked, Transitive, LooseTransitive, InSession, LooseInSession, InOrder, Valued, LooseValued, Ordered}
use Rattle.us_exec.specs.Facts.{Says}

-- ---- tests of lists

abbrev pub every : {X : Type 0} → (X → Bool) → List X → Bool
every p [] = true
every p (x ∷ xs) = p x && every p xs

pub every_in : {X : Type 0} (p : X → Bool) (xs : List X) (x : X) → every p xs ≡ true → In x xs → p x ≡ true
every_in p [] x h i = absurd i
every_in p (y ∷ xs) x h (inl e) = subst (λ z. p z ≡ true) e (and_parts _ _ h).0
every_in p (y ∷ xs) x h (inr i) = every_in p xs x (and_parts _ _ h).1 i

-- each, and each later one
abbrev each_later : {X : Type 0} → (X → X → Bool) → List X → Bool
each_later r [] = true
each_later r (x ∷ xs) = every (r x) xs && each_later r xs

all_of : {X : Type 0} (p : X → Bool) (P : X → Type 0) → ((x : X) → p x ≡ true → P x) → (xs : List X) → every p xs ≡ true → All P xs
all_of p P says [] h = tt
all_of p P says (x ∷ xs) h = (says x (and_parts _ _ h).0, all_of p P says xs (and_parts _ _ h).1)

later_of : {X : Type 0} (r : X → X → Bool) (R : X → X → Type 0) → ((x y : X) → r x y ≡ true → R x y) → (xs : List X) → each_later r xs ≡ true → AllLater R xs
later_of r R says [] h = tt
later_of r R says (x ∷ xs) h = (all_of (r x) (R x) (says x) xs (and_parts _ _ h).0, later_of r R says xs (and_parts _ _ h).1)

-- the first, and then the second
abbrev implied : Bool → Bool → Bool
implied true b = b
implied false b = true

follow : (a b : Bool) → implied a b ≡ true → a ≡ true → b ≡ true
follow true b h e = h
follow false b h e = absurd (true≢false (sym e))

-- ---- tests of numbers and names

less : (a b : ℕ) → a < b → nat_lt a b ≡ true
less a b h = grind (arith, nat_tests)

is_less : (a b : ℕ) → nat_lt a b ≡ true → a < b
is_less a b h = grind (arith, nat_tests)

at_most : (a b : ℕ) → a ≤ b → nat_le a b ≡ true
at_most a b h = grind (arith, nat_tests)

is_at_most : (a b : ℕ) → nat_le a b ≡ true → a ≤ b
is_at_most a b h = grind (arith, nat_tests)

session_eq-true : (a b : SessionName) → session_eq a b ≡ true → a ≡ b
session_eq-true a b h =
    let e = and_parts _ _ h in
    let f = and_parts _ _ e.1 in
    let site = eqb-true _ _ e.0 in
    let coord = eqb-true _ _ f.0 in
    let number = eqb-true _ _ f.1 in
    λ i. record { site = site i; coord = coord i; number = number i }

session_eq-same : (a : SessionName) → session_eq a a ≡ true
session_eq-same a = grind arith

one_session : (a b : SessionName) → a ≡ b → session_eq a b ≡ true
one_session a b e = subst (λ (s : SessionName). session_eq a s ≡ true) e (session_eq-same a)

one_tid : (a b : Tid) → a ≡ b → tid_eq a b ≡ true
one_tid a b e = subst (λ (t : Tid). tid_eq a t ≡ true) e (tid_eq-same a)

-- ---- well formed

abbrev numbered_test : Execution → Bool
numbered_test x =
    every (λ (e : Entry). bytes_eq (numbers_of e.session x.entries) (range_with_len 1 (length (numbers_of e.session x.entries)))) x.entries

-- a session has a transaction among these, or no numbers
named_or_none : (s : SessionName) (es : List Entry) → ((e : Entry) × In e es × (e.session ≡ s)) ⊎ (numbers_of s es ≡ [])
named_or_none s [] = inr refl
named_or_none s (e ∷ es) = on (session_eq e.session s) refl (named_or_none s es)
  where
    on : (b : Bool) → session_eq e.session s ≡ b → ((d : Entry) × In d es × (d.session ≡ s)) ⊎ (numbers_of s es ≡ [])
        → ((d : Entry) × In d (e ∷ es) × (d.session ≡ s)) ⊎ (numbers_of s (e ∷ es) ≡ [])
    on true same rest = inl (e, inl refl, session_eq-true e.session s same)
    on false same (inl (d, i, is)) = inl (d, inr i, is)
    on false same (inr none) =
        let kept = filter (λ (d : Entry). session_eq d.session s) es in
        inr (ap (λ (b : Bool). map (λ (d : Entry). d.number) (cond b (e ∷ kept) kept)) same ∙ none)

numbered : (x : Execution) → numbered_test x ≡ true → AreNumbered x
numbered x h s = on (named_or_none s x.entries)
  where
    on : ((e : Entry) × In e x.entries × (e.session ≡ s)) ⊎ (numbers_of s x.entries ≡ [])
        → numbers_of s x.entries ≡ range_with_len 1 (length (numbers_of s x.entries))
    on (inl (e, i, is)) =
        subst (λ (t : SessionName). numbers_of t x.entries ≡ range_with_len 1 (length (numbers_of t x.entries))) is
        (bytes_eq-true _ _ (every_in _ _ e h i))
    on (inr none) = subst (λ (ns : List ℕ). ns ≡ range_with_len 1 (length ns)) (sym none) refl

abbrev coordinator_test : Tid → SessionName → Bool
coordinator_test t s = (t.site == s.site) && (t.coord == s.coord)

of_coordinator : (t : Tid) (s : SessionName) → coordinator_test t s ≡ true → IsOfCoordinator t s
of_coordinator t s h = let e = and_parts _ _ h in record { site = eqb-true _ _ e.0; coord = eqb-true _ _ e.1 }

abbrev begun_test : Entry → Entry → Bool
begun_test d e = implied (session_eq d.session e.session) (implied (nat_lt d.number e.number) (nat_lt d.tid.seq e.tid.seq))

begun_of : (d e : Entry) → begun_test d e ≡ true → d.session ≡ e.session → d.number < e.number → d.tid.seq < e.tid.seq
begun_of d e h s n = is_less _ _ (follow _ _ (follow _ _ h (one_session _ _ s)) (less _ _ n))

abbrev apart_test : Tid → Tid → Bool
apart_test s t = implied (tid_eq s t) false

apart_of : (s t : Tid) → apart_test s t ≡ true → s ≡ t → ⊥
apart_of s t h e = true≢false (sym (follow (tid_eq s t) false h (one_tid s t e)))

once_of : (es : List Entry) → each_later (λ (d e : Entry). apart_test d.tid e.tid) es ≡ true
    → (d e : Entry) → In d es → In e es → d.tid ≡ e.tid → d ≡ e
once_of [] h d e i j same = absurd i
once_of (x ∷ xs) h d e (inl p) (inl q) same = sym p ∙ q
once_of (x ∷ xs) h d e (inl p) (inr j) same =
    absurd (apart_of x.tid e.tid (every_in _ _ e (and_parts _ _ h).0 j) (ap (λ (y : Entry). y.tid) p ∙ same))
once_of (x ∷ xs) h d e (inr i) (inl q) same =
    absurd (apart_of x.tid d.tid (every_in _ _ d (and_parts _ _ h).0 i) (ap (λ (y : Entry). y.tid) q ∙ sym same))
once_of (x ∷ xs) h d e (inr i) (inr j) same = once_of xs (and_parts _ _ h).1 d e i j same

abbrev once_test : List Count → Bool
once_test past = each_later (λ (a b : Count). session_less a.session b.session) past

named_once : (past : List Count) → once_test past ≡ true → NamesEachOnce past
named_once past h = later_of _ _ (λ a b t. t) past h

abbrev from_one_test : List Count → Bool
from_one_test past = every (λ (c : Count). nat_le 1 c.count) past

from_one : (past : List Count) → from_one_test past ≡ true → CountsFromOne past
from_one past h c i = is_at_most _ _ (every_in _ _ c h i)

abbrev within_test : List Entry → List Count → Bool
within_test es past = every (λ (c : Count). nat_le c.count (length (numbers_of c.session es))) past

within : (es : List Entry) (past : List Count) → within_test es past ≡ true → CountsWithin es past
within es past h c i = is_at_most _ _ (every_in _ _ c h i)

-- ---- closed

abbrev link_test : SessionName → List Count → Link → Entry → Bool
link_test session past l e =
    implied (session_eq l.session session) (implied (session_eq e.session l.from) (implied (nat_le e.number l.count) (is_before e past)))

abbrev linked_test : Execution → SessionName → List Count → Bool
linked_test x session past = every (λ (l : Link). every (link_test session past l) x.entries) x.links

linked : (x : Execution) (session : SessionName) (past : List Count) → linked_test x session past ≡ true → HoldsLinked x session past
linked x session past h l e i j s f n =
    follow _ _ (follow _ _ (follow _ _ (every_in _ _ e (every_in _ _ l h i) j) (one_session _ _ s)) (one_session _ _ f)) (at_most _ _ n)

-- of each two committed transactions
abbrev each_two : (Entry → Entry → Bool) → Execution → Bool
each_two t x = every (λ (d : Entry). every (t d) x.entries) x.entries

two_in : (t : Entry → Entry → Bool) (x : Execution) (d e : Entry) → each_two t x ≡ true → In d x.entries → In e x.entries → t d e ≡ true
two_in t x d e h i j = every_in _ _ e (every_in _ _ d h i) j

abbrev step_test : List Count → Entry → Entry → Bool
step_test past d e = implied (is_before d e.past) (implied (is_before e past) (is_before d past))

held : (x : Execution) (past : List Count) → each_two (step_test past) x ≡ true → HoldsWhatIsBefore x past
held x past h d e i j a b = follow _ _ (follow _ _ (two_in (step_test past) x d e h i j) a) b

abbrev session_test : Entry → Entry → Bool
session_test d e = implied (session_eq d.session e.session) (implied (nat_lt d.number e.number) (is_before d e.past))

abbrev loose_session_test : Loose → Entry → Bool
loose_session_test l d = implied (session_eq d.session l.session) (implied (nat_lt d.tid.seq l.tid.seq) (is_before d l.past))

-- none is before itself or one that stands before it
abbrev unseen_by : List Count → Entry → Bool
unseen_by past d = implied (is_before d past) false

abbrev order_test : List Entry → Bool
order_test [] = true
order_test (x ∷ xs) = unseen_by x.past x && (every (unseen_by x.past) xs && order_test xs)

seen_not : (past : List Count) (d : Entry) → unseen_by past d ≡ true → is_before d past ≡ true → ⊥
seen_not past d h b = true≢false (sym (follow _ _ h b))

in_order : (es : List Entry) → order_test es ≡ true → (d e : Entry) → In d es → In e es → is_before d e.past ≡ true → StandsBefore d e es
in_order [] h d e i j b = absurd i
in_order (x ∷ xs) h d e (inl p) (inl q) b =
    let own = subst (λ (y : Entry). is_before d y.past ≡ true) (sym q) b in
    absurd (seen_not x.past x (and_parts _ _ h).0 (subst (λ (y : Entry). is_before y x.past ≡ true) (sym p) own))
in_order (x ∷ xs) h d e (inl p) (inr j) b = inl (p, j)
in_order (x ∷ xs) h d e (inr i) (inl q) b =
    let own = subst (λ (y : Entry). is_before d y.past ≡ true) (sym q) b in
    absurd (seen_not x.past d (every_in _ _ d (and_parts _ _ (and_parts _ _ h).1).0 i) own)
in_order (x ∷ xs) h d e (inr i) (inr j) b = inr (in_order xs (and_parts _ _ (and_parts _ _ h).1).1 d e i j b)

-- ---- valued

abbrev same_bit : Bool → Bool → Bool
same_bit true b = b
same_bit false true = false
same_bit false false = true

one_bit : (a b : Bool) → same_bit a b ≡ true → a ≡ b
one_bit true b h = sym h
one_bit false true h = absurd (true≢false (sym h))
one_bit false false h = refl

-- it passes no number and no list, which no example answers
abbrev answer_test : Answer → Answer → Bool
answer_test answer.Done answer.Done = true
answer_test answer.Nothing answer.Nothing = true
answer_test (answer.Value v) (answer.Value w) = bytes_eq v w
answer_test (answer.Bit a) (answer.Bit b) = same_bit a b
answer_test a b = false

one_answer : (a b : Answer) → answer_test a b ≡ true → a ≡ b
one_answer answer.Done answer.Done h = refl
one_answer answer.Done answer.Nothing h = absurd (true≢false (sym h))
one_answer answer.Done (answer.Value v') h = absurd (true≢false (sym h))
one_answer answer.Done (answer.Number m') h = absurd (true≢false (sym h))
one_answer answer.Done (answer.Values vs') h = absurd (true≢false (sym h))
one_answer answer.Done (answer.Bit c') h = absurd (true≢false (sym h))
one_answer answer.Nothing answer.Done h = absurd (true≢false (sym h))
one_answer answer.Nothing answer.Nothing h = refl
one_answer answer.Nothing (answer.Value v') h = absurd (true≢false (sym h))
one_answer answer.Nothing (answer.Number m') h = absurd (true≢false (sym h))
one_answer answer.Nothing (answer.Values vs') h = absurd (true≢false (sym h))
one_answer answer.Nothing (answer.Bit c') h = absurd (true≢false (sym h))
one_answer (answer.Value v) answer.Done h = absurd (true≢false (sym h))
one_answer (answer.Value v) answer.Nothing h = absurd (true≢false (sym h))
one_answer (answer.Value v) (answer.Value w) h = ap answer.Value (bytes_eq-true v w h)
one_answer (answer.Value v) (answer.Number m') h = absurd (true≢false (sym h))
one_answer (answer.Value v) (answer.Values vs') h = absurd (true≢false (sym h))
one_answer (answer.Value v) (answer.Bit c') h = absurd (true≢false (sym h))
one_answer (answer.Number m) answer.Done h = absurd (true≢false (sym h))
one_answer (answer.Number m) answer.Nothing h = absurd (true≢false (sym h))
one_answer (answer.Number m) (answer.Value v') h = absurd (true≢false (sym h))
one_answer (answer.Number m) (answer.Number m') h = absurd (true≢false (sym h))
one_answer (answer.Number m) (answer.Values vs') h = absurd (true≢false (sym h))
one_answer (answer.Number m) (answer.Bit c') h = absurd (true≢false (sym h))
one_answer (answer.Values vs) answer.Done h = absurd (true≢false (sym h))
one_answer (answer.Values vs) answer.Nothing h = absurd (true≢false (sym h))
one_answer (answer.Values vs) (answer.Value v') h = absurd (true≢false (sym h))
one_answer (answer.Values vs) (answer.Number m') h = absurd (true≢false (sym h))
one_answer (answer.Values vs) (answer.Values vs') h = absurd (true≢false (sym h))
one_answer (answer.Values vs) (answer.Bit c') h = absurd (true≢false (sym h))
one_answer (answer.Bit c) answer.Done h = absurd (true≢false (sym h))
one_answer (answer.Bit c) answer.Nothing h = absurd (true≢false (sym h))
one_answer (answer.Bit c) (answer.Value v') h = absurd (true≢false (sym h))
one_answer (answer.Bit c) (answer.Number m') h = absurd (true≢false (sym h))
one_answer (answer.Bit c) (answer.Values vs') h = absurd (true≢false (sym h))
one_answer (answer.Bit a) (answer.Bit b) h = ap answer.Bit (one_bit a b h)

abbrev values_test : List Entry → Tid → List Count → List Done → List Done → Bool
values_test es tid past earlier [] = true
values_test es tid past earlier (d ∷ ds) =
    answer_test d.answer (value_of d.op (visible d.item past es ++ updates_of tid d.item earlier) (comes_after es tid past))
    && values_test es tid past (earlier ++ d ∷ []) ds

have_values : (es : List Entry) (tid : Tid) (past : List Count) (earlier ds : List Done) → values_test es tid past earlier ds ≡ true
    → HaveValues es tid past earlier ds
have_values es tid past earlier [] h = tt
have_values es tid past earlier (d ∷ ds) h = (one_answer _ _ (and_parts _ _ h).0, have_values es tid past (earlier ++ d ∷ []) ds (and_parts _ _ h).1)

-- ---- ordered

abbrev ordered_test : Declared → Entry → Entry → Bool
ordered_test declared d e =
    implied d.strong (implied e.strong (implied (conflict declared d.ops e.ops) (tid_eq d.tid e.tid || (is_before d e.past || is_before e d.past))))

either : (a b : Bool) → (a || b) ≡ true → (a ≡ true) ⊎ (b ≡ true)
either true b h = inl refl
either false b h = inr h

not_first : (a b : Bool) → (a || b) ≡ true → a ≡ false → b ≡ true
not_first true b h e = absurd (true≢false e)
not_first false b h e = h

ordered : (declared : Declared) (x : Execution) → each_two (ordered_test declared) x ≡ true → IsOrdered declared x
ordered declared x h = record {
  ordered = λ d e i j apart sd se c.
      let either_way = follow _ _ (follow _ _ (follow _ _ (two_in (ordered_test declared) x d e h i j) sd) se) c in
      either _ _ (not_first (tid_eq d.tid e.tid) _ either_way apart);
}

-- ---- each fact

abbrev pub test : Fact → Declared → Execution → Bool
test Numbered declared x = numbered_test x
test OfCoordinators declared x = every (λ (e : Entry). coordinator_test e.tid e.session) x.entries
test LooseOfCoordinators declared x = every (λ (l : Loose). coordinator_test l.tid l.session) x.loose
test BegunInOrder declared x = each_two begun_test x
test NamedOnce declared x = each_later (λ (d e : Entry). apart_test d.tid e.tid) x.entries
test LooseNamedOnce declared x = each_later (λ (l m : Loose). apart_test l.tid m.tid) x.loose
test NamedApart declared x = every (λ (e : Entry). every (λ (l : Loose). apart_test e.tid l.tid) x.loose) x.entries
test CountedOnce declared x = every (λ (e : Entry). once_test e.past) x.entries
test CountedFromOne declared x = every (λ (e : Entry). from_one_test e.past) x.entries
test CountedWithin declared x = every (λ (e : Entry). within_test x.entries e.past) x.entries
test LooseCountedOnce declared x = every (λ (l : Loose). once_test l.past) x.loose
test LooseCountedFromOne declared x = every (λ (l : Loose). from_one_test l.past) x.loose
test LooseCountedWithin declared x = every (λ (l : Loose). within_test x.entries l.past) x.loose
test Linked declared x = every (λ (e : Entry). linked_test x e.session e.past) x.entries
test LooseLinked declared x = every (λ (l : Loose). linked_test x l.session l.past) x.loose
test Transitive declared x = every (λ (e : Entry). each_two (step_test e.past) x) x.entries
test LooseTransitive declared x = every (λ (l : Loose). each_two (step_test l.past) x) x.loose
test InSession declared x = each_two session_test x
test LooseInSession declared x = every (λ (l : Loose). every (loose_session_test l) x.entries) x.loose
test InOrder declared x = order_test x.entries
test Valued declared x = every (λ (e : Entry). values_test x.entries e.tid e.past [] e.ops) x.entries
test LooseValued declared x = every (λ (l : Loose). values_test x.entries l.tid l.past [] l.ops) x.loose
test Ordered declared x = each_two (ordered_test declared) x

pub says : (fact : Fact) (declared : Declared) (x : Execution) → test fact declared x ≡ true → Says fact declared x
says Numbered declared x h = numbered x h
says OfCoordinators declared x h = λ e i. of_coordinator _ _ (every_in _ _ e h i)
says LooseOfCoordinators declared x h = λ l i. of_coordinator _ _ (every_in _ _ l h i)
says BegunInOrder declared x h = λ d e i j. begun_of d e (two_in begun_test x d e h i j)
says NamedOnce declared x h = once_of x.entries h
says LooseNamedOnce declared x h = later_of _ _ (λ (l m : Loose) t. apart_of l.tid m.tid t) x.loose h
says NamedApart declared x h = λ e l i j.
    apart_of e.tid l.tid (every_in _ _ l (every_in _ _ e h i) j)
says CountedOnce declared x h = λ e i. named_once e.past (every_in _ _ e h i)
says CountedFromOne declared x h = λ e i. from_one e.past (every_in _ _ e h i)
says CountedWithin declared x h = λ e i. within x.entries e.past (every_in _ _ e h i)
says LooseCountedOnce declared x h = λ l i. named_once l.past (every_in _ _ l h i)
says LooseCountedFromOne declared x h = λ l i. from_one l.past (every_in _ _ l h i)
says LooseCountedWithin declared x h = λ l i. within x.entries l.past (every_in _ _ l h i)
says Linked declared x h = λ e i. linked x e.session e.past (every_in _ _ e h i)
says LooseLinked declared x h = λ l i. linked x l.session l.past (every_in _ _ l h i)
says Transitive declared x h = λ e i. held x e.past (every_in _ _ e h i)
says LooseTransitive declared x h = λ l i. held x l.past (every_in _ _ l h i)
says InSession declared x h = λ d e i j s n. follow _ _ (follow _ _ (two_in session_test x d e h i j) (one_session _ _ s)) (less _ _ n)
says LooseInSession declared x h = λ d l i j s n.
    follow _ _ (follow _ _ (every_in _ _ d (every_in _ _ l h j) i) (one_session _ _ s)) (less _ _ n)
says InOrder declared x h = in_order x.entries h
says Valued declared x h = λ e i. have_values x.entries e.tid e.past [] e.ops (every_in _ _ e h i)
says LooseValued declared x h = λ l i. have_values x.entries l.tid l.past [] l.ops (every_in _ _ l h i)
says Ordered declared x h = ordered declared x h
