-- What is found at the places of a key.
use Rattle.std.proofs.Common.{◌≡◌, ◌∙◌, ℕ, suc, ◌+◌, ◌<◌, List, [], ◌∷◌, ◌++◌, length, drop, get_or, Bool, true, false, cond, Option, Some, None, map}
use Rattle.std.proofs.Common.{refl, sym, ap, subst, arith, add-one}
use Rattle.std.specs.Prelude.{◌||◌, slice_get, MatchOption}
use Rattle.std.specs.List.{list_any}
use Rattle.std.proofs.lemmas.List.{map-append}
use Rattle.std.proofs.Math.Seq.{drop-cons}
use Rattle.std.proofs.lemmas.Option.{MatchOption-at_none, MatchOption-at_some}
use Rattle.us_kind.specs.Comparison.{tid_eq}
use Rattle.us_kind.specs.declared.identity.Tid.{Tid}
use Rattle.us_exec.specs.declared.Done.{Done}
use Rattle.us_history.specs.Histories.{Begun, Performed, Committed, begun_of, ops_of, committed_in, is_committed}
use Rattle.us_snapshots.proofs.Numbers.{numbers_more}
use Rattle.us_index.specs.Places.{places_of}
use Rattle.us_extract.specs.declared.commits.Group.{Group}
use Rattle.us_extract.specs.PastSearch.{done_before, done_at, group_of, IsIndexed}

-- BEGINNINGS
-- the first place, where k stand before the list
first_begun : (tid : Tid) (k : ℕ) (bs : List Begun)
    → MatchOption (slice_get (places_of (λ t. tid_eq t tid) k (map (λ (b : Begun). b.tid) bs)) 0) (begun_of tid bs ≡ None)
    (λ i. (j : ℕ) × (i ≡ k + j) × (slice_get bs j ≡ begun_of tid bs))
first_begun tid k [] = refl
first_begun tid k (b ∷ bs) = on (tid_eq b.tid tid) (places_of (λ t. tid_eq t tid) (k + 1) (map (λ (x : Begun). x.tid) bs)) (first_begun tid (k + 1) bs)
  where
    shift : (o : Option ℕ) → MatchOption o (begun_of tid bs ≡ None) (λ i. (j : ℕ) × (i ≡ k + 1 + j) × (slice_get bs j ≡ begun_of tid bs))
        → MatchOption o (begun_of tid bs ≡ None) (λ i. (j : ℕ) × (i ≡ k + j) × (slice_get (b ∷ bs) j ≡ begun_of tid bs))
    shift None e = e
    shift (Some i) e =
        let at = e.1 in
        (suc e.0, omega arith, e.2)

    on : (t : Bool) (rest : List ℕ)
        → MatchOption (slice_get rest 0) (begun_of tid bs ≡ None) (λ i. (j : ℕ) × (i ≡ k + 1 + j) × (slice_get bs j ≡ begun_of tid bs))
        → MatchOption (slice_get (cond t (k ∷ rest) rest) 0) (cond t (Some b) (begun_of tid bs) ≡ None)
        (λ i. (j : ℕ) × (i ≡ k + j) × (slice_get (b ∷ bs) j ≡ cond t (Some b) (begun_of tid bs)))
    on true rest e = (0, omega arith, refl)
    on false rest e = shift (slice_get rest 0) e

from-zero : {X : Type 0} (bs : List X) (x : Option X) (o : Option ℕ) → MatchOption o (x ≡ None) (λ i. (j : ℕ) × (i ≡ 0 + j) × (slice_get bs j ≡ x))
    → MatchOption o (x ≡ None) (λ i. slice_get bs i ≡ x)
from-zero bs x None e = e
from-zero bs x (Some i) e =
    let at = e.1 in
    let same : i ≡ e.0 = omega arith in
    ap (slice_get bs) same ∙ e.2

-- the first place of a transaction is that of its beginning
pub begun_found : (tid : Tid) (bs : List Begun) (keys : List Tid) (places : List ℕ) → keys ≡ map (λ (b : Begun). b.tid) bs
    → places ≡ places_of (λ t. tid_eq t tid) 0 keys
    → MatchOption (slice_get places 0) (begun_of tid bs ≡ None) (λ i. slice_get bs i ≡ begun_of tid bs)
begun_found tid bs keys places is found =
    let same : places ≡ places_of (λ t. tid_eq t tid) 0 (map (λ (b : Begun). b.tid) bs) = found ∙ ap (places_of (λ t. tid_eq t tid) 0) is in
    let P : List ℕ → Type 0 = λ ps. MatchOption (slice_get ps 0) (begun_of tid bs ≡ None) (λ i. slice_get bs i ≡ begun_of tid bs) in
    subst P (sym same) (from-zero bs (begun_of tid bs) (slice_get (places_of (λ t. tid_eq t tid) 0 (map (λ (b : Begun). b.tid) bs)) 0) (first_begun tid 0 bs))

pub begun_none : (tid : Tid) (bs : List Begun) (keys : List Tid) (places : List ℕ) → keys ≡ map (λ (b : Begun). b.tid) bs
    → places ≡ places_of (λ t. tid_eq t tid) 0 keys
    → None ≡ slice_get places 0 → None ≡ begun_of tid bs
begun_none tid bs keys places is found none =
    sym (MatchOption-at_none (begun_of tid bs ≡ None) (λ i. slice_get bs i ≡ begun_of tid bs) (sym none) (begun_found tid bs keys places is found))

pub begun_at : (tid : Tid) (bs : List Begun) (keys : List Tid) (places : List ℕ) (i : ℕ) (r : Option Begun) → keys ≡ map (λ (b : Begun). b.tid) bs
    → places ≡ places_of (λ t. tid_eq t tid) 0 keys
    → Some i ≡ slice_get places 0 → r ≡ slice_get bs i → r ≡ begun_of tid bs
begun_at tid bs keys places i r is found some there =
    there ∙ MatchOption-at_some (begun_of tid bs ≡ None) (λ j. slice_get bs j ≡ begun_of tid bs) i (sym some) (begun_found tid bs keys places is found)

-- OPERATIONS
all_done : (tid : Tid) (all : List Performed) (k : ℕ) (ps : List Performed) → ((j : ℕ) → slice_get all (k + j) ≡ slice_get ps j)
    → done_at all (places_of (λ t. tid_eq t tid) k (map (λ (p : Performed). p.tid) ps)) ≡ ops_of tid ps
all_done tid all k [] there = refl
all_done tid all k (p ∷ ps) there =
    on (tid_eq p.tid tid) (all_done tid all (k + 1) ps (λ j. let e : k + 1 + j ≡ k + suc j = omega arith in ap (slice_get all) e ∙ there (suc j)))
  where
    here : slice_get all k ≡ Some p
    here = let e : k ≡ k + 0 = omega arith in ap (slice_get all) e ∙ there 0

    on : (t : Bool) → done_at all (places_of (λ t. tid_eq t tid) (k + 1) (map (λ (x : Performed). x.tid) ps)) ≡ ops_of tid ps
        → done_at all (cond t (k ∷ places_of (λ t. tid_eq t tid) (k + 1) (map (λ (x : Performed). x.tid) ps))
        (places_of (λ t. tid_eq t tid) (k + 1) (map (λ (x : Performed). x.tid) ps))) ≡ cond t (p.done ∷ ops_of tid ps) (ops_of tid ps)
    on true e = (λ i. done_before (here i) (e i))
    on false e = e

-- the places of a transaction are those of its operations
pub ops_found : (tid : Tid) (ps : List Performed) (keys : List Tid) (places : List ℕ) → keys ≡ map (λ (p : Performed). p.tid) ps
    → places ≡ places_of (λ t. tid_eq t tid) 0 keys
    → done_at ps places ≡ ops_of tid ps
ops_found tid ps keys places is found =
    ap (done_at ps) (found ∙ ap (places_of (λ t. tid_eq t tid) 0) is)
    ∙ all_done tid ps 0 ps (λ j. let e : 0 + j ≡ j = omega arith in ap (slice_get ps) e)

-- the operation at a place, and the rest
done_first : (o : Option Performed) (ds : List Done) → done_before o [] ++ ds ≡ done_before o ds
done_first None ds = refl
done_first (Some p) ds = refl

pub done_turn : (ps : List Performed) (is : List ℕ) (n : ℕ) → n < length is
    → done_before (slice_get ps (get_or is n 0)) [] ++ done_at ps (drop (n + 1) is) ≡ done_at ps (drop n is)
done_turn ps is n h =
    let next : drop n is ≡ get_or is n 0 ∷ drop (n + 1) is = rw add-one (drop-cons is n 0 h) in
    done_first (slice_get ps (get_or is n 0)) (done_at ps (drop (n + 1) is)) ∙ sym (ap (done_at ps) next)

-- COMMITTED TRANSACTIONS
pub committed_tid : (tid : Tid) (cs : List Committed) → list_any (λ t. tid_eq t tid) (map (λ (c : Committed). c.begun.tid) cs) ≡ is_committed tid cs
committed_tid tid [] = refl
committed_tid tid (c ∷ cs) = ap (λ b. tid_eq c.begun.tid tid || b) (committed_tid tid cs)

-- ONE MORE IS COMMITTED
pub numbered_more : (cs next : List Committed) (keys more : List Group) (c : Committed) → IsIndexed cs keys → c.number ≡ committed_in c.begun.session cs + 1
    → next ≡ cs ++ c ∷ [] → more ≡ keys ++ group_of c ∷ [] → IsIndexed next more
numbered_more cs next keys more c h number one key =
    subst (λ xs. IsIndexed xs more) (sym one) (record {
      groups = key ∙ ap (λ ks. ks ++ group_of c ∷ []) h.groups ∙ sym (map-append group_of cs (c ∷ []));
      numbers = numbers_more cs c h.numbers number;
    })
