-- Lemmas on the partition's definitions.
use Rattle.std.proofs.Common.{◌≡◌, inl, inr, ℕ, zero, suc, ◌<◌, ◌≤◌, ◌^◌, List, [], ◌∷◌, ◌++◌, min, max, arith, ap, false, Bool, ◌&&◌}
use Rattle.std.specs.Prelude.{nat_le, remove}
use Rattle.std.proofs.lemmas.Bool.Decides.{nat_tests}
use Rattle.us_kind.specs.Comparison.{In}
use Rattle.us_kind.specs.declared.identity.Tid.{Tid}
use Rattle.us_kind.proofs.ListLemmas.{in_push}
use Rattle.us_base.specs.Vector.{entry, with_entry}
use Rattle.us_base.proofs.Vectors.{entry-with_same}
use Rattle.us_value.specs.declared.item.Write.{Write}
use Rattle.us_peer_wire.specs.declared.message.Actor.{Actor}
use Rattle.us_model.specs.declared.partition.PreparedTx.{PreparedTx}
use Rattle.us_model.specs.State.{Partition}
use Rattle.us_model.specs.Partitions.{least_ts, own_known, next_timestamp, timestamp_for, may_prepare}
use Rattle.us_part.specs.Placed.{AreClocked, IsBelow}

-- the least may be begun with a lesser one
pub least_ts-min : (n m : ℕ) (qs : List PreparedTx) → least_ts (min n m) qs ≡ min m (least_ts n qs)
least_ts-min n m [] = omega arith
least_ts-min n m (q ∷ qs) = let e = least_ts-min n m qs in omega arith

least_ts-first : (n : ℕ) (qs : List PreparedTx) → least_ts n qs ≤ n
least_ts-first n [] = omega arith
least_ts-first n (q ∷ qs) = omega (arith, least_ts-first n qs)

least_ts-in : (n : ℕ) (qs : List PreparedTx) (q : PreparedTx) → In q qs → least_ts n qs ≤ q.ts
least_ts-in n [] q h = absurd h
least_ts-in n (r ∷ qs) q (inl e) = let f : r.ts ≡ q.ts = ap (λ (x : PreparedTx). x.ts) e in omega arith
least_ts-in n (r ∷ qs) q (inr h) = omega (arith, least_ts-in n qs q h)

-- known is below each prepared timestamp
own_known-below : (c : ℕ) (qs : List PreparedTx) (q : PreparedTx) → In q qs → 0 < q.ts → own_known c qs < q.ts
unfolding own_known
own_known-below c [] q h z = absurd h
own_known-below c (r ∷ qs) q (inl e) z = let f : r.ts ≡ q.ts = ap (λ (x : PreparedTx). x.ts) e in omega (arith, least_ts-first r.ts qs)
own_known-below c (r ∷ qs) q (inr h) z = omega (arith, least_ts-in r.ts qs q h)

pub known_below : (c site : ℕ) (v : List ℕ) (qs : List PreparedTx) → AreClocked c qs → IsBelow site (with_entry v site (own_known c qs)) qs
known_below c site v qs clocked q i =
    let e = entry-with_same v site (own_known c qs) in
    let b = own_known-below c qs q i (clocked q i).0 in
    omega arith

-- THE CLOCK: it may rise
pub later_clock : (c d : ℕ) (qs : List PreparedTx) → c ≤ d → AreClocked c qs → AreClocked d qs
later_clock c d qs up clocked q i = ((clocked q i).0, omega (arith, (clocked q i).1))

-- a timestamp comes that the clock has reached
pub one_clocked : (c d : ℕ) (qs : List PreparedTx) (q : PreparedTx) → c ≤ d → 0 < q.ts → q.ts ≤ d → AreClocked c qs → AreClocked d (qs ++ q ∷ [])
one_clocked c d qs q up positive reached clocked =
    in_push (λ (r : PreparedTx). (0 < r.ts) × (r.ts ≤ d)) qs q (later_clock c d qs up clocked) (positive, reached)

in_removed : {X : Type 0} (xs : List X) (k : ℕ) (x : X) → In x (remove xs k) → In x xs
in_removed [] zero x h = h
in_removed [] (suc k) x h = h
in_removed (y ∷ xs) zero x h = inr h
in_removed (y ∷ xs) (suc k) x (inl e) = inl e
in_removed (y ∷ xs) (suc k) x (inr h) = inr (in_removed xs k x h)

-- one is taken out
pub fewer_clocked : (c d k : ℕ) (qs : List PreparedTx) → c ≤ d → AreClocked c qs → AreClocked d (remove qs k)
fewer_clocked c d k qs up clocked q i = later_clock c d qs up clocked q (in_removed qs k q i)

-- TIMESTAMPS
-- one is above what it has to be above
pub next_timestamp-above : (r n : ℕ) → n < next_timestamp r n
unfolding next_timestamp
next_timestamp-above r n = omega arith

not_all : (a b : Bool) (n m : ℕ) → m < n → (a && (b && nat_le n m)) ≡ false
not_all a b n m h = grind (arith, nat_tests)

-- nothing is prepared past the greatest timestamp
pub may_prepare-late : (parts : ℕ) (me : Actor) (p : Partition) (tid : Tid) (snapshot : List ℕ) (writes : List Write)
    → 2 ^ 62 ≤ max p.clock (entry snapshot me.site) → may_prepare parts me p tid snapshot writes ≡ false
may_prepare-late parts me p tid snapshot writes h =
    let above = next_timestamp-above me.actor (max p.clock (entry snapshot me.site)) in
    not_all _ _ (timestamp_for me p snapshot) (2 ^ 62) (omega arith)
