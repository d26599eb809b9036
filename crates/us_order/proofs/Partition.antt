-- What no step of the partition takes back.
use Rattle.std.proofs.Common.{◌≡◌, inl, inr, ⊎_elim, ◌⊎◌, ℕ, zero, suc, ◌<◌, ◌≤◌, ◌^◌, List, [], ◌∷◌, ◌++◌, append-nil, Bool, true, false, refl, sym}
use Rattle.std.proofs.Common.{ap, ◌∙◌, subst, arith, cond}
use Rattle.std.specs.Prelude.{Some, None, Option, nat_le, slice_get, remove, position}
use Rattle.std.proofs.lemmas.Bool.{cond_both, leb-true}
use Rattle.std.proofs.lemmas.List.Quantifiers.{position-Some}
use Rattle.std.proofs.lemmas.Option.{get_or_from_slice_get}
use Rattle.us_kind.specs.Comparison.{In}
use Rattle.us_kind.specs.declared.identity.Tid.{Tid}
use Rattle.us_kind.specs.Updates.{AllLater}
use Rattle.us_kind.specs.Histories.{all_from}
use Rattle.us_kind.specs.Ascending.{all_in}
use Rattle.us_kind.proofs.Members.{later_push}
use Rattle.us_kind.proofs.ListLemmas.{in_push, in_append, in_front, in_last, in_split, IsPrefix, prefix_append, prefix_trans, in_got}
use Rattle.us_base.specs.Vector.{entry, at_most, sum_of, zero as no_vector}
use Rattle.us_base.proofs.Vectors.{at_most-true, entry-with_same}
use Rattle.us_value.specs.declared.item.Item.{Item}
use Rattle.us_value.specs.declared.item.Write.{Write}
use Rattle.us_value.specs.declared.operation.State.{State}
use Rattle.us_history.specs.declared.LogTx.{LogTx}
use Rattle.us_model.specs.declared.partition.PreparedTx.{PreparedTx}
use Rattle.us_model.specs.declared.partition.Get.{Get}
use Rattle.us_model.specs.State.{Partition}
use Rattle.us_history.specs.States.{after_log, after_writes}
use Rattle.us_model.specs.Partitions.{own_known, known, least_ts, next_timestamp, timestamp_for, parked_with, prepared, committed, commit, commit_at, commit_one, is_of}
use Rattle.us_order.proofs.Ledgers.{me}

pub next_timestamp-above : (r n : ℕ) → n < next_timestamp r n
unfolding next_timestamp
next_timestamp-above r n = omega arith

-- a transaction stands once among those that are prepared and those of the log, and was prepared here
pub record EachOnce (done : List Tid) (log : List LogTx) (prepared : List PreparedTx) : Type 0 where
  pub prepared_done : (q : PreparedTx) → In q prepared → In q.tid done
  pub log_done : (e : LogTx) → In e log → In e.tid done
  pub prepared_apart : AllLater (λ (q r : PreparedTx). q.tid ≡ r.tid → ⊥) prepared
  pub log_apart : AllLater (λ (e f : LogTx). e.tid ≡ f.tid → ⊥) log
  pub apart : (q : PreparedTx) (e : LogTx) → In q prepared → In e log → q.tid ≡ e.tid → ⊥

-- what holds of each partition
pub record PartitionOk (p : Partition) : Type 0 where
  pub once : EachOnce p.done p.log p.prepared
  pub below_clock : (q : PreparedTx) → In q p.prepared → q.ts ≤ p.clock
  pub positive : (q : PreparedTx) → In q p.prepared → 0 < q.ts
  pub small : p.clock ≤ 2 ^ 62
  pub received : p.received ≡ no_vector

least_ts-first : (n : ℕ) (qs : List PreparedTx) → least_ts n qs ≤ n
least_ts-first n [] = omega arith
least_ts-first n (q ∷ qs) = omega (arith, least_ts-first n qs)

least_ts-in : (n : ℕ) (qs : List PreparedTx) (q : PreparedTx) → In q qs → least_ts n qs ≤ q.ts
least_ts-in n [] q h = absurd h
least_ts-in n (r ∷ qs) q (inl e) = let f : r.ts ≡ q.ts = ap (λ (x : PreparedTx). x.ts) e in omega arith
least_ts-in n (r ∷ qs) q (inr h) = omega (arith, least_ts-in n qs q h)

least_ts-above : (k n : ℕ) (qs : List PreparedTx) → k < n → ((q : PreparedTx) → In q qs → k < q.ts) → k < least_ts n qs
least_ts-above k n [] h all = h
least_ts-above k n (q ∷ qs) h all = let a = all q (inl refl) in let b = least_ts-above k n qs h (λ r i. all r (inr i)) in omega arith

-- known is below each prepared timestamp
pub own_known-below : (c : ℕ) (qs : List PreparedTx) (q : PreparedTx) → In q qs → 0 < q.ts → own_known c qs < q.ts
unfolding own_known
own_known-below c [] q h z = absurd h
own_known-below c (r ∷ qs) q (inl e) z = let f : r.ts ≡ q.ts = ap (λ (x : PreparedTx). x.ts) e in omega (arith, least_ts-first r.ts qs)
own_known-below c (r ∷ qs) q (inr h) z = omega (arith, least_ts-in r.ts qs q h)

-- and it is the greatest such number up to the clock
pub own_known-above : (k c : ℕ) (qs : List PreparedTx) → k ≤ c → ((q : PreparedTx) → In q qs → k < q.ts) → k ≤ own_known c qs
unfolding own_known
own_known-above k c [] h all = h
own_known-above k c (r ∷ qs) h all = omega (arith, least_ts-above k r.ts qs (all r (inl refl)) (λ q i. all q (inr i)))

pub own_known-clock : (c : ℕ) (qs : List PreparedTx) → ((q : PreparedTx) → In q qs → q.ts ≤ c) → own_known c qs ≤ c
unfolding own_known
own_known-clock c [] all = omega arith
own_known-clock c (r ∷ qs) all = omega (arith, least_ts-first r.ts qs, all r (inl refl))

-- what the partition knows of its own site
abbrev pub horizon : Partition → ℕ
horizon p = own_known p.clock p.prepared

-- nothing of p is taken back in p'
pub record Later (p p' : Partition) : Type 0 where
  pub knows : horizon p ≤ horizon p'
  pub log : IsPrefix p.log p'.log
  pub new : (e : LogTx) → In e log.rest → horizon p < entry e.vector 1
  pub received : p'.received ≡ p.received

pub later_same : (p p' : Partition) → horizon p ≤ horizon p' → p'.log ≡ p.log → p'.received ≡ p.received → Later p p'
later_same p p' k e g = record { knows = k; log = record { rest = []; is = e ∙ sym (append-nil p.log) }; new = λ _ i. absurd i; received = g }

pub later_further : {p q r : Partition} → Later p q → Later q r → Later p r
later_further g h =
    record {
      knows = omega arith;
      log = prefix_trans g.log h.log;
      new = in_append _ g.log.rest h.log.rest g.new (λ e i. omega (arith, h.new e i));
      received = h.received ∙ g.received;
    }

-- GET
pub get_keeps : (p : Partition) (g : Get) → entry g.snapshot 1 ≤ 2 ^ 62 → PartitionOk p → PartitionOk (parked_with me p g)
get_keeps p g small h =
    record {
      once = h.once;
      below_clock = λ q i. omega (arith, h.below_clock q i);
      positive = h.positive;
      small = omega (arith, h.small);
      received = h.received;
    }

pub get_later : (p : Partition) (g : Get) → PartitionOk p → Later p (parked_with me p g)
get_later p g h =
    later_same _ _ (own_known-above _ _ p.prepared (omega (arith, own_known-clock p.clock p.prepared h.below_clock))
    (λ q i. own_known-below _ _ q i (h.positive q i))) refl refl

-- PREPARE
prepared_once : (done : List Tid) (log : List LogTx) (prepared : List PreparedTx) (q : PreparedTx) → (In q.tid done → ⊥) → EachOnce done log prepared
    → EachOnce (done ++ q.tid ∷ []) log (prepared ++ q ∷ [])
prepared_once done log prepared q new h = record {
  prepared_done =
      in_push (λ (r : PreparedTx). In r.tid (done ++ q.tid ∷ [])) prepared q (λ r i. in_front r.tid done (q.tid ∷ []) (h.prepared_done r i))
      (in_last done q.tid);
  log_done = λ e i. in_front e.tid done (q.tid ∷ []) (h.log_done e i);
  prepared_apart =
      later_push (λ (x y : PreparedTx). x.tid ≡ y.tid → ⊥) prepared q h.prepared_apart
      (λ r i e. new (subst (λ t. In t done) e (h.prepared_done r i)));
  log_apart = h.log_apart;
  apart = λ r e i j same. ⊎_elim
      (λ k. h.apart r e k j same)
      (λ k. new (subst (λ t. In t done) (sym (ap (λ (x : PreparedTx). x.tid) k ∙ same)) (h.log_done e j)))
      (in_split r prepared q i);
}

pub prepared_keeps : (p : Partition) (tid : Tid) (snapshot : List ℕ) (writes : List Write) → timestamp_for me p snapshot ≤ 2 ^ 62
    → (In tid p.done → ⊥) → PartitionOk p → PartitionOk (prepared me p tid snapshot writes)
prepared_keeps p tid snapshot writes small new h = record {
  once = prepared_once p.done p.log p.prepared (record { tid = tid; ts = timestamp_for me p snapshot; snapshot = snapshot; writes = writes }) new h.once;
  below_clock = in_push (λ q. q.ts ≤ timestamp_for me p snapshot) p.prepared _ (λ q i. omega (arith, h.below_clock q i, next_timestamp-above)) (omega arith);
  positive = in_push (λ q. 0 < q.ts) p.prepared _ h.positive (omega (arith, next_timestamp-above));
  small = small;
  received = h.received;
}

pub prepared_later : (p : Partition) (tid : Tid) (snapshot : List ℕ) (writes : List Write) → PartitionOk p → Later p (prepared me p tid snapshot writes)
prepared_later p tid snapshot writes h =
    let c = own_known-clock p.clock p.prepared h.below_clock in
    later_same _ _
    (own_known-above _ _ _ (omega (arith, next_timestamp-above))
    (in_push (λ q. horizon p < q.ts) p.prepared _ (λ q i. own_known-below _ _ q i (h.positive q i)) (omega (arith, next_timestamp-above))))
    refl refl

-- ONE TAKEN OUT
pub in_removed : {X : Type 0} (xs : List X) (k : ℕ) (x : X) → In x (remove xs k) → In x xs
in_removed [] zero x h = h
in_removed [] (suc k) x h = h
in_removed (y ∷ xs) zero x h = inr h
in_removed (y ∷ xs) (suc k) x (inl e) = inl e
in_removed (y ∷ xs) (suc k) x (inr h) = inr (in_removed xs k x h)

pub removed_in : {X : Type 0} (xs : List X) (k : ℕ) (x y : X) → slice_get xs k ≡ Some y → In x xs → In x (remove xs k) ⊎ (y ≡ x)
removed_in [] k x y e h = absurd h
removed_in (z ∷ xs) zero x y e (inl s) = inr (cc)
removed_in (z ∷ xs) zero x y e (inr h) = inl h
removed_in (z ∷ xs) (suc k) x y e (inl s) = inl (inl s)
removed_in (z ∷ xs) (suc k) x y e (inr h) = ⊎_elim (λ a. inl (inr a)) (λ b. inr b) (removed_in xs k x y e h)

later_removed : {X : Type 0} (R : X → X → Type 0) (xs : List X) (k : ℕ) → AllLater R xs → AllLater R (remove xs k)
later_removed R [] zero h = h
later_removed R [] (suc k) h = h
later_removed R (x ∷ xs) zero h = h.1
later_removed R (x ∷ xs) (suc k) h = (all_from (R x) (remove xs k) (λ y i. all_in (R x) xs y h.0 (in_removed xs k y i)), later_removed R xs k h.1)

-- what was taken out is of another transaction than those that are left
removed_apart : (xs : List PreparedTx) (k : ℕ) (q x : PreparedTx) → slice_get xs k ≡ Some q → AllLater (λ (y z : PreparedTx). y.tid ≡ z.tid → ⊥) xs
    → In x (remove xs k) → q.tid ≡ x.tid → ⊥
removed_apart [] k q x e h i same = absurd (let f = in_got [] k q e in f)
removed_apart (y ∷ xs) zero q x e h i same =
    let f : y ≡ q = cc in all_in (λ (z : PreparedTx). y.tid ≡ z.tid → ⊥) xs x h.0 i (ap (λ (z : PreparedTx). z.tid) f ∙ same)
removed_apart (y ∷ xs) (suc k) q x e h (inl s) same =
    all_in (λ (z : PreparedTx). y.tid ≡ z.tid → ⊥) xs q h.0 (in_got xs k q e) (ap (λ (z : PreparedTx). z.tid) s ∙ sym same)
removed_apart (y ∷ xs) (suc k) q x e h (inr i) same = removed_apart xs k q x e h.1 i same

-- COMMIT
committed_once : (done : List Tid) (log : List LogTx) (prepared : List PreparedTx) (i : ℕ) (q : PreparedTx) (new : LogTx)
    → slice_get prepared i ≡ Some q → new.tid ≡ q.tid → EachOnce done log prepared → EachOnce done (log ++ new ∷ []) (remove prepared i)
committed_once done log prepared i q new got same h =
    let here = in_got prepared i q got in
    record {
      prepared_done = λ r j. h.prepared_done r (in_removed prepared i r j);
      log_done = in_push (λ (e : LogTx). In e.tid done) log new h.log_done (subst (λ t. In t done) (sym same) (h.prepared_done q here));
      prepared_apart = later_removed (λ (x y : PreparedTx). x.tid ≡ y.tid → ⊥) prepared i h.prepared_apart;
      log_apart = later_push (λ (e f : LogTx). e.tid ≡ f.tid → ⊥) log new h.log_apart (λ e j f. h.apart q e here j (sym (f ∙ same)));
      apart = λ r e j k f. ⊎_elim
          (λ m. h.apart r e (in_removed prepared i r j) m f)
          (λ m. removed_apart prepared i q r got h.prepared_apart j (sym (f ∙ sym (ap (λ (x : LogTx). x.tid) m) ∙ same)))
          (in_split e log new k);
    }

pub committed_keeps : (p : Partition) (v : List ℕ) (i : ℕ) (q : PreparedTx) → entry v 1 ≤ 2 ^ 62 → slice_get p.prepared i ≡ Some q → PartitionOk p
    → PartitionOk (committed me p v i q)
committed_keeps p v i q small got h = record {
  once = committed_once p.done p.log p.prepared i q (record { tid = q.tid; strong = false; vector = v; writes = q.writes }) got refl h.once;
  below_clock = λ r j. omega (arith, h.below_clock r (in_removed p.prepared i r j));
  positive = λ r j. h.positive r (in_removed p.prepared i r j);
  small = omega (arith, h.small);
  received = h.received;
}

pub committed_later : (p : Partition) (v : List ℕ) (i : ℕ) (q : PreparedTx) → In q p.prepared → q.ts ≤ entry v 1 → PartitionOk p
    → Later p (committed me p v i q)
committed_later p v i q here le h =
    let b = own_known-below p.clock p.prepared q here (h.positive q here) in
    record {
      knows =
          own_known-above _ _ _ (omega (arith, own_known-clock p.clock p.prepared h.below_clock))
          (λ r j. let k = in_removed p.prepared i r j in own_known-below _ _ r k (h.positive r k));
      log = prefix_append p.log _;
      new = in_push (λ (e : LogTx). horizon p < entry e.vector 1) [] _ (λ e j. absurd j) (omega arith);
      received = refl;
    }

-- by cases
pub commit_by : (P : Partition → Type 0) (p : Partition) (tid : Tid) (v : List ℕ) → P p
    → ((i : ℕ) (q : PreparedTx) → slice_get p.prepared i ≡ Some q → In q p.prepared → is_of tid q ≡ true → q.ts ≤ entry v 1 → P
    (committed me p v i q)) → P (commit me p tid v)
commit_by P p tid v same other = at (position (is_of tid) p.prepared) refl
  where
    one : (i : ℕ) → position (is_of tid) p.prepared ≡ Some i → (o : Option PreparedTx) → slice_get p.prepared i ≡ o → P (commit_one me p v i o)
    one i f None e = same
    one i f (Some q) e =
        cond_both (nat_le q.ts (entry v 1)) (committed me p v i q) p P
        (λ t. other i q e (in_got p.prepared i q e) (ap (is_of tid) (sym (get_or_from_slice_get p.prepared i q q e))
        ∙ (position-Some (is_of tid) p.prepared i q f).1) (leb-true q.ts (entry v 1) t))
        (λ _. same)

    at : (o : Option ℕ) → position (is_of tid) p.prepared ≡ o → P (commit_at me p v o)
    at None e = same
    at (Some i) e = one i e (slice_get p.prepared i) refl

-- READS
after_log-append : (item : Item) (sn : List ℕ) (xs ys : List LogTx) (s : State) → after_log item sn s (xs ++ ys) ≡ after_log item sn (after_log item sn s xs) ys
after_log-append item sn [] ys s = refl
after_log-append item sn (x ∷ xs) ys s = after_log-append item sn xs ys _

after_log-none : (item : Item) (sn : List ℕ) (xs : List LogTx) (s : State) → ((e : LogTx) → In e xs → at_most e.vector sn ≡ true → ⊥)
    → after_log item sn s xs ≡ s
after_log-none item sn [] s none = refl
after_log-none item sn (x ∷ xs) s none = on (at_most x.vector sn) refl (after_log-none item sn xs s (λ y i. none y (inr i)))
  where
    on : (b : Bool) → at_most x.vector sn ≡ b → after_log item sn s xs ≡ s
        → after_log item sn (cond b (after_writes item (sum_of x.vector) x.tid s x.writes) s) xs ≡ s
    on true e again = absurd (none x (inl refl) e)
    on false e again = again

-- a read at a known snapshot is the same ever after
pub read_later : (p p' : Partition) (sn : List ℕ) (item : Item) (s : State) → Later p p' → at_most sn (known me p) ≡ true
    → after_log item sn s p'.log ≡ after_log item sn s p.log
read_later p p' sn item s l kn =
    ap (after_log item sn s) l.log.is
    ∙ after_log-append item sn p.log l.log.rest s
    ∙ after_log-none item sn l.log.rest (after_log item sn s p.log)
    (λ e i h. let new = l.new e i in omega (arith, at_most-true e.vector sn h 1, at_most-true sn (known me p) kn 1, entry-with_same p.received 1 (horizon p)))
