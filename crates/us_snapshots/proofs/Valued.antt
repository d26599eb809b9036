-- The answers of a transaction are the values of its operations: what it met of the decided ones is, but for the order, what
-- it sees, and each update that it sees was prepared over those that it is after.
use Rattle.std.proofs.Common.{◌≡◌, ⊎_elim, ℕ, ◌+◌, ◌<◌, List, [], ◌∷◌, ◌++◌, length, append_assoc, Bool, true, false, ◌||◌, refl, sym, ap, ◌∙◌, subst, arith}
use Rattle.std.proofs.Common.{cond, true≢false, IsPermutation}
use Rattle.std.specs.Prelude.{nat_lt}
use Rattle.std.specs.List.{list_any}
use Rattle.std.proofs.lemmas.List.Sorted.{IsPermutation-append_left}
use Rattle.us_kind.specs.Comparison.{In, tid_eq, tag_of}
use Rattle.us_kind.specs.Updates.{AllLater, Stamped, StandsBefore, WasPreparedInAnyOrder, IsHistoryInAnyOrder, updates_of as updates_in}
use Rattle.us_kind.specs.Histories.{all_from}
use Rattle.us_kind.specs.declared.identity.Tid.{Tid}
use Rattle.us_kind.specs.declared.identity.Tag.{Tag}
use Rattle.us_kind.proofs.ListLemmas.{in_back, in_front, in_either}
use Rattle.us_kind.proofs.Members.{later_append, later_weaker, same_members}
use Rattle.us_kind.proofs.TestLemmas.{tid_eq-same}
use Rattle.us_base.specs.Vector.{at_most, sum_of}
use Rattle.us_base.proofs.Vectors.{at_most-true, at_most-trans, sum-at_most}
use Rattle.us_value.specs.declared.item.Item.{Item}
use Rattle.us_value.specs.declared.operation.Kind.{Kind}
use Rattle.us_value.specs.declared.operation.Op.{Op}
use Rattle.us_value.specs.declared.operation.Effect.{Effect}
use Rattle.us_value.specs.Laws.{AllFit}
use Rattle.us_value.specs.Values.{op_fits, is_update, initial, updated, answered, prepared, value_of}
use Rattle.us_value.proofs.KindLaws.{answers-as-defined}
use Rattle.us_exec.specs.declared.Done.{Done}
use Rattle.us_exec.specs.Values.{visible, updates_of, holds_tid, past_in, comes_after, HaveValues}
use Rattle.us_history.specs.declared.LogTx.{LogTx}
use Rattle.us_history.specs.Histories.{Begun, Committed, History, ops_of, some_update, has_own_vector}
use Rattle.us_history.specs.Pasts.{past_of}
use Rattle.us_history.specs.Arbitration.{arbitrated}
use Rattle.us_history.specs.Executions.{entries_of}
use Rattle.us_history.specs.States.{own_sum, kind_for}
use Rattle.us_snapshots.specs.Acts.{Fits, AllFits, Act, acts_of}
use Rattle.us_snapshots.specs.Snapshots.{IsAnswered, AllAnswered, IsSnapshotHistory}
use Rattle.us_snapshots.proofs.Tests.{or_right, cond-first, cond-second, apart-test}
use Rattle.us_snapshots.proofs.Acts.{item_eq-true, act-updates, are_acts, stamped_as, stamped, updates_in-append, updates-are}
use Rattle.us_snapshots.proofs.Entries.{in_arbitrated, arbitrated_holds, arbitrated-sorted, arbitrated_apart}
use Rattle.us_snapshots.proofs.Pasts.{not_own}
use Rattle.us_snapshots.proofs.Seen.{OfActs, of_stamped, lex-less, stamped_ordered, TagsApart, acts_in, seen, of_seen, in_seen, seen_ordered, seen_visible}
use Rattle.us_snapshots.proofs.Held.{past_in-of, holds_in, Held, holds_by}
use Rattle.us_snapshots.proofs.Meets.{answered-fits, keeps, once, fits_in, are_in, updates, below_kept, kept_below, met, SeenIn, met_seen, seen_met, met_apart}
use Rattle.us_snapshots.proofs.Meets.{seen_other, met_is}
use Rattle.us_snapshots.proofs.Prepared.{Among, was_prepared}

-- the first of operations that update
any_front : (test : Done → Bool) (xs ys : List Done) → list_any test xs ≡ true → list_any test (xs ++ ys) ≡ true
any_front test [] ys h = absurd (true≢false (sym h))
any_front test (x ∷ xs) ys h = on (test x) h (any_front test xs ys)
  where
    on : (b : Bool) → (b || list_any test xs) ≡ true → (list_any test xs ≡ true → list_any test (xs ++ ys) ≡ true) → (b || list_any test (xs ++ ys)) ≡ true
    on true h again = refl
    on false h again = again h

module _ {spaces : List (ℕ × Kind)} {conflicts : List Done → List Done → Bool} {told : History} {decided : List LogTx}
    (snap : IsSnapshotHistory spaces conflicts told decided) where
  abbrev cs : List Committed
  cs = told.committed

  abbrev es : List Committed
  es = arbitrated cs

  -- WHAT AN OPERATION OF t SEES: the updates snap of those before t in arbitration order, and then t's own
  abbrev own_of : Begun → Item → List Done → List (Stamped Op Effect)
  own_of t item ds = stamped own_sum t.tid item (acts_of spaces decided t.tid t.snapshot ds)

  abbrev seen_of : Begun → Item → List (Stamped Op Effect)
  seen_of t item = seen spaces decided (keeps snap t) item es

  abbrev after_of : Begun → Tag → Tag → Bool
  after_of t = comes_after (entries_of (past_of told) es) t.tid (past_of told t)

  seen_in : (t : Begun) (item : Item) (v : Stamped Op Effect) → In v (seen_of t item) → SeenIn snap t item v
  seen_in t item v i =
      let s = of_seen spaces decided (keeps snap t) item es v i in
      record { source = s.source; here = in_arbitrated s.source cs s.here; is_kept = s.is_kept; of = s.of }

  in_seen_of : (t : Begun) (item : Item) (v : Stamped Op Effect) → SeenIn snap t item v → In v (seen_of t item)
  in_seen_of t item v s =
      in_seen spaces decided (keeps snap t) item es v (record { source = s.source; here = arbitrated_holds s.source cs s.here; is_kept = s.is_kept; of = s.of })

  tid_of_seen : (t : Begun) (item : Item) (v : Stamped Op Effect) (s : SeenIn snap t item v) → s.source.begun.tid ≡ v.stamp.tid
  tid_of_seen t item v s = ap (λ (x : Stamped Op Effect). x.stamp.tid) s.of.is

  tid_of_own : (t : Begun) (item : Item) (ds : List Done) (v : Stamped Op Effect) → In v (own_of t item ds) → t.tid ≡ v.stamp.tid
  tid_of_own t item ds v i = ap (λ (x : Stamped Op Effect). x.stamp.tid) (of_stamped own_sum t.tid item (acts_of spaces decided t.tid t.snapshot ds) v i).is

  -- IN ORDER
  seen_before_own : (t : Begun) → In t told.begun → sum_of t.snapshot < own_sum → (item : Item) (ds : List Done) (u v : Stamped Op Effect)
      → In u (seen_of t item) → In v (own_of t item ds) → StandsBefore u v
  seen_before_own t j small item ds u v i k =
      let s = seen_in t item u i in
      let c = s.source in
      let a = sum-at_most c.vector t.snapshot (at_most-true c.vector t.snapshot (kept_below snap c t s.here j s.is_kept)) in
      let o = of_stamped own_sum t.tid item (acts_of spaces decided t.tid t.snapshot ds) v k in
      let first : StandsBefore (stamped_as (sum_of c.vector) c.begun.tid s.of.act) (stamped_as own_sum t.tid o.act) = record {
        apart = λ e. seen_other snap t j item u s (sym (tid_of_seen t item u s) ∙ ap (λ (g : Tag). g.tid) e);
        earlier = lex-less (sum_of c.vector) own_sum _ (omega arith);
      } in
      subst (λ x. StandsBefore x v) s.of.is (subst (StandsBefore (stamped_as (sum_of c.vector) c.begun.tid s.of.act)) o.is first)

  all_ordered : (t : Begun) → In t told.begun → sum_of t.snapshot < own_sum → (item : Item) (ds : List Done) → AllFits spaces ds
      → AllLater StandsBefore (seen_of t item ++ own_of t item ds)
  all_ordered t j small item ds fits =
      later_append StandsBefore (seen_of t item) (own_of t item ds)
      (seen_ordered spaces decided (keeps snap t) item es (λ c i. (are_in snap c (in_arbitrated c cs i)).ascending)
      (λ c i. updates snap c (in_arbitrated c cs i)) (arbitrated-sorted cs) (arbitrated_apart cs snap.names.decided_once))
      (stamped_ordered own_sum t.tid item (acts_of spaces decided t.tid t.snapshot ds) (are_acts spaces decided t.tid t.snapshot ds fits).ascending)
      (seen_before_own t j small item ds)

  -- WHAT COMES AFTER WHAT
  abbrev HasPast : Begun → Begun → Type 0
  HasPast t x = cond (tid_eq x.tid t.tid) (past_of told t) (past_in x.tid (entries_of (past_of told) es)) ≡ past_of told x

  past_own : (t : Begun) → HasPast t t
  past_own t = cond-first (tid_eq t.tid t.tid) _ _ (tid_eq-same t.tid)

  past_committed : (t : Begun) (c : Committed) → In c cs → (c.begun.tid ≡ t.tid → ⊥) → HasPast t c.begun
  past_committed t c i other =
      cond-second (tid_eq c.begun.tid t.tid) _ _ (apart-test c.begun.tid t.tid other)
      ∙ past_in-of (past_of told) es c (λ d k e. once snap c i d (in_arbitrated d cs k) e) (arbitrated_holds c cs i)

  after_own_is : (t x : Begun) (a b : Act)
      → after_of t (record { tid = x.tid; place = a.place }) (record { tid = x.tid; place = b.place }) ≡ nat_lt b.place a.place
  after_own_is t x a b = cond-first (tid_eq x.tid x.tid) _ _ (tid_eq-same x.tid)

  after_other_is : (t x : Begun) → HasPast t x → (a : Act) (v : Stamped Op Effect) → (v.stamp.tid ≡ x.tid → ⊥)
      → after_of t (record { tid = x.tid; place = a.place }) (tag_of v.stamp) ≡ holds_tid v.stamp.tid (past_of told x) (entries_of (past_of told) es)
  after_other_is t x past a v other =
      cond-second (tid_eq x.tid v.stamp.tid) _ _ (apart-test x.tid v.stamp.tid (λ e. other (sym e)))
      ∙ ap (λ q. holds_tid v.stamp.tid q (entries_of (past_of told) es)) past

  after_seen : (t x : Begun) → HasPast t x → In x told.begun → (item : Item) (a : Act) (v : Stamped Op Effect) → SeenIn snap x item v
      → after_of t (record { tid = x.tid; place = a.place }) (tag_of v.stamp) ≡ true
  after_seen t x past j item a v s =
      after_other_is t x past a v (seen_other snap x j item v s)
      ∙ ap (λ tid. holds_tid tid (past_of told x) (entries_of (past_of told) es)) (sym (tid_of_seen x item v s))
      ∙ holds_in (past_of told) es s.source (past_of told x) (arbitrated_holds s.source cs s.here) s.is_kept

  held_after : (t x : Begun) → HasPast t x → (a : Act) (v : Stamped Op Effect) → (v.stamp.tid ≡ x.tid → ⊥)
      → after_of t (record { tid = x.tid; place = a.place }) (tag_of v.stamp) ≡ true → Held (past_of told) es (past_of told x) v.stamp.tid
  held_after t x past a v other h = holds_by (past_of told) es (past_of told x) v.stamp.tid (sym (after_other_is t x past a v other) ∙ h)

  -- t's own updates snap among them
  among_own : (t : Begun) → In t told.begun → (item : Item) (ds : List Done) → AllFits spaces ds
      → Among snap (after_of t) (seen_of t item ++ own_of t item ds) t own_sum item (acts_of spaces decided t.tid t.snapshot ds)
  among_own t j item ds fits = record {
    begun = j;
    last = 1 + length ds;
    are = are_acts spaces decided t.tid t.snapshot ds fits;
    own_after = after_own_is t t;
    own_only = λ v i e. ⊎_elim
        (λ k. absurd (seen_other snap t j item v (seen_in t item v k) e))
        (λ k. of_stamped own_sum t.tid item (acts_of spaces decided t.tid t.snapshot ds) v k)
        (in_either v (seen_of t item) (own_of t item ds) i);
    own_all = λ v i. in_back v (seen_of t item) (own_of t item ds) i;
    others = λ a v i other h. ⊎_elim (λ k. seen_in t item v k) (λ k. absurd (other (sym (tid_of_own t item ds v k))))
        (in_either v (seen_of t item) (own_of t item ds) i);
    others_all = λ v s. in_front v (seen_of t item) (own_of t item ds) (in_seen_of t item v s);
    others_after = λ a v s. after_seen t t (past_own t) j item a v s;
  }

  -- those of a transaction that t sees among them, where a transaction with own updates snap of t updates snap
  among_seen : (t : Begun) → In t told.begun → (item : Item) (ds : List Done)
      → ((d : Committed) → In d cs → d.begun.tid ≡ t.tid → (a : Act) → In a (acts_of spaces decided t.tid t.snapshot ds) → has_own_vector d ≡ true)
      → (c : Committed) → In c cs → keeps snap t c ≡ true → has_own_vector c ≡ true
      → Among snap (after_of t) (seen_of t item ++ own_of t item ds) c.begun (sum_of c.vector) item (acts_in spaces decided c)
  among_seen t j item ds own_vector c i k st = record {
    begun = begun_c;
    last = 1 + length c.ops;
    are = are_in snap c i;
    own_after = after_own_is t c.begun;
    own_only = λ v m e. ⊎_elim
        (λ n. let s = seen_in t item v n in
        subst (λ (x : Committed). OfActs (sum_of x.vector) x.begun.tid item (acts_in spaces decided x) v)
        (once snap c i s.source s.here (tid_of_seen t item v s ∙ e)) s.of)
        (λ n. absurd (not_t (sym e ∙ sym (tid_of_own t item ds v n))))
        (in_either v (seen_of t item) (own_of t item ds) m);
    own_all = λ v m. in_front v (seen_of t item) (own_of t item ds)
        (in_seen_of t item v (record { source = c; here = i; is_kept = k; of = of_stamped (sum_of c.vector) c.begun.tid item (acts_in spaces decided c) v m }));
    others = λ a v m other h. let held = held_after t c.begun past_c a v other h in ⊎_elim
        (λ n. let s = seen_in t item v n in
        record {
          source = s.source;
          here = s.here;
          is_kept =
              subst (λ x. keeps snap c.begun x ≡ true) (once snap s.source s.here held.by (in_arbitrated held.by cs held.here)
              (held.tid_is ∙ sym (tid_of_seen t item v s))) held.holds;
          of = s.of;
        })
        (λ n. absurd (none_own v n held))
        (in_either v (seen_of t item) (own_of t item ds) m);
    others_all = λ v s. in_front v (seen_of t item) (own_of t item ds) (in_seen_of t item v (further v s));
    others_after = λ a v s. after_seen t c.begun past_c begun_c item a v s;
  }
    where
      begun_c : In c.begun told.begun
      begun_c = snap.names.begun c i

      below : at_most c.vector t.snapshot ≡ true
      below = kept_below snap c t i j k

      not_t : c.begun.tid ≡ t.tid → ⊥
      not_t = not_own snap c t i j st below

      past_c : HasPast t c.begun
      past_c = past_committed t c i not_t

      -- what is before c is below t
      below_t : (d : Committed) → In d cs → keeps snap c.begun d ≡ true → at_most d.vector t.snapshot ≡ true
      below_t d n h =
          at_most-trans d.vector c.vector t.snapshot (at_most-trans d.vector c.begun.snapshot c.vector (kept_below snap d c.begun n begun_c h)
          (snap.vectors c i).at_least) below

      further : (v : Stamped Op Effect) → SeenIn snap c.begun item v → SeenIn snap t item v
      further v s = record {
        source = s.source;
        here = s.here;
        is_kept = below_kept snap s.source t s.here j (updates snap s.source s.here s.of.act s.of.here) (below_t s.source s.here s.is_kept);
        of = s.of;
      }

      none_own : (v : Stamped Op Effect) → In v (own_of t item ds) → Held (past_of told) es (past_of told c.begun) v.stamp.tid → ⊥
      none_own v n held =
          let o = of_stamped own_sum t.tid item (acts_of spaces decided t.tid t.snapshot ds) v n in
          let d = held.by in
          let here = in_arbitrated d cs held.here in
          let is_t : d.begun.tid ≡ t.tid = held.tid_is ∙ sym (tid_of_own t item ds v n) in
          not_own snap d t here j (own_vector d here is_t o.act o.here) (below_t d here held.holds) is_t

  -- A HISTORY
  history : (t : Begun) → In t told.begun → sum_of t.snapshot < own_sum → (item : Item) (ds : List Done) → AllFits spaces ds
      → ((d : Committed) → In d cs → d.begun.tid ≡ t.tid → (a : Act) → In a (acts_of spaces decided t.tid t.snapshot ds) → has_own_vector d ≡ true)
      → IsHistoryInAnyOrder (initial (kind_for spaces item.space)) updated prepared (after_of t) (seen_of t item ++ own_of t item ds)
  history t j small item ds fits own_vector = record {
    ordered = in_order;
    made = λ u m. ⊎_elim
        (λ n. let s = seen_in t item u n in
        let c = s.source in
        let among = among_seen t j item ds own_vector c s.here s.is_kept (updates snap c s.here s.of.act s.of.here) in
        subst Made s.of.is (was_prepared snap (after_of t) us c.begun (sum_of c.vector) item
        (acts_in spaces decided c) apart among s.of.act s.of.here s.of.on_item))
        (λ n. let o = of_stamped own_sum t.tid item (acts_of spaces decided t.tid t.snapshot ds) u n in
        subst Made o.is (was_prepared snap (after_of t) us t own_sum item (acts_of spaces decided t.tid t.snapshot ds) apart
        (among_own t j item ds fits) o.act o.here o.on_item))
        (in_either u (seen_of t item) (own_of t item ds) m);
  }
    where
      us : List (Stamped Op Effect)
      us = seen_of t item ++ own_of t item ds

      in_order : AllLater StandsBefore us
      in_order = all_ordered t j small item ds fits

      apart : TagsApart us
      apart = later_weaker StandsBefore (λ (u v : Stamped Op Effect). tag_of u.stamp ≡ tag_of v.stamp → ⊥) (λ u v h. h.apart) us in_order

      Made : Stamped Op Effect → Type 0
      Made u = WasPreparedInAnyOrder (initial (kind_for spaces item.space)) updated prepared (after_of t) us u

  -- THE DECIDED ONES HOLD WHAT IS SEEN, in another order
  other_order : (t : Begun) → In t told.begun → (item : Item) (ds : List Done) → AllFits spaces ds
      → IsPermutation (seen_of t item ++ own_of t item ds) (met snap t item ++ own_of t item ds)
  other_order t j item ds fits =
      IsPermutation-append_left (own_of t item ds) (seen_of t item) (met snap t item)
      (same_members (seen_of t item) (met snap t item)
      (later_weaker StandsBefore (λ v w. v ≡ w → ⊥) (λ v w f e. f.apart (ap (λ (y : Stamped Op Effect). tag_of y.stamp) e)) (seen_of t item)
      (seen_ordered spaces decided (keeps snap t) item es (λ c i. (are_in snap c (in_arbitrated c cs i)).ascending)
      (λ c i. updates snap c (in_arbitrated c cs i)) (arbitrated-sorted cs) (arbitrated_apart cs snap.names.decided_once)))
      (later_weaker (λ (v w : Stamped Op Effect). tag_of v.stamp ≡ tag_of w.stamp → ⊥) (λ v w. v ≡ w → ⊥)
      (λ v w f e. f (ap (λ (y : Stamped Op Effect). tag_of y.stamp) e)) (met snap t item) (met_apart snap t item))
      (λ v i. seen_met snap t j item v (seen_in t item v i))
      (λ v i. in_seen_of t item v (met_seen snap t j item v i)))

  -- all of the item's kind
  all_fit : (t : Begun) (item : Item) (ds : List Done) → AllFits spaces ds → AllFit (kind_for spaces item.space) (seen_of t item ++ own_of t item ds)
  all_fit t item ds fits = all_from (λ (u : Stamped Op Effect). op_fits (kind_for spaces item.space) u.op ≡ true) (seen_of t item ++ own_of t item ds)
      (λ u m. ⊎_elim
      (λ n. let s = seen_in t item u n in fit_of (sum_of s.source.vector) s.source.begun.tid (acts_in spaces decided s.source) u s.of
      ((are_in snap s.source s.here).fit s.of.act s.of.here))
      (λ n. let o = of_stamped own_sum t.tid item (acts_of spaces decided t.tid t.snapshot ds) u n in
      fit_of own_sum t.tid (acts_of spaces decided t.tid t.snapshot ds) u o ((are_acts spaces decided t.tid t.snapshot ds fits).fit o.act o.here))
      (in_either u (seen_of t item) (own_of t item ds) m))
    where
      fit_of : (sum : ℕ) (tid : Tid) (acts : List Act) (u : Stamped Op Effect) → (o : OfActs sum tid item acts u) → Fits spaces o.act.item o.act.op
          → op_fits (kind_for spaces item.space) u.op ≡ true
      fit_of sum tid acts u o f =
          ap (λ (x : Stamped Op Effect). op_fits (kind_for spaces item.space) x.op) (sym o.is)
          ∙ ap (λ (it : Item). op_fits (kind_for spaces it.space) o.act.op) (sym (item_eq-true o.act.item item o.on_item)) ∙ f

  -- a user sees them as the execution has them
  updates_seen : (t : Begun) (item : Item) (ds : List Done) → AllFits spaces ds
      → updates_in (seen_of t item ++ own_of t item ds) ≡ visible item (past_of told t) (entries_of (past_of told) es) ++ updates_of t.tid item ds
  updates_seen t item ds fits =
      updates_in-append (seen_of t item) (own_of t item ds)
      ∙ (λ i. seen_visible spaces decided (past_of told) (past_of told t) item es
      (λ c k. fits_in snap c (in_arbitrated c cs k)) i ++ updates-are spaces decided t.tid t.snapshot own_sum item ds fits i)

  -- VALUED
  value_here : (t : Begun) → In t told.begun → (before' rest : List Done) (d : Done) → before' ++ rest ≡ ops_of t.tid told.performed → AllFits spaces before'
      → IsAnswered spaces decided t.tid t.snapshot before' d
      → d.answer ≡ value_of d.op (visible d.item (past_of told t) (entries_of (past_of told) es) ++ updates_of t.tid d.item before') (after_of t)
  value_here t j before' rest d e fits h =
      h.is
      ∙ ap (answered d.op) (met_is snap t d.item (acts_of spaces decided t.tid t.snapshot before'))
      ∙ answers-as-defined (kind_for spaces d.item.space) (after_of t) (seen_of t d.item ++ own_of t d.item before')
      (met snap t d.item ++ own_of t d.item before')
      (all_fit t d.item before' fits) (history t j h.small d.item before' fits own_vector) (other_order t j d.item before' fits) d.op h.fits
      ∙ ap (λ us. value_of d.op us (after_of t)) (updates_seen t d.item before' fits)
    where
      own_vector : (c : Committed) → In c cs → c.begun.tid ≡ t.tid → (a : Act) → In a (acts_of spaces decided t.tid t.snapshot before')
          → has_own_vector c ≡ true
      own_vector c i same a k =
          let any = any_front (λ (x : Done). is_update x.op) before' rest (act-updates spaces decided t.tid t.snapshot before' fits a k) in
          or_right c.strong (some_update c.ops) (ap some_update (snap.names.ops c i ∙ ap (λ tid. ops_of tid told.performed) same ∙ sym e) ∙ any)

  fits_front : (xs ys : List Done) → AllFits spaces (xs ++ ys) → AllFits spaces xs
  fits_front [] ys h = tt
  fits_front (x ∷ xs) ys h = (h.0, fits_front xs ys h.1)

  pub values_of : (t : Begun) → In t told.begun → (before' ds : List Done) → before' ++ ds ≡ ops_of t.tid told.performed
      → AllAnswered spaces decided t.tid t.snapshot before' ds
      → HaveValues (entries_of (past_of told) es) t.tid (past_of told t) before' ds
  values_of t j before' [] e h = tt
  values_of t j before' (d ∷ ds) e h =
      let fits =
      fits_front before' (d ∷ ds) (subst (AllFits spaces) (sym e)
      (answered-fits spaces decided t.tid t.snapshot [] (ops_of t.tid told.performed) (snap.answers t j))) in
      (value_here t j before' (d ∷ ds) d e fits h.0, values_of t j (before' ++ d ∷ []) ds (append_assoc before' (d ∷ []) ds ∙ e) h.1)
