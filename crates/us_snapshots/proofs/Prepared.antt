-- Each update of a transaction was prepared over those that it is after.
use Rattle.std.proofs.Common.{◌≡◌, ⊎_elim, ℕ, ◌<◌, List, ◌++◌, Bool, true, false, refl, sym, ap, ◌∙◌, subst, cond, true≢false}
use Rattle.std.specs.Prelude.{nat_lt}
use Rattle.us_kind.specs.Comparison.{In, tid_eq, tag_of}
use Rattle.us_kind.specs.Updates.{AllLater, Stamped, WasPreparedInAnyOrder, before, with_sum, with_sums}
use Rattle.us_kind.specs.declared.identity.Tid.{Tid}
use Rattle.us_kind.specs.declared.identity.Tag.{Tag}
use Rattle.us_kind.proofs.ListLemmas.{in_back, in_front, in_either, in_filter, filter_in, in_map, FromMap, from_map}
use Rattle.us_kind.proofs.Members.{later_filter, later_map, later_weaker, Distinct, same_members}
use Rattle.us_kind.proofs.TestLemmas.{tid_eq-true, tid_eq-same}
use Rattle.us_value.specs.declared.item.Item.{Item}
use Rattle.us_value.specs.declared.operation.Kind.{Kind}
use Rattle.us_value.specs.declared.operation.Op.{Op}
use Rattle.us_value.specs.declared.operation.Effect.{Effect}
use Rattle.us_value.specs.Items.{item_eq}
use Rattle.us_value.specs.Values.{initial, updated, prepared}
use Rattle.us_exec.specs.declared.Done.{Done}
use Rattle.us_history.specs.declared.LogTx.{LogTx}
use Rattle.us_history.specs.Histories.{Begun, Committed, History}
use Rattle.us_history.specs.States.{own_sum, kind_for}
use Rattle.us_snapshots.specs.Acts.{Act, met_by}
use Rattle.us_snapshots.specs.Snapshots.{IsSnapshotHistory}
use Rattle.us_snapshots.proofs.Tests.{cond-first, cond-second, apart-test}
use Rattle.us_snapshots.proofs.Acts.{item_eq-true, earlier, AreActs, stamped_as, stamped}
use Rattle.us_snapshots.proofs.Seen.{OfActs, of_stamped, in_stamped, TagsApart}
use Rattle.us_snapshots.proofs.Meets.{met, SeenIn, met_seen, seen_met, seen_other, met_is, met_all_apart}

-- THE SUM THAT AN UPDATE HAD for a transaction: its own ones aren't committed yet
abbrev pub sum_for : Tid → Stamped Op Effect → ℕ
sum_for tid v = cond (tid_eq v.stamp.tid tid) own_sum v.stamp.sum

pub other_sum : (tid : Tid) (v : Stamped Op Effect) → (v.stamp.tid ≡ tid → ⊥) → with_sum (sum_for tid v) v ≡ v
other_sum tid v h = ap (λ n. with_sum n v) (cond-second (tid_eq v.stamp.tid tid) own_sum v.stamp.sum (apart-test v.stamp.tid tid h))

pub own_stamp : (sum : ℕ) (tid : Tid) (a : Act) → with_sum (sum_for tid (stamped_as sum tid a)) (stamped_as sum tid a) ≡ stamped_as own_sum tid a
own_stamp sum tid a = ap (λ n. with_sum n (stamped_as sum tid a)) (cond-first (tid_eq tid tid) own_sum sum (tid_eq-same tid))

module _ {spaces : List (ℕ × Kind)} {conflicts : List Done → List Done → Bool} {told : History} {decided : List LogTx}
    (snap : IsSnapshotHistory spaces conflicts told decided) where
  abbrev cs : List Committed
  cs = told.committed

  -- A TRANSACTION'S UPDATES AMONG OTHERS: its own are all here, and it is after those of the others that it sees
  pub record Among (after : Tag → Tag → Bool) (us : List (Stamped Op Effect)) (x : Begun) (sum : ℕ) (item : Item) (acts : List Act) : Type 0 where
    pub begun : In x told.begun
    pub last : ℕ
    pub are : AreActs spaces decided x.tid x.snapshot last acts
    pub own_after : (a b : Act) → after (record { tid = x.tid; place = a.place }) (record { tid = x.tid; place = b.place }) ≡ nat_lt b.place a.place
    pub own_only : (v : Stamped Op Effect) → In v us → v.stamp.tid ≡ x.tid → OfActs sum x.tid item acts v
    pub own_all : (v : Stamped Op Effect) → In v (stamped sum x.tid item acts) → In v us
    pub others : (a : Act) (v : Stamped Op Effect) → In v us → (v.stamp.tid ≡ x.tid → ⊥)
        → after (record { tid = x.tid; place = a.place }) (tag_of v.stamp) ≡ true → SeenIn snap x item v
    pub others_all : (v : Stamped Op Effect) → SeenIn snap x item v → In v us
    pub others_after : (a : Act) (v : Stamped Op Effect) → SeenIn snap x item v → after (record { tid = x.tid; place = a.place }) (tag_of v.stamp) ≡ true

  -- so each of its updates snap was prepared over those that it is after
  pub was_prepared : (after : Tag → Tag → Bool) (us : List (Stamped Op Effect)) (x : Begun) (sum : ℕ) (item : Item) (acts : List Act) → TagsApart us
      → Among after us x sum item acts
      → (a : Act) → In a acts → item_eq a.item item ≡ true
      → WasPreparedInAnyOrder (initial (kind_for spaces item.space)) updated prepared after us (stamped_as sum x.tid a)
  was_prepared after us x sum item acts apart h a i on_item = record {
    sum = sum_for x.tid;
    met = then';
    order = same_members (with_sums (sum_for x.tid) (before after u us)) then'
        (distinct (with_sums (sum_for x.tid) (before after u us))
        (later_map Apart (λ v. with_sum (sum_for x.tid v) v) (λ v w k. k) (before after u us)
        (later_filter Apart (λ v. after (tag_of u.stamp) (tag_of v.stamp)) us apart)))
        (distinct then' (met_all_apart snap x h.begun item own
        (later_filter (λ (b c : Act). b.place < c.place) (λ (b : Act). nat_lt b.place a.place) acts h.are.ascending)))
        to from;
    effect = ap (prepared (record { tid = x.tid; place = a.place }) a.op)
        (sym (met_is snap x item own) ∙ ap (λ it. met_by spaces decided x.tid x.snapshot it own) (sym (item_eq-true a.item item on_item))) ∙ h.are.made a i;
  }
    where
      u : Stamped Op Effect
      u = stamped_as sum x.tid a

      own : List Act
      own = earlier a acts

      then' : List (Stamped Op Effect)
      then' = met snap x item ++ stamped own_sum x.tid item own

      Apart : Stamped Op Effect → Stamped Op Effect → Type 0
      Apart v w = tag_of v.stamp ≡ tag_of w.stamp → ⊥

      distinct : (vs : List (Stamped Op Effect)) → AllLater Apart vs → Distinct vs
      distinct vs k = later_weaker Apart (λ v w. v ≡ w → ⊥) (λ v w f e. f (ap (λ (y : Stamped Op Effect). tag_of y.stamp) e)) vs k

      to : (w : Stamped Op Effect) → In w (with_sums (sum_for x.tid) (before after u us)) → In w then'
      to w k = in_now (from_map (λ v. with_sum (sum_for x.tid v) v) w (before after u us) k)
        where
          in_now : (f : FromMap (λ v. with_sum (sum_for x.tid v) v) w (before after u us)) → In w then'
          in_now f = by_tid (tid_eq v.stamp.tid x.tid) refl
            where
              v : Stamped Op Effect
              v = f.source

              there : In v us × (after (tag_of u.stamp) (tag_of v.stamp) ≡ true)
              there = in_filter (λ y. after (tag_of u.stamp) (tag_of y.stamp)) v us f.here

              by_tid : (b : Bool) → tid_eq v.stamp.tid x.tid ≡ b → In w then'
              by_tid true e =
                  let o = h.own_only v there.0 (tid_eq-true v.stamp.tid x.tid e) in
                  let less : nat_lt o.act.place a.place ≡ true =
                  sym (h.own_after a o.act) ∙ ap (λ (y : Stamped Op Effect). after (tag_of u.stamp) (tag_of y.stamp)) o.is ∙ there.1 in
                  let is : stamped_as own_sum x.tid o.act ≡ w = sym (own_stamp sum x.tid o.act) ∙ ap (λ y. with_sum (sum_for x.tid y) y) o.is ∙ f.is in
                  in_back w (met snap x item) (stamped own_sum x.tid item own)
                  (subst (λ y. In y (stamped own_sum x.tid item own)) is
                  (in_stamped own_sum x.tid item own o.act (filter_in (λ (b : Act). nat_lt b.place a.place) o.act acts o.here less) o.on_item))
              by_tid false e =
                  let other : v.stamp.tid ≡ x.tid → ⊥ = λ s. true≢false (sym (tid_eq-same x.tid) ∙ ap (λ y. tid_eq y x.tid) (sym s) ∙ e) in
                  let s = h.others a v there.0 other there.1 in
                  in_front w (met snap x item) (stamped own_sum x.tid item own)
                  (subst (λ y. In y (met snap x item)) (sym (other_sum x.tid v other) ∙ f.is) (seen_met snap x h.begun item v s))

      back : (v w : Stamped Op Effect) → In v us → after (tag_of u.stamp) (tag_of v.stamp) ≡ true → with_sum (sum_for x.tid v) v ≡ w
          → In w (with_sums (sum_for x.tid) (before after u us))
      back v w k e is =
          subst (λ y. In y (with_sums (sum_for x.tid) (before after u us))) is
          (in_map (λ y. with_sum (sum_for x.tid y) y) v (before after u us) (filter_in (λ y. after (tag_of u.stamp) (tag_of y.stamp)) v us k e))

      from : (w : Stamped Op Effect) → In w then' → In w (with_sums (sum_for x.tid) (before after u us))
      from w k = ⊎_elim
          (λ m. let s = met_seen snap x h.begun item w m in
          back w w (h.others_all w s) (h.others_after a w s) (other_sum x.tid w (seen_other snap x h.begun item w s)))
          (λ m.
          let o = of_stamped own_sum x.tid item own w m in
          let f = in_filter (λ (b : Act). nat_lt b.place a.place) o.act acts o.here in
          let v = stamped_as sum x.tid o.act in
          back v w (h.own_all v (in_stamped sum x.tid item acts o.act f.0 o.on_item)) (h.own_after a o.act ∙ f.1) (own_stamp sum x.tid o.act ∙ o.is))
          (in_either w (met snap x item) (stamped own_sum x.tid item own) k)
