-- What a transaction meets: the updates of the decided ones in its snapshot, which are those of the transactions before it.
use Rattle.std.proofs.Common.{◌≡◌, ℕ, ◌+◌, ◌<◌, List, [], ◌∷◌, ◌++◌, length, Bool, true, sym, ap, ◌∙◌, subst}
use Rattle.us_kind.specs.Comparison.{In, tag_of}
use Rattle.us_kind.specs.Updates.{AllLater, Stamped, StandsBefore, before, state_after}
use Rattle.us_kind.specs.declared.identity.Tid.{Tid}
use Rattle.us_kind.specs.declared.identity.Tag.{Tag}
use Rattle.us_kind.proofs.Members.{later_append, later_weaker}
use Rattle.us_base.specs.Vector.{at_most}
use Rattle.us_value.specs.declared.item.Item.{Item}
use Rattle.us_value.specs.declared.operation.Kind.{Kind}
use Rattle.us_value.specs.declared.operation.Op.{Op}
use Rattle.us_value.specs.declared.operation.Effect.{Effect}
use Rattle.us_value.specs.Values.{initial, updated}
use Rattle.us_exec.specs.declared.Done.{Done}
use Rattle.us_exec.specs.Past.{is_before}
use Rattle.us_history.specs.declared.LogTx.{LogTx}
use Rattle.us_history.specs.Histories.{Begun, Committed, History, some_update, has_own_vector}
use Rattle.us_history.specs.Pasts.{past_of}
use Rattle.us_history.specs.Executions.{entry_of}
use Rattle.us_history.specs.States.{own_sum, after_log, kind_for}
use Rattle.us_snapshots.specs.Acts.{AllFits, Act, met_by}
use Rattle.us_snapshots.specs.Snapshots.{AllAnswered, IsSnapshotHistory}
use Rattle.us_snapshots.proofs.Tests.{or_right}
use Rattle.us_snapshots.proofs.Names.{decided_one}
use Rattle.us_snapshots.proofs.Acts.{state_after-append, act-updates, AreActs, are_acts, stamped, own_applied}
use Rattle.us_snapshots.proofs.Pasts.{reaches_below, not_own, reached_by_own}
use Rattle.us_snapshots.proofs.Reached.{before-by, before-from}
use Rattle.us_snapshots.proofs.Seen.{of_stamped, stamped_ordered, TagsApart, acts_in, SeenBy, log_updates, log_applied, of_log_updates, in_log_updates}
use Rattle.us_snapshots.proofs.Seen.{log_updates_apart}

-- answered operations are of their items' kinds
pub answered-fits : (spaces : List (ℕ × Kind)) (decided : List LogTx) (tid : Tid) (sn : List ℕ) (before as' : List Done)
    → AllAnswered spaces decided tid sn before as' → AllFits spaces as'
answered-fits spaces decided tid sn before [] h = tt
answered-fits spaces decided tid sn before (x ∷ as') h = (h.0.fits, answered-fits spaces decided tid sn (before ++ x ∷ []) as' h.1)

module _ {spaces : List (ℕ × Kind)} {conflicts : List Done → List Done → Bool} {told : History} {decided : List LogTx}
    (snap : IsSnapshotHistory spaces conflicts told decided) where
  abbrev cs : List Committed
  cs = told.committed

  -- the transactions that are before t
  abbrev pub keeps : Begun → Committed → Bool
  keeps t c = is_before (entry_of (past_of told) c) (past_of told t)

  pub once : (c : Committed) → In c cs → (d : Committed) → In d cs → d.begun.tid ≡ c.begun.tid → d ≡ c
  once c i d j e = decided_one snap.names d c j i e

  -- A COMMITTED TRANSACTION
  pub answers_in : (c : Committed) → In c cs → AllAnswered spaces decided c.begun.tid c.begun.snapshot [] c.ops
  answers_in c i = subst (AllAnswered spaces decided c.begun.tid c.begun.snapshot []) (sym (snap.names.ops c i)) (snap.answers c.begun (snap.names.begun c i))

  pub fits_in : (c : Committed) → In c cs → AllFits spaces c.ops
  fits_in c i = answered-fits spaces decided c.begun.tid c.begun.snapshot [] c.ops (answers_in c i)

  pub are_in : (c : Committed) → In c cs → AreActs spaces decided c.begun.tid c.begun.snapshot (1 + length c.ops) (acts_in spaces decided c)
  are_in c i = are_acts spaces decided c.begun.tid c.begun.snapshot c.ops (fits_in c i)

  pub updates : (c : Committed) → In c cs → (a : Act) → In a (acts_in spaces decided c) → has_own_vector c ≡ true
  updates c i a j = or_right c.strong (some_update c.ops) (act-updates spaces decided c.begun.tid c.begun.snapshot c.ops (fits_in c i) a j)

  -- BEFORE AND BELOW
  pub below_kept : (c : Committed) (t : Begun) → In c cs → In t told.begun → has_own_vector c ≡ true → at_most c.vector t.snapshot ≡ true → keeps t c ≡ true
  below_kept c t i j st below =
      before-from told c t i (reached_by_own snap c t i j st below)

  pub kept_below : (c : Committed) (t : Begun) → In c cs → In t told.begun → keeps t c ≡ true → at_most c.vector t.snapshot ≡ true
  kept_below c t i j k =
      reaches_below snap (length cs) c t i j (before-by snap c t i j k)

  -- WHAT A TRANSACTION MEETS, in the order of the decided ones
  abbrev pub met : Begun → Item → List (Stamped Op Effect)
  met t item = log_updates spaces decided cs item t.snapshot decided snap.decisions.each

  abbrev pub SeenIn : Begun → Item → Stamped Op Effect → Type 0
  SeenIn t item v = SeenBy spaces decided (keeps t) cs item v

  pub met_seen : (t : Begun) → In t told.begun → (item : Item) (v : Stamped Op Effect) → In v (met t item) → SeenIn t item v
  met_seen t j item v i =
      let m = of_log_updates spaces decided cs item t.snapshot decided snap.decisions.each v i in
      record { source = m.source; here = m.here; is_kept = below_kept m.source t m.here j (updates m.source m.here m.of.act m.of.here) m.below; of = m.of }

  pub seen_met : (t : Begun) → In t told.begun → (item : Item) (v : Stamped Op Effect) → SeenIn t item v → In v (met t item)
  seen_met t j item v s =
      let below = kept_below s.source t s.here j s.is_kept in
      let e = snap.decisions.all s.source s.here (updates s.source s.here s.of.act s.of.here) in
      in_log_updates spaces decided cs item t.snapshot decided snap.decisions.each s.source e.entry_of v (once s.source s.here) e.here e.tid_is below s.of

  pub acts_apart : (item : Item) (c : Committed) → In c cs → (sum : ℕ) (tid : Tid) → TagsApart (stamped sum tid item (acts_in spaces decided c))
  acts_apart item c i sum tid =
      later_weaker StandsBefore (λ (u v : Stamped Op Effect). tag_of u.stamp ≡ tag_of v.stamp → ⊥) (λ u v h. h.apart)
      (stamped sum tid item (acts_in spaces decided c))
      (stamped_ordered sum tid item (acts_in spaces decided c) (are_in c i).ascending)

  pub met_apart : (t : Begun) (item : Item) → TagsApart (met t item)
  met_apart t item = log_updates_apart spaces decided cs item t.snapshot decided snap.decisions.each (acts_apart item) snap.decisions.once

  -- what a transaction sees is of others
  pub seen_other : (t : Begun) → In t told.begun → (item : Item) (v : Stamped Op Effect) → SeenIn t item v → v.stamp.tid ≡ t.tid → ⊥
  seen_other t j item v s e =
      not_own snap s.source t s.here j (updates s.source s.here s.of.act s.of.here) (kept_below s.source t s.here j s.is_kept)
      (ap (λ (x : Stamped Op Effect). x.stamp.tid) s.of.is ∙ e)

  -- the state that it meets after its own ones
  pub met_is : (t : Begun) (item : Item) (acts : List Act)
      → met_by spaces decided t.tid t.snapshot item acts ≡ state_after updated (initial (kind_for spaces item.space))
      (met t item ++ stamped own_sum t.tid item acts)
  met_is t item acts =
      own_applied item t.tid acts (after_log item t.snapshot (initial (kind_for spaces item.space)) decided)
      ∙ ap (λ s. state_after updated s (stamped own_sum t.tid item acts))
      (log_applied spaces decided cs item t.snapshot decided snap.decisions.each (initial (kind_for spaces item.space)))
      ∙ sym (state_after-append (initial (kind_for spaces item.space)) (met t item) (stamped own_sum t.tid item acts))

  pub met_all_apart : (t : Begun) → In t told.begun → (item : Item) (acts : List Act) → AllLater (λ (a b : Act). a.place < b.place) acts
      → TagsApart (met t item ++ stamped own_sum t.tid item acts)
  met_all_apart t j item acts places =
      later_append (λ (u v : Stamped Op Effect). tag_of u.stamp ≡ tag_of v.stamp → ⊥) (met t item) (stamped own_sum t.tid item acts) (met_apart t item)
      (later_weaker StandsBefore (λ (u v : Stamped Op Effect). tag_of u.stamp ≡ tag_of v.stamp → ⊥) (λ u v h. h.apart) (stamped own_sum t.tid item acts)
      (stamped_ordered own_sum t.tid item acts places))
      (λ u v i k e. seen_other t j item u (met_seen t j item u i)
      (ap (λ (g : Tag). g.tid) e ∙ sym (ap (λ (x : Stamped Op Effect). x.stamp.tid) (of_stamped own_sum t.tid item acts v k).is)))
