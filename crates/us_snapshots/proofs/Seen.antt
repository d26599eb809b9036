-- The updates of an item that a transaction sees: in arbitration order, and in the order of the decided ones.
use Rattle.std.proofs.Common.{◌≡◌, ◌⊎◌, inl, inr, ⊎_elim, ℕ, ◌<◌, List, [], ◌∷◌, ◌++◌, Bool, true, false, refl, sym, ap, ◌∙◌, subst, arith, cond, true≢false}
use Rattle.std.specs.Prelude.{nat_lt}
use Rattle.std.proofs.lemmas.Bool.Decides.{nat_tests}
use Rattle.us_kind.specs.Comparison.{In, lex, tid_less, tag_of}
use Rattle.us_kind.specs.Updates.{AllLater, Stamped, StandsBefore, state_after, updates_of as updates_in}
use Rattle.us_kind.specs.Histories.{all_from}
use Rattle.us_kind.specs.Ascending.{all_in}
use Rattle.us_kind.specs.declared.identity.Tid.{Tid}
use Rattle.us_kind.specs.declared.identity.Tag.{Tag}
use Rattle.us_kind.proofs.ListLemmas.{in_front, in_back, in_either}
use Rattle.us_kind.proofs.Members.{later_append}
use Rattle.us_base.specs.Vector.{at_most, sum_of}
use Rattle.us_value.specs.declared.item.Item.{Item}
use Rattle.us_value.specs.declared.operation.Kind.{Kind}
use Rattle.us_value.specs.declared.operation.Op.{Op}
use Rattle.us_value.specs.declared.operation.Effect.{Effect}
use Rattle.us_value.specs.declared.operation.State.{State}
use Rattle.us_value.specs.Items.{item_eq}
use Rattle.us_value.specs.Values.{updated}
use Rattle.us_exec.specs.declared.Count.{Count}
use Rattle.us_exec.specs.Past.{is_before}
use Rattle.us_exec.specs.Values.{updates_of, visible}
use Rattle.us_history.specs.declared.LogTx.{LogTx}
use Rattle.us_history.specs.Histories.{Begun, Committed, has_own_vector}
use Rattle.us_history.specs.Arbitration.{ties, precedes}
use Rattle.us_history.specs.Executions.{entry_of, entries_of}
use Rattle.us_history.specs.States.{after_writes, after_log}
use Rattle.us_snapshots.specs.Acts.{AllFits, Act, acts_of}
use Rattle.us_snapshots.specs.Snapshots.{IsDecision}
use Rattle.us_snapshots.proofs.Acts.{stamped_as, stamped, state_after-append, writes_applied, updates_in-append, updates-are}
use Rattle.us_snapshots.proofs.Stands.{TidsApart}
use Rattle.us_snapshots.proofs.Entries.{Sorted}

-- UPDATES OF ONE TRANSACTION
-- from an updating operation on the item
pub record OfActs (sum : ℕ) (tid : Tid) (item : Item) (acts : List Act) (v : Stamped Op Effect) : Type 0 where
  pub act : Act
  pub here : In act acts
  pub on_item : item_eq act.item item ≡ true
  pub is : stamped_as sum tid act ≡ v

pub of_stamped : (sum : ℕ) (tid : Tid) (item : Item) (acts : List Act) (v : Stamped Op Effect) → In v (stamped sum tid item acts) → OfActs sum tid item acts v
of_stamped sum tid item [] v h = absurd h
of_stamped sum tid item (a ∷ acts) v h = on (item_eq a.item item) refl h (of_stamped sum tid item acts v)
  where
    more : OfActs sum tid item acts v → OfActs sum tid item (a ∷ acts) v
    more f = record { act = f.act; here = inr f.here; on_item = f.on_item; is = f.is }

    on : (b : Bool) → item_eq a.item item ≡ b → In v (cond b (stamped_as sum tid a ∷ stamped sum tid item acts) (stamped sum tid item acts))
        → (In v (stamped sum tid item acts) → OfActs sum tid item acts v) → OfActs sum tid item (a ∷ acts) v
    on true e (inl s) again = record { act = a; here = inl refl; on_item = e; is = s }
    on true e (inr i) again = more (again i)
    on false e i again = more (again i)

pub in_stamped : (sum : ℕ) (tid : Tid) (item : Item) (acts : List Act) (a : Act) → In a acts → item_eq a.item item ≡ true
    → In (stamped_as sum tid a) (stamped sum tid item acts)
in_stamped sum tid item [] a h e = absurd h
in_stamped sum tid item (b ∷ acts) a h e = on (item_eq b.item item) refl h (λ i. in_stamped sum tid item acts a i e)
  where
    on : (t : Bool) → item_eq b.item item ≡ t → In a (b ∷ acts) → (In a acts → In (stamped_as sum tid a) (stamped sum tid item acts))
        → In (stamped_as sum tid a) (cond t (stamped_as sum tid b ∷ stamped sum tid item acts) (stamped sum tid item acts))
    on true f (inl s) again = inl (ap (stamped_as sum tid) s)
    on true f (inr i) again = inr (again i)
    on false f (inl s) again = absurd (true≢false (sym e ∙ ap (λ (x : Act). item_eq x.item item) (sym s) ∙ f))
    on false f (inr i) again = again i

-- THE ORDER OF STAMPS
pub lex-less : (a b : ℕ) (r : Bool) → a < b → lex a b r ≡ true
lex-less a b r h = grind (arith, nat_tests)

lex-even : (a : ℕ) (r : Bool) → r ≡ true → lex a a r ≡ true
lex-even a r e = grind (arith, nat_tests)

-- where the second doesn't stand before the first
lex-turn : (a b : ℕ) (r s : Bool) → lex b a r ≡ false → (a ≡ b → r ≡ false → s ≡ true) → lex a b s ≡ true
lex-turn a b r s h f = grind (arith, nat_tests)

places_stand : (sum : ℕ) (tid : Tid) (a b : Act) → a.place < b.place → StandsBefore (stamped_as sum tid a) (stamped_as sum tid b)
places_stand sum tid a b h = record {
  apart = λ e. absurd (let f : a.place ≡ b.place = ap (λ (t : Tag). t.place) e in omega arith);
  earlier = lex-even sum _ (lex-even tid.site _ (lex-even tid.coord _ (lex-even tid.seq _ (lex-less a.place b.place _ h))));
}

pub stamped_ordered : (sum : ℕ) (tid : Tid) (item : Item) (acts : List Act) → AllLater (λ (a b : Act). a.place < b.place) acts
    → AllLater StandsBefore (stamped sum tid item acts)
stamped_ordered sum tid item [] h = tt
stamped_ordered sum tid item (a ∷ acts) h = on (item_eq a.item item) (stamped_ordered sum tid item acts h.1)
  where
    first : (v : Stamped Op Effect) → In v (stamped sum tid item acts) → StandsBefore (stamped_as sum tid a) v
    first v i =
        let o = of_stamped sum tid item acts v i in
        subst (StandsBefore (stamped_as sum tid a)) o.is (places_stand sum tid a o.act (all_in (λ (b : Act). a.place < b.place) acts o.act h.0 o.here))

    on : (b : Bool) → AllLater StandsBefore (stamped sum tid item acts)
        → AllLater StandsBefore (cond b (stamped_as sum tid a ∷ stamped sum tid item acts) (stamped sum tid item acts))
    on true again = (all_from (StandsBefore (stamped_as sum tid a)) (stamped sum tid item acts) first, again)
    on false again = again

-- of two transactions that update, the one that the other doesn't precede
pub across_stand : (c d : Committed) (a b : Act) → has_own_vector c ≡ true → has_own_vector d ≡ true → precedes d c ≡ false → (c.begun.tid ≡ d.begun.tid → ⊥)
    → StandsBefore (stamped_as (sum_of c.vector) c.begun.tid a) (stamped_as (sum_of d.vector) d.begun.tid b)
across_stand c d a b sc sd p apart =
    let q : lex (sum_of d.vector) (sum_of c.vector) (tid_less d.begun.tid c.begun.tid) ≡ false =
    sym (λ i. lex (sum_of d.vector) (sum_of c.vector) (ties (sd i) (sc i) (tid_less d.begun.tid c.begun.tid))) ∙ p in
    record {
      apart = λ e. apart (ap (λ (t : Tag). t.tid) e);
      earlier = lex-turn (sum_of c.vector) (sum_of d.vector) _ _ q
          (λ _ q1. lex-turn c.begun.tid.site d.begun.tid.site _ _ q1
          (λ e1 q2. lex-turn c.begun.tid.coord d.begun.tid.coord _ _ q2
          (λ e2 q3. lex-less c.begun.tid.seq d.begun.tid.seq _ (at_seq e1 e2 q3))));
    }
  where
    at_seq : c.begun.tid.site ≡ d.begun.tid.site → c.begun.tid.coord ≡ d.begun.tid.coord → nat_lt d.begun.tid.seq c.begun.tid.seq ≡ false
        → c.begun.tid.seq < d.begun.tid.seq
    at_seq e1 e2 q =
        let ne : c.begun.tid.seq ≡ d.begun.tid.seq → ⊥ = λ e3. apart (λ i. record { site = e1 i; coord = e2 i; seq = e3 i }) in grind (arith, nat_tests)

-- no two are of one update
abbrev pub TagsApart : List (Stamped Op Effect) → Type 0
TagsApart us = AllLater (λ (u v : Stamped Op Effect). tag_of u.stamp ≡ tag_of v.stamp → ⊥) us

module _ (spaces : List (ℕ × Kind)) (decided : List LogTx) where
  -- IN ARBITRATION ORDER
  abbrev pub acts_in : Committed → List Act
  acts_in c = acts_of spaces decided c.begun.tid c.begun.snapshot c.ops

  -- the updates of the item by the transactions that are kept
  abbrev pub seen : (Committed → Bool) → Item → List Committed → List (Stamped Op Effect)
  seen keep item [] = []
  seen keep item (c ∷ cs) = cond (keep c) (stamped (sum_of c.vector) c.begun.tid item (acts_in c) ++ seen keep item cs) (seen keep item cs)

  pub record SeenBy (keep : Committed → Bool) (cs : List Committed) (item : Item) (v : Stamped Op Effect) : Type 0 where
    pub source : Committed
    pub here : In source cs
    pub is_kept : keep source ≡ true
    pub of : OfActs (sum_of source.vector) source.begun.tid item (acts_in source) v

  pub of_seen : (keep : Committed → Bool) (item : Item) (cs : List Committed) (v : Stamped Op Effect) → In v (seen keep item cs) → SeenBy keep cs item v
  of_seen keep item [] v h = absurd h
  of_seen keep item (c ∷ cs) v h = on (keep c) refl h (of_seen keep item cs v)
    where
      mine : List (Stamped Op Effect)
      mine = stamped (sum_of c.vector) c.begun.tid item (acts_in c)

      more : SeenBy keep cs item v → SeenBy keep (c ∷ cs) item v
      more f = record { source = f.source; here = inr f.here; is_kept = f.is_kept; of = f.of }

      on : (b : Bool) → keep c ≡ b → In v (cond b (mine ++ seen keep item cs) (seen keep item cs)) → (In v (seen keep item cs) → SeenBy keep cs item v)
          → SeenBy keep (c ∷ cs) item v
      on true e i again = ⊎_elim
          (λ j. record { source = c; here = inl refl; is_kept = e; of = of_stamped (sum_of c.vector) c.begun.tid item (acts_in c) v j })
          (λ j. more (again j))
          (in_either v mine (seen keep item cs) i)
      on false e i again = more (again i)

  pub in_seen : (keep : Committed → Bool) (item : Item) (cs : List Committed) (v : Stamped Op Effect) → SeenBy keep cs item v → In v (seen keep item cs)
  in_seen keep item [] v h = absurd h.here
  in_seen keep item (c ∷ cs) v h =
      on (keep c) refl h.here (λ i. in_seen keep item cs v (record { source = h.source; here = i; is_kept = h.is_kept; of = h.of }))
    where
      mine : List (Stamped Op Effect)
      mine = stamped (sum_of c.vector) c.begun.tid item (acts_in c)

      first : c ≡ h.source → In v mine
      first s =
          let o : OfActs (sum_of c.vector) c.begun.tid item (acts_in c) v =
          subst (λ (x : Committed). OfActs (sum_of x.vector) x.begun.tid item (acts_in x) v) (sym s) h.of in
          subst (λ x. In x mine) o.is (in_stamped (sum_of c.vector) c.begun.tid item (acts_in c) o.act o.here o.on_item)

      on : (b : Bool) → keep c ≡ b → (c ≡ h.source) ⊎ In h.source cs → (In h.source cs → In v (seen keep item cs))
          → In v (cond b (mine ++ seen keep item cs) (seen keep item cs))
      on true e (inl s) again = in_front v mine (seen keep item cs) (first s)
      on true e (inr i) again = in_back v mine (seen keep item cs) (again i)
      on false e (inl s) again = absurd (true≢false (sym h.is_kept ∙ ap keep (sym s) ∙ e))
      on false e (inr i) again = again i

  -- what is seen is in order
  pub seen_ordered : (keep : Committed → Bool) (item : Item) (cs : List Committed)
      → ((c : Committed) → In c cs → AllLater (λ (a b : Act). a.place < b.place) (acts_in c))
      → ((c : Committed) → In c cs → (a : Act) → In a (acts_in c) → has_own_vector c ≡ true)
      → Sorted cs → TidsApart cs → AllLater StandsBefore (seen keep item cs)
  seen_ordered keep item [] places updates sorted apart = tt
  seen_ordered keep item (c ∷ cs) places updates sorted apart =
      on (keep c) (seen_ordered keep item cs (λ d i. places d (inr i)) (λ d i. updates d (inr i)) sorted.1 apart.1)
    where
      mine : List (Stamped Op Effect)
      mine = stamped (sum_of c.vector) c.begun.tid item (acts_in c)

      across : (u v : Stamped Op Effect) → In u mine → In v (seen keep item cs) → StandsBefore u v
      across u v i j =
          let a = of_stamped (sum_of c.vector) c.begun.tid item (acts_in c) u i in
          let s = of_seen keep item cs v j in
          let d = s.source in
          let r = across_stand c d a.act s.of.act (updates c (inl refl) a.act a.here) (updates d (inr s.here) s.of.act s.of.here) (sorted.0 d s.here)
          (all_in (λ (x : Committed). c.begun.tid ≡ x.begun.tid → ⊥) cs d apart.0 s.here) in
          subst (λ x. StandsBefore x v) a.is (subst (StandsBefore (stamped_as (sum_of c.vector) c.begun.tid a.act)) s.of.is r)

      on : (b : Bool) → AllLater StandsBefore (seen keep item cs) → AllLater StandsBefore (cond b (mine ++ seen keep item cs) (seen keep item cs))
      on true again =
          later_append StandsBefore mine (seen keep item cs) (stamped_ordered (sum_of c.vector) c.begun.tid item (acts_in c) (places c (inl refl))) again across
      on false again = again

  -- and a user sees the updates that are visible
  pub seen_visible : (pasts : Begun → List Count) (past : List Count) (item : Item) (cs : List Committed) → ((c : Committed) → In c cs → AllFits spaces c.ops)
      → updates_in (seen (λ c. is_before (entry_of pasts c) past) item cs) ≡ visible item past (entries_of pasts cs)
  seen_visible pasts past item [] fits = refl
  seen_visible pasts past item (c ∷ cs) fits = on (is_before (entry_of pasts c) past) (seen_visible pasts past item cs (λ d i. fits d (inr i)))
    where
      mine : List (Stamped Op Effect)
      mine = stamped (sum_of c.vector) c.begun.tid item (acts_in c)

      rest : List (Stamped Op Effect)
      rest = seen (λ d. is_before (entry_of pasts d) past) item cs

      on : (b : Bool) → updates_in rest ≡ visible item past (entries_of pasts cs)
          → updates_in (cond b (mine ++ rest) rest) ≡ cond b (updates_of c.begun.tid item c.ops ++ visible item past (entries_of pasts cs))
          (visible item past (entries_of pasts cs))
      on true e =
          updates_in-append mine rest ∙ (λ i. updates-are spaces decided c.begun.tid c.begun.snapshot (sum_of c.vector) item c.ops (fits c (inl refl)) i ++ e i)
      on false e = e

  -- IN THE ORDER OF THE LOG: with the operations of the decided transactions
  abbrev pub Decisions : List Committed → List LogTx → Type 0
  Decisions cs es = (e : LogTx) → In e es → IsDecision spaces decided cs e

  abbrev pub log_updates : (cs : List Committed) (item : Item) (sn : List ℕ) (es : List LogTx) → Decisions cs es → List (Stamped Op Effect)
  log_updates cs item sn [] f = []
  log_updates cs item sn (e ∷ es) f =
      cond (at_most e.vector sn)
      (stamped (sum_of e.vector) e.tid item (acts_in (f e (inl refl)).decision) ++ log_updates cs item sn es (λ x i. f x (inr i)))
      (log_updates cs item sn es (λ x i. f x (inr i)))

  -- the machine applies these
  pub log_applied : (cs : List Committed) (item : Item) (sn : List ℕ) (es : List LogTx) (f : Decisions cs es) (s : State)
      → after_log item sn s es ≡ state_after updated s (log_updates cs item sn es f)
  log_applied cs item sn [] f s = refl
  log_applied cs item sn (e ∷ es) f s = on (at_most e.vector sn) (log_applied cs item sn es (λ x i. f x (inr i)))
    where
      first : IsDecision spaces decided cs e
      first = f e (inl refl)

      mine : List (Stamped Op Effect)
      mine = stamped (sum_of e.vector) e.tid item (acts_in first.decision)

      rest : List (Stamped Op Effect)
      rest = log_updates cs item sn es (λ x i. f x (inr i))

      written : after_writes item (sum_of e.vector) e.tid s e.writes ≡ state_after updated s mine
      written = ap (after_writes item (sum_of e.vector) e.tid s) (sym first.writes_is) ∙ writes_applied item (sum_of e.vector) e.tid (acts_in first.decision) s

      on : (b : Bool) → ((s : State) → after_log item sn s es ≡ state_after updated s rest)
          → after_log item sn (cond b (after_writes item (sum_of e.vector) e.tid s e.writes) s) es ≡ state_after updated s (cond b (mine ++ rest) rest)
      on true again = again _ ∙ ap (λ x. state_after updated x rest) written ∙ sym (state_after-append s mine rest)
      on false again = again s

  -- from a decided transaction at most the snapshot
  pub record FromBelow (cs : List Committed) (item : Item) (sn : List ℕ) (es : List LogTx) (v : Stamped Op Effect) : Type 0 where
    pub source : Committed
    pub here : In source cs
    pub below : at_most source.vector sn ≡ true
    pub of : OfActs (sum_of source.vector) source.begun.tid item (acts_in source) v
    pub entry_of : LogTx
    pub in_log : In entry_of es
    pub tid_is : entry_of.tid ≡ v.stamp.tid

  pub of_log_updates : (cs : List Committed) (item : Item) (sn : List ℕ) (es : List LogTx) (f : Decisions cs es) (v : Stamped Op Effect)
      → In v (log_updates cs item sn es f) → FromBelow cs item sn es v
  of_log_updates cs item sn [] f v h = absurd h
  of_log_updates cs item sn (e ∷ es) f v h = on (at_most e.vector sn) refl h (of_log_updates cs item sn es (λ x i. f x (inr i)) v)
    where
      first : IsDecision spaces decided cs e
      first = f e (inl refl)

      mine : List (Stamped Op Effect)
      mine = stamped (sum_of e.vector) e.tid item (acts_in first.decision)

      rest : List (Stamped Op Effect)
      rest = log_updates cs item sn es (λ x i. f x (inr i))

      more : FromBelow cs item sn es v → FromBelow cs item sn (e ∷ es) v
      more g = record { source = g.source; here = g.here; below = g.below; of = g.of; entry_of = g.entry_of; in_log = inr g.in_log; tid_is = g.tid_is }

      here : at_most e.vector sn ≡ true → OfActs (sum_of e.vector) e.tid item (acts_in first.decision) v → FromBelow cs item sn (e ∷ es) v
      here b o = record {
        source = first.decision;
        here = first.here;
        below = ap (λ x. at_most x sn) first.vector_is ∙ b;
        of = subst (λ x. OfActs (sum_of x) first.decision.begun.tid item (acts_in first.decision) v) (sym first.vector_is)
            (subst (λ x. OfActs (sum_of e.vector) x item (acts_in first.decision) v) (sym first.tid_is) o);
        entry_of = e;
        in_log = inl refl;
        tid_is = ap (λ (x : Stamped Op Effect). x.stamp.tid) o.is;
      }

      on : (b : Bool) → at_most e.vector sn ≡ b → In v (cond b (mine ++ rest) rest) → (In v rest → FromBelow cs item sn es v) → FromBelow cs item sn (e ∷ es) v
      on true b i again =
          ⊎_elim (λ j. here b (of_stamped (sum_of e.vector) e.tid item (acts_in first.decision) v j)) (λ j. more (again j)) (in_either v mine rest i)
      on false b i again = more (again i)

  pub in_log_updates : (cs : List Committed) (item : Item) (sn : List ℕ) (es : List LogTx) (f : Decisions cs es) (c : Committed) (e : LogTx)
      (v : Stamped Op Effect)
      → ((d : Committed) → In d cs → d.begun.tid ≡ c.begun.tid → d ≡ c) → In e es → e.tid ≡ c.begun.tid → at_most c.vector sn ≡ true
      → OfActs (sum_of c.vector) c.begun.tid item (acts_in c) v
      → In v (log_updates cs item sn es f)
  in_log_updates cs item sn [] f c e v once h tid_is below o = absurd h
  in_log_updates cs item sn (x ∷ es) f c e v once h tid_is below o =
      on (at_most x.vector sn) refl h (λ i. in_log_updates cs item sn es (λ y k. f y (inr k)) c e v once i tid_is below o)
    where
      first : IsDecision spaces decided cs x
      first = f x (inl refl)

      mine : List (Stamped Op Effect)
      mine = stamped (sum_of x.vector) x.tid item (acts_in first.decision)

      rest : List (Stamped Op Effect)
      rest = log_updates cs item sn es (λ y k. f y (inr k))

      decision_is : x ≡ e → first.decision ≡ c
      decision_is s = once first.decision first.here (first.tid_is ∙ ap (λ (y : LogTx). y.tid) s ∙ tid_is)

      in_first : x ≡ e → In v mine
      in_first s =
          let d : first.decision ≡ c = decision_is s in
          let vec : c.vector ≡ x.vector = sym (ap (λ (y : Committed). y.vector) d) ∙ first.vector_is in
          let tid : c.begun.tid ≡ x.tid = sym (ap (λ (y : Committed). y.begun.tid) d) ∙ first.tid_is in
          let one : In (stamped_as (sum_of x.vector) x.tid o.act) mine =
          in_stamped (sum_of x.vector) x.tid item (acts_in first.decision) o.act (subst (λ y. In o.act (acts_in y)) (sym d) o.here) o.on_item in
          subst (λ y. In y mine) ((λ i. stamped_as (sum_of (sym vec i)) (sym tid i) o.act) ∙ o.is) one

      on : (b : Bool) → at_most x.vector sn ≡ b → (x ≡ e) ⊎ In e es → (In e es → In v rest) → In v (cond b (mine ++ rest) rest)
      on true b (inl s) again = in_front v mine rest (in_first s)
      on true b (inr i) again = in_back v mine rest (again i)
      on false b (inl s) again =
          absurd (true≢false (sym below ∙ ap (λ y. at_most y sn) (sym (ap (λ (y : Committed). y.vector) (decision_is s)) ∙ first.vector_is) ∙ b))
      on false b (inr i) again = again i

  pub log_updates_apart : (cs : List Committed) (item : Item) (sn : List ℕ) (es : List LogTx) (f : Decisions cs es)
      → ((c : Committed) → In c cs → (sum : ℕ) (tid : Tid) → TagsApart (stamped sum tid item (acts_in c)))
      → AllLater (λ (x y : LogTx). x.tid ≡ y.tid → ⊥) es → TagsApart (log_updates cs item sn es f)
  log_updates_apart cs item sn [] f each apart = tt
  log_updates_apart cs item sn (e ∷ es) f each apart = on (at_most e.vector sn) (log_updates_apart cs item sn es (λ x i. f x (inr i)) each apart.1)
    where
      first : IsDecision spaces decided cs e
      first = f e (inl refl)

      mine : List (Stamped Op Effect)
      mine = stamped (sum_of e.vector) e.tid item (acts_in first.decision)

      rest : List (Stamped Op Effect)
      rest = log_updates cs item sn es (λ x i. f x (inr i))

      across : (u v : Stamped Op Effect) → In u mine → In v rest → tag_of u.stamp ≡ tag_of v.stamp → ⊥
      across u v i j same =
          let a = of_stamped (sum_of e.vector) e.tid item (acts_in first.decision) u i in
          let g = of_log_updates cs item sn es (λ x k. f x (inr k)) v j in
          all_in (λ (y : LogTx). e.tid ≡ y.tid → ⊥) es g.entry_of apart.0 g.in_log
          (ap (λ (x : Stamped Op Effect). x.stamp.tid) a.is ∙ ap (λ (t : Tag). t.tid) same ∙ sym g.tid_is)

      on : (b : Bool) → TagsApart rest → TagsApart (cond b (mine ++ rest) rest)
      on true again =
          later_append (λ (u v : Stamped Op Effect). tag_of u.stamp ≡ tag_of v.stamp → ⊥) mine rest
          (each first.decision first.here (sum_of e.vector) e.tid) again across
      on false again = again
