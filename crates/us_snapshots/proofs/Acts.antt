-- The updating operations of a transaction, with the effects that were prepared for them.
use Rattle.std.proofs.Common.{◌≡◌, ◌⊎◌, inl, inr, ⊎_elim, ℕ, ◌+◌, ◌<◌, List, [], ◌∷◌, ◌++◌, length, append-nil, append_assoc, Bool, true, false, ◌&&◌, refl}
use Rattle.std.proofs.Common.{sym, ap, ◌∙◌, subst, arith, cond, true≢false}
use Rattle.std.specs.Prelude.{Some, None, Option, ◌↔◌, ◌||◌, filter, nat_lt}
use Rattle.std.specs.List.{list_any}
use Rattle.std.proofs.lemmas.Bool.{cond_both, and_parts, eqb-true, lt-ltb}
use Rattle.std.proofs.lemmas.Bool.Decides.{nat_tests}
use Rattle.std.proofs.lemmas.List.Elements.{filter-append}
use Rattle.us_kind.specs.Comparison.{In}
use Rattle.us_kind.specs.Updates.{AllLater, Update, Stamped, state_after, updates_of as updates_in}
use Rattle.us_kind.specs.declared.identity.Tid.{Tid}
use Rattle.us_kind.specs.declared.identity.Tag.{Tag}
use Rattle.us_kind.specs.declared.identity.Stamp.{Stamp}
use Rattle.us_kind.proofs.ListLemmas.{in_push, in_either, IsPrefix, prefix_refl, prefix_append, prefix_trans, in_later}
use Rattle.us_kind.proofs.Members.{later_push}
use Rattle.us_kind.proofs.TestLemmas.{bytes_eq-true}
use Rattle.us_base.specs.Vector.{at_most, sum_of}
use Rattle.us_value.specs.declared.item.Item.{Item}
use Rattle.us_value.specs.declared.item.Write.{Write}
use Rattle.us_value.specs.declared.operation.Kind.{Kind}
use Rattle.us_value.specs.declared.operation.Op.{Op}
use Rattle.us_value.specs.declared.operation.Effect.{Effect}
use Rattle.us_value.specs.declared.operation.State.{State}
use Rattle.us_value.specs.Items.{item_eq}
use Rattle.us_value.specs.Values.{is_update, initial, updated, prepared}
use Rattle.us_value.proofs.KindLaws.{prepares-updates}
use Rattle.us_exec.specs.declared.Done.{Done}
use Rattle.us_exec.specs.Values.{updates_from}
use Rattle.us_history.specs.declared.LogTx.{LogTx}
use Rattle.us_history.specs.States.{after_writes, after_log, own_sum, after_own, own_effects, kind_for, state_at}
use Rattle.us_snapshots.specs.Acts.{Fits, AllFits, Act, act_of, write_for, writes_in, met_by, effect_at, acts_from, acts_of}

pub item_eq-true : (a b : Item) → item_eq a b ≡ true → a ≡ b
item_eq-true a b h = let e = and_parts _ _ h in let e0 = eqb-true _ _ e.0 in let e1 = bytes_eq-true _ _ e.1 in λ i. record { space = e0 i; id = e1 i }

-- a state that some updates lead to
record Reached (start s : State) : Type 0 where
  us : List (Stamped Op Effect)
  is : s ≡ state_after updated start us

pub state_after-append : (s : State) (us vs : List (Stamped Op Effect)) → state_after updated s (us ++ vs) ≡ state_after updated (state_after updated s us) vs
state_after-append s [] vs = refl
state_after-append s (u ∷ us) vs = state_after-append (updated s u.effect u.stamp) us vs

reached_one : (op : Op) (start s : State) (e : Effect) (m : Stamp) → Reached start s → Reached start (updated s e m)
reached_one op start s e m h =
    let u : Stamped Op Effect = record { stamp = m; op = op; effect = e } in
    record { us = h.us ++ u ∷ []; is = ap (λ x. updated x e m) h.is ∙ sym (state_after-append start h.us (u ∷ [])) }

reached_writes : (op : Op) (start : State) (item : Item) (sum : ℕ) (tid : Tid) (ws : List Write) (s : State) → Reached start s
    → Reached start (after_writes item sum tid s ws)
reached_writes op start item sum tid [] s h = h
reached_writes op start item sum tid (w ∷ ws) s h =
    let m : Stamp = record { sum = sum; tid = tid; place = w.place } in
    reached_writes op start item sum tid ws _ (cond_both (item_eq w.item item) (updated s w.effect m) s (Reached start)
    (λ _. reached_one op start s w.effect m h) (λ _. h))

reached_log : (op : Op) (start : State) (item : Item) (sn : List ℕ) (decided : List LogTx) (s : State) → Reached start s
    → Reached start (after_log item sn s decided)
reached_log op start item sn [] s h = h
reached_log op start item sn (t ∷ decided) s h =
    reached_log op start item sn decided _
    (cond_both (at_most t.vector sn) (after_writes item (sum_of t.vector) t.tid s t.writes) s (Reached start)
    (λ _. reached_writes op start item (sum_of t.vector) t.tid t.writes s h) (λ _. h))

reached_own : (op : Op) (start : State) (tid : Tid) (own : List (ℕ × Effect)) (s : State) → Reached start s → Reached start (after_own tid s own)
reached_own op start tid [] s h = h
reached_own op start tid (e ∷ own) s h = reached_own op start tid own _ (reached_one op start s e.1 (record { sum = own_sum; tid = tid; place = e.0 }) h)

pub writes_in-append : (xs ys : List Act) → writes_in (xs ++ ys) ≡ writes_in xs ++ writes_in ys
writes_in-append [] ys = refl
writes_in-append (x ∷ xs) ys = ap (λ l. write_for x ∷ l) (writes_in-append xs ys)

abbrev pub HasWrites : List Write → Type 0
HasWrites [] = ⊥
HasWrites (w ∷ ws) = Unit {0}

-- WHO UPDATES HAS WRITES
in_has : (a : Act) (acts : List Act) → In a acts → HasWrites (writes_in acts)
in_has a [] i = absurd i
in_has a (b ∷ acts) i = tt

filled : (d : Done) (n : ℕ) (o : Option Effect) → (o ≡ None → ⊥) → (a : Act) × In a (act_of d n o)
filled d n None h = absurd (h refl)
filled d n (Some e) h = (record { place = n; item = d.item; op = d.op; effect = e }, inl refl)

-- WHAT HOLDS OF THEM
-- the earlier ones
abbrev pub earlier : Act → List Act → List Act
earlier a acts = filter (λ (b : Act). nat_lt b.place a.place) acts

earlier-old : (a new : Act) (acts : List Act) → nat_lt new.place a.place ≡ false → earlier a (acts ++ new ∷ []) ≡ earlier a acts
earlier-old a new acts h =
    filter-append (λ (b : Act). nat_lt b.place a.place) acts (new ∷ []) ∙ ap (λ l. earlier a acts ++ l) (on (nat_lt new.place a.place) h)
    ∙ append-nil (earlier a acts)
  where
    on : (b : Bool) → b ≡ false → cond b (new ∷ []) [] ≡ []
    on true e = absurd (true≢false e)
    on false e = refl

all_earlier : (a : Act) (acts : List Act) → ((b : Act) → In b acts → b.place < a.place) → earlier a acts ≡ acts
all_earlier a [] h = refl
all_earlier a (b ∷ acts) h = on (nat_lt b.place a.place) (lt-ltb _ _ (h b (inl refl))) (all_earlier a acts (λ c i. h c (inr i)))
  where
    on : (t : Bool) → t ≡ true → earlier a acts ≡ acts → cond t (b ∷ earlier a acts) (earlier a acts) ≡ b ∷ acts
    on true e k = ap (λ l. b ∷ l) k
    on false e k = absurd (true≢false (sym e))

not_less : (a b : ℕ) → a < b + 1 → nat_lt b a ≡ false
not_less a b h = grind (arith, nat_tests)

-- THEIR UPDATES OF AN ITEM, under stamps with this sum
abbrev pub stamped_as : ℕ → Tid → Act → Stamped Op Effect
stamped_as sum tid a = record { stamp = record { sum = sum; tid = tid; place = a.place }; op = a.op; effect = a.effect }

abbrev pub stamped : ℕ → Tid → Item → List Act → List (Stamped Op Effect)
stamped sum tid item [] = []
stamped sum tid item (a ∷ acts) = cond (item_eq a.item item) (stamped_as sum tid a ∷ stamped sum tid item acts) (stamped sum tid item acts)

stamped-append : (sum : ℕ) (tid : Tid) (item : Item) (xs ys : List Act) → stamped sum tid item (xs ++ ys) ≡ stamped sum tid item xs ++ stamped sum tid item ys
stamped-append sum tid item [] ys = refl
stamped-append sum tid item (x ∷ xs) ys = on (item_eq x.item item) (stamped-append sum tid item xs ys)
  where
    on : (b : Bool) → stamped sum tid item (xs ++ ys) ≡ stamped sum tid item xs ++ stamped sum tid item ys
        → cond b (stamped_as sum tid x ∷ stamped sum tid item (xs ++ ys)) (stamped sum tid item (xs ++ ys)) ≡ cond b
        (stamped_as sum tid x ∷ stamped sum tid item xs) (stamped sum tid item xs) ++ stamped sum tid item ys
    on true e = ap (λ l. stamped_as sum tid x ∷ l) e
    on false e = e

-- the machine applies these
pub writes_applied : (item : Item) (sum : ℕ) (tid : Tid) (acts : List Act) (s : State)
    → after_writes item sum tid s (writes_in acts) ≡ state_after updated s (stamped sum tid item acts)
writes_applied item sum tid [] s = refl
writes_applied item sum tid (a ∷ acts) s = on (item_eq a.item item) (writes_applied item sum tid acts)
  where
    m : Stamp
    m = record { sum = sum; tid = tid; place = a.place }

    on : (b : Bool) → ((s : State) → after_writes item sum tid s (writes_in acts) ≡ state_after updated s (stamped sum tid item acts))
        → after_writes item sum tid (cond b (updated s a.effect m) s) (writes_in acts) ≡ state_after updated s
        (cond b (stamped_as sum tid a ∷ stamped sum tid item acts) (stamped sum tid item acts))
    on true again = again (updated s a.effect m)
    on false again = again s

pub own_applied : (item : Item) (tid : Tid) (acts : List Act) (s : State)
    → after_own tid s (own_effects item (writes_in acts)) ≡ state_after updated s (stamped own_sum tid item acts)
own_applied item tid [] s = refl
own_applied item tid (a ∷ acts) s = on (item_eq a.item item) (own_applied item tid acts)
  where
    m : Stamp
    m = record { sum = own_sum; tid = tid; place = a.place }

    on : (b : Bool) → ((s : State) → after_own tid s (own_effects item (writes_in acts)) ≡ state_after updated s (stamped own_sum tid item acts))
        → after_own tid s (cond b ((a.place, a.effect) ∷ own_effects item (writes_in acts)) (own_effects item (writes_in acts))) ≡ state_after updated s
        (cond b (stamped_as own_sum tid a ∷ stamped own_sum tid item acts) (stamped own_sum tid item acts))
    on true again = again (updated s a.effect m)
    on false again = again s

-- a user sees them as the execution has them
pub updates_in-append : (us vs : List (Stamped Op Effect)) → updates_in (us ++ vs) ≡ updates_in us ++ updates_in vs
updates_in-append [] vs = refl
updates_in-append (u ∷ us) vs = ap (λ l. record { tag = record { tid = u.stamp.tid; place = u.stamp.place }; op = u.op } ∷ l) (updates_in-append us vs)

updates_from-one : (sum : ℕ) (tid : Tid) (item : Item) (n : ℕ) (d : Done) (ds : List Done) (o : Option Effect) → (o ≡ None) ↔ (is_update d.op ≡ false)
    → updates_in (stamped sum tid item (act_of d n o)) ++ updates_from (n + 1) tid item ds ≡ updates_from n tid item (d ∷ ds)
updates_from-one sum tid item n d ds None h = rw (h.0 refl) refl
updates_from-one sum tid item n d ds (Some e) h = on (item_eq d.item item) (is_update d.op) refl
  where
    rest : List (Update Op)
    rest = updates_from (n + 1) tid item ds

    new : Update Op
    new = record { tag = record { tid = tid; place = n }; op = d.op }

    on : (b u : Bool) → is_update d.op ≡ u
        → updates_in (cond b (record { stamp = record { sum = sum; tid = tid; place = n }; op = d.op; effect = e } ∷ []) []) ++ rest ≡ cond (u && b)
        (new ∷ rest) rest
    on true true k = refl
    on false true k = refl
    on b false k = absurd (let f = h.1 k in cc)

module _ (spaces : List (ℕ × Kind)) (decided : List LogTx) (tid : Tid) (sn : List ℕ) where
  -- of the operations of the item's kind exactly those that update have an effect
  prepares-here : (item : Item) (own : List (ℕ × Effect)) (tag : Tag) (op : Op) → Fits spaces item op
      → (prepared tag op (state_at spaces decided tid sn item own) ≡ None) ↔ (is_update op ≡ false)
  prepares-here item own tag op f =
      let start = initial (kind_for spaces item.space) in
      let r = reached_own op start tid own _ (reached_log op start item sn decided start (record { us = []; is = refl })) in
      subst (λ s. (prepared tag op s ≡ None) ↔ (is_update op ≡ false)) (sym r.is) (prepares-updates (kind_for spaces item.space) r.us tag op f)

  -- one more operation
  pub acts_from-push : (n : ℕ) (acts : List Act) (ds : List Done) (d : Done)
      → acts_from spaces decided tid sn n acts (ds ++ d ∷ []) ≡ acts_from spaces decided tid sn n acts ds ++ act_of d (n + length ds)
      (effect_at spaces decided tid sn (acts_from spaces decided tid sn n acts ds) (n + length ds) d)
  acts_from-push n acts [] d = ap (λ k. acts ++ act_of d k (effect_at spaces decided tid sn acts k d)) (omega arith)
  acts_from-push n acts (x ∷ ds) d =
      let next = acts ++ act_of x n (effect_at spaces decided tid sn acts n x) in
      let e : n + 1 + length ds ≡ n + length (x ∷ ds) = omega arith in
      acts_from-push (n + 1) next ds d
      ∙ ap (λ k. acts_from spaces decided tid sn (n + 1) next ds ++ act_of d k
      (effect_at spaces decided tid sn (acts_from spaces decided tid sn (n + 1) next ds) k d)) e

  acts_from-more : (n : ℕ) (acts : List Act) (ds : List Done) → IsPrefix acts (acts_from spaces decided tid sn n acts ds)
  acts_from-more n acts [] = prefix_refl acts
  acts_from-more n acts (d ∷ ds) = prefix_trans (prefix_append acts _) (acts_from-more (n + 1) _ ds)

  updates_act : (n : ℕ) (acts : List Act) (ds : List Done) → AllFits spaces ds → list_any (λ (d : Done). is_update d.op) ds ≡ true
      → (a : Act) × In a (acts_from spaces decided tid sn n acts ds)
  updates_act n acts [] fits h = absurd (true≢false (sym h))
  updates_act n acts (d ∷ ds) fits h =
      on (is_update d.op) refl h (updates_act (n + 1) (acts ++ act_of d n (effect_at spaces decided tid sn acts n d)) ds fits.1)
    where
      here : is_update d.op ≡ true → (a : Act) × In a (acts_from spaces decided tid sn n acts (d ∷ ds))
      here e =
          let o = effect_at spaces decided tid sn acts n d in
          let f = filled d n o (λ k. true≢false (sym e
          ∙ (prepares-here d.item (own_effects d.item (writes_in acts)) (record { tid = tid; place = n }) d.op fits.0).0 k)) in
          (f.0, in_later f.0 (acts_from-more (n + 1) (acts ++ act_of d n o) ds) (at_back f.0 acts (act_of d n o) f.1))
        where
          at_back : (a : Act) (xs ys : List Act) → In a ys → In a (xs ++ ys)
          at_back a [] ys i = i
          at_back a (x ∷ xs) ys i = inr (at_back a xs ys i)

      on : (b : Bool) → is_update d.op ≡ b → (b || list_any (λ (d : Done). is_update d.op) ds) ≡ true
          → (list_any (λ (d : Done). is_update d.op) ds ≡ true → (a : Act) × In a (acts_from spaces decided tid sn n acts (d ∷ ds)))
          → (a : Act) × In a (acts_from spaces decided tid sn n acts (d ∷ ds))
      on true e h again = here e
      on false e h again = again h

  pub update-writes : (ds : List Done) → AllFits spaces ds → list_any (λ (d : Done). is_update d.op) ds ≡ true
      → HasWrites (writes_in (acts_of spaces decided tid sn ds))
  update-writes ds fits h = let a = updates_act 1 [] ds fits h in in_has a.0 (acts_of spaces decided tid sn ds) a.1

  act_updates : (n : ℕ) (acts : List Act) (ds : List Done) → AllFits spaces ds → (a : Act) → In a (acts_from spaces decided tid sn n acts ds)
      → In a acts ⊎ (list_any (λ (d : Done). is_update d.op) ds ≡ true)
  act_updates n acts [] fits a i = inl i
  act_updates n acts (d ∷ ds) fits a i = ⊎_elim
      (λ j. ⊎_elim (λ k. inl k) (λ k. inr (first (effect_at spaces decided tid sn acts n d)
      (prepares-here d.item (own_effects d.item (writes_in acts)) (record { tid = tid; place = n }) d.op fits.0).1 k)) (in_either a acts _ j))
      (λ h. inr (later (is_update d.op) h))
      (act_updates (n + 1) (acts ++ act_of d n (effect_at spaces decided tid sn acts n d)) ds fits.1 a i)
    where
      any : Bool
      any = list_any (λ (d : Done). is_update d.op) ds

      later : (b : Bool) → any ≡ true → (b || any) ≡ true
      later true e = refl
      later false e = e

      updates : (o : Option Effect) → (is_update d.op ≡ false → o ≡ None) → In a (act_of d n o) → (b : Bool) → is_update d.op ≡ b → b ≡ true
      updates None h k b e = absurd k
      updates (Some x) h k true e = refl
      updates (Some x) h k false e = absurd (let f = h e in cc)

      first : (o : Option Effect) → (is_update d.op ≡ false → o ≡ None) → In a (act_of d n o) → (is_update d.op || any) ≡ true
      first o h k = rw (updates o h k (is_update d.op) refl) refl

  pub act-updates : (ds : List Done) → AllFits spaces ds → (a : Act) → In a (acts_of spaces decided tid sn ds)
      → list_any (λ (d : Done). is_update d.op) ds ≡ true
  act-updates ds fits a i = ⊎_elim (λ n. absurd n) (λ h. h) (act_updates 1 [] ds fits a i)

  pub writes-update : (ds : List Done) → AllFits spaces ds → HasWrites (writes_in (acts_of spaces decided tid sn ds))
      → list_any (λ (d : Done). is_update d.op) ds ≡ true
  writes-update ds fits h = on (acts_of spaces decided tid sn ds) h (act-updates ds fits)
    where
      on : (acts : List Act) → HasWrites (writes_in acts) → ((a : Act) → In a acts → list_any (λ (d : Done). is_update d.op) ds ≡ true)
          → list_any (λ (d : Done). is_update d.op) ds ≡ true
      on [] h f = absurd h
      on (a ∷ acts) h f = f a (inl refl)

  -- its effect was prepared at what it met
  abbrev pub IsMade : List Act → Act → Type 0
  IsMade acts a = prepared (record { tid = tid; place = a.place }) a.op (met_by spaces decided tid sn a.item (earlier a acts)) ≡ Some a.effect

  pub record AreActs (n : ℕ) (acts : List Act) : Type 0 where
    pub below : (a : Act) → In a acts → a.place < n
    pub ascending : AllLater (λ (a b : Act). a.place < b.place) acts
    pub fit : (a : Act) → In a acts → Fits spaces a.item a.op
    pub made : (a : Act) → In a acts → IsMade acts a

  acts_push : (n : ℕ) (acts : List Act) (d : Done) (o : Option Effect) → effect_at spaces decided tid sn acts n d ≡ o → Fits spaces d.item d.op → AreActs n acts
      → AreActs (n + 1) (acts ++ act_of d n o)
  acts_push n acts d None e f h =
      subst (AreActs (n + 1)) (sym (append-nil acts))
      (record { below = λ a i. omega (arith, h.below a i); ascending = h.ascending; fit = h.fit; made = h.made })
  acts_push n acts d (Some x) e f h = record {
    below = in_push (λ (a : Act). a.place < n + 1) acts new (λ a i. omega (arith, h.below a i)) (omega arith);
    ascending = later_push (λ (a b : Act). a.place < b.place) acts new h.ascending h.below;
    fit = in_push (λ (a : Act). Fits spaces a.item a.op) acts new h.fit f;
    made = in_push (IsMade (acts ++ new ∷ [])) acts new
        (λ a i. subst (AtActs a) (sym (earlier-old a new acts (not_less a.place n (omega (arith, h.below a i))))) (h.made a i))
        (subst (AtActs new) (sym (earlier-old new new acts (not_less n n (omega arith)) ∙ all_earlier new acts h.below)) e);
  }
    where
      new : Act
      new = record { place = n; item = d.item; op = d.op; effect = x }

      AtActs : Act → List Act → Type 0
      AtActs a bs = prepared (record { tid = tid; place = a.place }) a.op (met_by spaces decided tid sn a.item bs) ≡ Some a.effect

  are_acts_from : (n : ℕ) (acts : List Act) (ds : List Done) → AllFits spaces ds → AreActs n acts
      → AreActs (n + length ds) (acts_from spaces decided tid sn n acts ds)
  are_acts_from n acts [] fits h = subst (λ k. AreActs k acts) (omega arith) h
  are_acts_from n acts (d ∷ ds) fits h =
      let e : n + 1 + length ds ≡ n + length (d ∷ ds) = omega arith in
      subst (λ k. AreActs k (acts_from spaces decided tid sn n acts (d ∷ ds))) e
      (are_acts_from (n + 1) _ ds fits.1 (acts_push n acts d (effect_at spaces decided tid sn acts n d) refl fits.0 h))

  pub are_acts : (ds : List Done) → AllFits spaces ds → AreActs (1 + length ds) (acts_of spaces decided tid sn ds)
  are_acts ds fits = are_acts_from 1 [] ds fits (record { below = λ a i. absurd i; ascending = tt; fit = λ a i. absurd i; made = λ a i. absurd i })

  updates_from-are : (sum : ℕ) (item : Item) (n : ℕ) (acts : List Act) (ds : List Done) → AllFits spaces ds
      → updates_in (stamped sum tid item (acts_from spaces decided tid sn n acts ds)) ≡ updates_in (stamped sum tid item acts) ++ updates_from n tid item ds
  updates_from-are sum item n acts [] fits = sym (append-nil (updates_in (stamped sum tid item acts)))
  updates_from-are sum item n acts (d ∷ ds) fits =
      let o = effect_at spaces decided tid sn acts n d in
      updates_from-are sum item (n + 1) (acts ++ act_of d n o) ds fits.1
      ∙ ap (λ us. updates_in us ++ updates_from (n + 1) tid item ds) (stamped-append sum tid item acts (act_of d n o))
      ∙ ap (λ us. us ++ updates_from (n + 1) tid item ds) (updates_in-append (stamped sum tid item acts) (stamped sum tid item (act_of d n o)))
      ∙ append_assoc (updates_in (stamped sum tid item acts)) (updates_in (stamped sum tid item (act_of d n o))) (updates_from (n + 1) tid item ds)
      ∙ ap (λ us. updates_in (stamped sum tid item acts) ++ us)
      (updates_from-one sum tid item n d ds o (prepares-here d.item (own_effects d.item (writes_in acts)) (record { tid = tid; place = n }) d.op fits.0))

  pub updates-are : (sum : ℕ) (item : Item) (ds : List Done) → AllFits spaces ds
      → updates_in (stamped sum tid item (acts_of spaces decided tid sn ds)) ≡ updates_from 1 tid item ds
  updates-are sum item ds fits = updates_from-are sum item 1 [] ds fits
