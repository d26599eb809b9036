-- The register keeps the laws of a replicated type.
use Rattle.std.proofs.Common.{◌≡◌, List, [], ◌∷◌, Bool, true, false, refl, sym, ap, ◌∙◌, true≢false, arith}
use Rattle.std.specs.Prelude.{ℕ, Option, Some, None, filter_map, ◌↔◌}
use Rattle.std.specs.List.{cons_option}
use Rattle.us_kind.specs.Histories.{all_from, all_weaker}
use Rattle.us_kind.specs.Orders.{bytes_trans, bytes_not, bytes_same, stamp_trans, stamp_not, stamp_ties, stamp_weaker}
use Rattle.us_kind.specs.Updates.{Stamped, All, AllLater, StandsBefore, Commutes, CountsUpdates, AnswersInOrder, state_after, updates_of}
use Rattle.us_kind.specs.Comparison.{last_of, tag_of}
use Rattle.us_kind.specs.declared.identity.Stamp.{Stamp}
use Rattle.us_kind.specs.declared.identity.Tag.{Tag}
use Rattle.us_plain.specs.Register.{kept_less, keep_later, register_initial, register_updated, register_answered, register_prepared, register_reads}
use Rattle.us_plain.specs.Register.{register_value, written, value_or_nothing}
use Rattle.us_plain.specs.declared.register.StampedValue.{StampedValue}
use Rattle.us_plain.specs.declared.register.RegisterState.{RegisterState}
use Rattle.us_plain.specs.declared.register.RegisterOp.{RegisterOp}
use Rattle.us_plain.specs.declared.register.RegisterOp.TheVariants.{RegisterRead, RegisterWrite}
use Rattle.us_plain.specs.declared.register.RegisterEffect.{RegisterEffect}
use Rattle.us_plain.specs.declared.register.RegisterEffect.TheVariants.{RegisterWrite as Written}

-- ---- the order of writes is strict and total

kept_trans : (a b c : StampedValue) → kept_less a b ≡ true → kept_less b c ≡ true → kept_less a c ≡ true
kept_trans a b c h k = stamp_trans a.stamp b.stamp c.stamp _ _ _ h k (bytes_trans a.value b.value c.value)

kept_not : (a b : StampedValue) → kept_less a b ≡ true → kept_less b a ≡ false
kept_not a b h = stamp_not a.stamp b.stamp _ _ h (bytes_not a.value b.value)

kept_same : (a b : StampedValue) → kept_less a b ≡ false → kept_less b a ≡ false → a ≡ b
kept_same a b h k =
    let tie = stamp_ties a.stamp b.stamp _ _ h k in
    let value = bytes_same a.value b.value tie.first tie.second in
    λ i. record { stamp = tie.same i; value = value i }

-- what is below one that isn't below another is above that other
not_below : (s a b : StampedValue) → kept_less s a ≡ true → kept_less s b ≡ false → kept_less a b ≡ false
not_below s a b h k = on (kept_less a b) refl
  where
    on : (z : Bool) → kept_less a b ≡ z → kept_less a b ≡ false
    on false e = e
    on true e = absurd (true≢false (sym (kept_trans s a b h e) ∙ k))

-- ---- two writes in either order

keep_two : (a b : StampedValue) → keep_later (Some a) b ≡ keep_later (Some b) a
keep_two a b = on (kept_less a b) (kept_less b a) refl refl
  where
    on : (x y : Bool) → kept_less a b ≡ x → kept_less b a ≡ y → keep_later (Some a) b ≡ keep_later (Some b) a
    on true y e f = rw (e, kept_not a b e) refl
    on false true e f = rw (e, f) refl
    on false false e f = rw (e, f) (ap Some (kept_same a b e f))

keep_three : (s a b : StampedValue) (x y : Bool) → kept_less s a ≡ x → kept_less s b ≡ y
    → keep_later (keep_later (Some s) a) b ≡ keep_later (keep_later (Some s) b) a
keep_three s a b true true ex ey = rw (ex, ey) (keep_two a b)
keep_three s a b true false ex ey = rw (ex, ey) (rw (not_below s a b ex ey) (rw ex refl))
keep_three s a b false true ex ey = rw (ex, ey) (rw (not_below s b a ey ex) refl)
keep_three s a b false false ex ey = rw (ex, ey) (rw ex refl)

keep_later-commutes : (s : Option StampedValue) (a b : StampedValue) → keep_later (keep_later s a) b ≡ keep_later (keep_later s b) a
keep_later-commutes None a b = keep_two a b
keep_later-commutes (Some s) a b = keep_three s a b _ _ refl refl

pub register-commutes : Commutes register_updated
register-commutes s (Written v) (Written w) m n i =
    record { kept = keep_later-commutes s.kept (record { stamp = m; value = v }) (record { stamp = n; value = w }) i }

-- ---- reading operations

pub register-reads : (tag : Tag) (op : RegisterOp) (s : RegisterState) → (register_prepared tag op s ≡ None) ↔ (register_reads op ≡ true)
register-reads tag RegisterRead s = (λ e. refl, λ e. refl)
register-reads tag (RegisterWrite v) s = (λ e. absurd (cc), λ e. absurd (cc))

-- a register counts no updates
pub register-counts : CountsUpdates register_initial register_updated (λ s. 0)
register-counts = record { none = refl; one_more = λ s e m. omega arith }

-- ---- the last write of a history is the one that is kept

value_of : RegisterEffect → List ℕ
value_of (Written v) = v

kept_of : Stamped RegisterOp RegisterEffect → StampedValue
kept_of u = record { stamp = u.stamp; value = value_of u.effect }

-- the update writes what its effect says
abbrev IsWrite : Stamped RegisterOp RegisterEffect → Type 0
IsWrite u = u.op ≡ RegisterWrite (value_of u.effect)

prepared_write : (tag : Tag) (op : RegisterOp) (s : RegisterState) (e : RegisterEffect) → register_prepared tag op s ≡ Some e
    → op ≡ RegisterWrite (value_of e)
unfolding value_of
prepared_write tag RegisterRead s e h = absurd (cc)
prepared_write tag (RegisterWrite v) s (Written w) h = cc

-- a write that stands after the one kept is kept in its place
after_later : (k : StampedValue) (e : RegisterEffect) (m : Stamp) → kept_less k (record { stamp = m; value = value_of e }) ≡ true
    → register_updated (record { kept = Some k }) e m ≡ record { kept = Some (record { stamp = m; value = value_of e }) }
unfolding value_of
after_later k (Written v) m h = rw h refl

-- what stands before another is the earlier write
before_less : (u v : Stamped RegisterOp RegisterEffect) → StandsBefore u v → kept_less (kept_of u) (kept_of v) ≡ true
unfolding kept_of
before_less u v h = stamp_weaker u.stamp v.stamp _ _ h.earlier (λ e. absurd (true≢false (sym e)))

read_after : (k : StampedValue) (us : List (Stamped RegisterOp RegisterEffect)) → All (λ u. kept_less k (kept_of u) ≡ true) us → AllLater StandsBefore us
    → All IsWrite us
    → register_answered RegisterRead (state_after register_updated (record { kept = Some k }) us)
    ≡ value_or_nothing (last_of (k.value ∷ filter_map (λ u. written u.op) (updates_of us)))
unfolding kept_of
read_after k [] later order writes = refl
read_after k (u ∷ us) later order writes =
    let kept = after_later k u.effect u.stamp later.0 in
    let rest =
    read_after (kept_of u) us (all_weaker (StandsBefore u) (λ v. kept_less (kept_of u) (kept_of v) ≡ true) (before_less u) us order.0) order.1 writes.1 in
    let found : filter_map (λ v. written v.op) (updates_of (u ∷ us)) ≡ value_of u.effect ∷ filter_map (λ v. written v.op) (updates_of us) =
    ap (λ op. cons_option (written op) (filter_map (λ v. written v.op) (updates_of us))) writes.0 in
    ap (λ s. register_answered RegisterRead (state_after register_updated s us)) kept ∙ rest
    ∙ sym (ap (λ vs. value_or_nothing (last_of (k.value ∷ vs))) found)

first_write : (e : RegisterEffect) (m : Stamp) → register_updated register_initial e m ≡ record { kept = Some (record { stamp = m; value = value_of e }) }
unfolding value_of
first_write (Written v) m = refl

read_in_order : (us : List (Stamped RegisterOp RegisterEffect)) → AllLater StandsBefore us → All IsWrite us
    → register_answered RegisterRead (state_after register_updated register_initial us)
    ≡ value_or_nothing (last_of (filter_map (λ u. written u.op) (updates_of us)))
unfolding kept_of
read_in_order [] order writes = refl
read_in_order (u ∷ us) order writes =
    let kept = first_write u.effect u.stamp in
    let rest =
    read_after (kept_of u) us (all_weaker (StandsBefore u) (λ v. kept_less (kept_of u) (kept_of v) ≡ true) (before_less u) us order.0) order.1 writes.1 in
    let found : filter_map (λ v. written v.op) (updates_of (u ∷ us)) ≡ value_of u.effect ∷ filter_map (λ v. written v.op) (updates_of us) =
    ap (λ op. cons_option (written op) (filter_map (λ v. written v.op) (updates_of us))) writes.0 in
    ap (λ s. register_answered RegisterRead (state_after register_updated s us)) kept ∙ rest ∙ sym (ap (λ vs. value_or_nothing (last_of vs)) found)

pub register-in_order : AnswersInOrder register_initial register_updated register_answered register_prepared register_value
register-in_order after us history (RegisterWrite v) = refl
register-in_order after us history RegisterRead =
    read_in_order us history.ordered (all_from IsWrite us (λ u i. prepared_write (tag_of u.stamp) u.op _ u.effect (history.made u i).effect))
