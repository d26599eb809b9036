-- Which session an event concerns.
use Rattle.std.proofs.Common.{◌≡◌, ℕ, List, [], ◌∷◌, ◌++◌, ◌&&◌, Bool, true, false, refl, ap, sym, ◌∙◌}
use Rattle.std.specs.Prelude.{Option, Some, None, if◌then◌else◌, not, ◌==◌}
use Rattle.std.specs.List.{list_any}
use Rattle.std.proofs.lemmas.Bool.{ne_eqb, and_parts}
use Rattle.us_kind.specs.Comparison.{tid_eq}
use Rattle.us_kind.specs.declared.identity.Tid.{Tid}
use Rattle.us_kind.specs.Updates.{All}
use Rattle.us_kind.proofs.TestLemmas.{tid_eq-true}
use Rattle.us_peer_wire.specs.declared.message.Version.{Version}
use Rattle.us_model.specs.State.{Spaces}
use Rattle.us_wire.specs.Frames.{fed}
use Rattle.us_model.specs.declared.coordinator.Session.{Session}
use Rattle.us_model.specs.declared.coordinator.Context.{Context}
use Rattle.us_model.specs.declared.coordinator.Transaction.{Transaction}
use Rattle.us_model.specs.declared.coordinator.Await.{Await}
use Rattle.us_model.specs.declared.coordinator.Await.TheVariants as waits
use Rattle.us_model.specs.Sessions.{stays, close, bytes, closes_in, read_on, version, version_in, is_awaited, recorded_by}
use Rattle.us_model.specs.Sessions.{prepared, prepared_in, all_voted, without}
use Rattle.us_coord.specs.Order.{Concerns}
use Rattle.us_coord.specs.Table.{seq_of, IsFound, AreFound}

-- what holds of each holds of all
all_of : {X : Type 0} (P : X → Type 0) → ((x : X) → P x) → (xs : List X) → All P xs
all_of P h [] = tt
all_of P h (x ∷ xs) = (h x, all_of P h xs)

close_other : (number : ℕ) (s : Session) → (s.number ≡ number → ⊥) → (d : Context) → close number d s ≡ stays d s
unfolding close
close_other number s other d = ap (λ b. if b && not s.closed then closes_in d s s.waits else stays d s) (ne_eqb _ _ other)

bytes_other : (spaces : Spaces) (number : ℕ) (piece : List ℕ) (s : Session) → (s.number ≡ number → ⊥) → (d : Context)
    → bytes spaces number piece d s ≡ stays d s
unfolding bytes
bytes_other spaces number piece s other d =
    ap (λ b. if b && not s.closed then read_on spaces d s (fed s.stream piece) else stays d s) (ne_eqb _ _ other)

pub close_concerns : (number : ℕ) (ss : List Session) → Concerns (close number) number ss
close_concerns number ss = all_of (λ s. (s.number ≡ number → ⊥) → (d : Context) → close number d s ≡ stays d s) (close_other number) ss

pub bytes_concerns : (spaces : Spaces) (number : ℕ) (piece : List ℕ) (ss : List Session) → Concerns (bytes spaces number piece) number ss
bytes_concerns spaces number piece ss =
    all_of (λ s. (s.number ≡ number → ⊥) → (d : Context) → bytes spaces number piece d s ≡ stays d s) (bytes_other spaces number piece) ss

-- it runs no transaction of this number
abbrev pub RunsOther : ℕ → Option Transaction → Type 0
RunsOther seq o = (tx : Transaction) → o ≡ Some tx → tx.tid.seq ≡ seq → ⊥

version_in_other : (v : Version) (d : Context) (s : Session) (w : Await) (o : Option Transaction) → RunsOther v.tid.seq o → version_in v d s w o ≡ stays d s
version_in_other v d s waits.Nothing o other = refl
version_in_other v d s (waits.Prepared at pending votes) o other = refl
version_in_other v d s (waits.Version at place item op) None other = refl
version_in_other v d s (waits.Version at place item op) (Some tx) other = on (is_awaited v at place tx) refl
  where
    on : (b : Bool) → is_awaited v at place tx ≡ b → (if b then recorded_by d s at place item op tx v.form else stays d s) ≡ stays d s
    on true e = absurd (other tx refl (ap (λ (t : Tid). t.seq) (tid_eq-true tx.tid v.tid (and_parts _ _ e).0)))
    on false e = refl

prepared_in_other : (part : ℕ) (tid : Tid) (ts : ℕ) (d : Context) (s : Session) (w : Await) (o : Option Transaction) → RunsOther tid.seq o
    → prepared_in part tid ts d s w o ≡ stays d s
prepared_in_other part tid ts d s waits.Nothing o other = refl
prepared_in_other part tid ts d s (waits.Version at place item op) o other = refl
prepared_in_other part tid ts d s (waits.Prepared at pending votes) None other = refl
prepared_in_other part tid ts d s (waits.Prepared at pending votes) (Some tx) other = on (tid_eq tx.tid tid && list_any (λ p. p == part) pending) refl
  where
    on : (b : Bool)
        → (tid_eq tx.tid tid && list_any (λ p. p == part) pending) ≡ b
        → (if b then all_voted d s at tx (without part pending) (votes ++ record { part = part; ts = ts } ∷ []) else stays d s) ≡ stays d s
    on true e = absurd (other tx refl (ap (λ (t : Tid). t.seq) (tid_eq-true tx.tid tid (and_parts _ _ e).0)))
    on false e = refl

-- a session of another number than that which is found by a transaction doesn't run it
runs_other : (found : ℕ → ℕ) (seq q : ℕ) (s : Session) → IsFound found seq s → (s.number ≡ found q → ⊥) → RunsOther q s.running
runs_other found seq q s h other tx is same = other (sym (h tx.tid.seq (ap seq_of is)).0 ∙ ap found same)

version_other : (v : Version) (s : Session) → RunsOther v.tid.seq s.running → (d : Context) → version v d s ≡ stays d s
unfolding version
version_other v s other d = version_in_other v d s s.waits s.running other

prepared_other : (part : ℕ) (tid : Tid) (ts : ℕ) (s : Session) → RunsOther tid.seq s.running → (d : Context) → prepared part tid ts d s ≡ stays d s
unfolding prepared
prepared_other part tid ts s other d = prepared_in_other part tid ts d s s.waits s.running other

pub version_concerns : (found : ℕ → ℕ) (seq : ℕ) (v : Version) (ss : List Session) → AreFound found seq ss → Concerns (version v) (found v.tid.seq) ss
version_concerns found seq v [] h = tt
version_concerns found seq v (s ∷ ss) h =
    (λ other. version_other v s (runs_other found seq v.tid.seq s h.0 other), version_concerns found seq v ss h.1)

pub prepared_concerns : (found : ℕ → ℕ) (seq part : ℕ) (tid : Tid) (ts : ℕ) (ss : List Session) → AreFound found seq ss
    → Concerns (prepared part tid ts) (found tid.seq) ss
prepared_concerns found seq part tid ts [] h = tt
prepared_concerns found seq part tid ts (s ∷ ss) h =
    (λ other. prepared_other part tid ts s (runs_other found seq tid.seq s h.0 other), prepared_concerns found seq part tid ts ss h.1)
