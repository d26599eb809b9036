-- What holds of every run of the small world of 2f + 1 ballot logs.
use Rattle.std.specs.Prelude.{◌≡◌, ℕ, ◌+◌, ◌*◌, ◌<◌, ◌≤◌, List, [], ◌∷◌, ◌++◌, length, Bool, true, if◌then◌else◌, ◌⊎◌, Some, slice_get}
use Rattle.us_kind.specs.Comparison.{In}
use Rattle.us_ballot_model.specs.Ballots.{sites, owner, next_ballot, WINDOW}
use Rattle.us_ballot_model.specs.Rules.{trimmed}
use Rattle.us_ballot_model.specs.Worlds.{World, WorldEvent, run, opening_world}
use Rattle.us_agreement.specs.SiteCounts.{count}

-- the world after these events
abbrev pub after : {E : Type 0} → (E → E → Bool) → ℕ → List (WorldEvent E) → World E
after eq f hs = run eq f hs (opening_world f)

abbrev pub chosen_at : {E : Type 0} → World E → ℕ → List E
chosen_at w s = (w.at s).chosen

-- all that a site holds: its chosen entries and its tail
abbrev pub held_at : {E : Type 0} → World E → ℕ → List E
held_at w s = (w.at s).chosen ++ (w.at s).tail

-- the first list is a prefix of the second
pub record IsPrefix {E : Type 0} (xs ys : List E) : Type 0 where
  pub rest : List E
  pub is : ys ≡ xs ++ rest

-- f + 1 of the sites hold the entry in its slot, counted from 0
pub record IsHeldByMany {E : Type 0} (f : ℕ) (w : World E) (slot : ℕ) (e : E) : Type 0 where
  pub group : ℕ → Bool
  pub many : f < count group (sites f)
  pub holds : (s : ℕ) → group s ≡ true → slice_get (held_at w s) slot ≡ Some e

-- AGREEMENT: of two sites' chosen lists one is a prefix of the other
abbrev pub ChosenListsAgree : {E : Type 0} → (E → E → Bool) → Type 0
ChosenListsAgree {E} eq = (f : ℕ) (hs : List (WorldEvent E)) (s t : ℕ) →
    IsPrefix (chosen_at (after eq f hs) s) (chosen_at (after eq f hs) t) ⊎ IsPrefix (chosen_at (after eq f hs) t) (chosen_at (after eq f hs) s)

-- a chosen list only grows, whatever happens next
abbrev pub ChosenListsGrow : {E : Type 0} → (E → E → Bool) → Type 0
ChosenListsGrow {E} eq = (f : ℕ) (hs more : List (WorldEvent E)) (s : ℕ) → IsPrefix (chosen_at (after eq f hs) s) (chosen_at (after eq f (hs ++ more)) s)

-- each chosen entry was put into the log by a leader
abbrev pub ChosenEntriesWereAppended : {E : Type 0} → (E → E → Bool) → Type 0
ChosenEntriesWereAppended {E} eq = (f : ℕ) (hs : List (WorldEvent E)) (s : ℕ) (e : E) → In e (chosen_at (after eq f hs) s) → In e (after eq f hs).appended

-- once chosen, an entry is held in its slot by f + 1 sites, whatever happens next
abbrev pub ChosenEntriesAreHeld : {E : Type 0} → (E → E → Bool) → Type 0
ChosenEntriesAreHeld {E} eq = (f : ℕ) (hs more : List (WorldEvent E)) (s slot : ℕ) (e : E) →
    slice_get (chosen_at (after eq f hs) s) slot ≡ Some e → IsHeldByMany f (after eq f (hs ++ more)) slot e

-- a tail has at most 8 entries
abbrev pub TailsAreShort : {E : Type 0} → (E → E → Bool) → Type 0
TailsAreShort {E} eq = (f : ℕ) (hs : List (WorldEvent E)) (s : ℕ) → length ((after eq f hs).at s).tail ≤ WINDOW

-- the ballot that a site leads next is the least above its own that it owns
pub record IsLeastOwned (f s b next : ℕ) : Type 0 where
  pub owned : owner f next ≡ s
  pub above : b < next
  pub least : (c : ℕ) → b < c → c < next → owner f c ≡ s → ⊥

abbrev pub NextBallotsAreLeast : Type 0
NextBallotsAreLeast = (f s b : ℕ) → 1 ≤ s → s ≤ 2 * f + 1 → IsLeastOwned f s b (next_ballot f s b)

-- a tail after one entry that was learnt: without its head where that is equal, and else nothing
abbrev pub after_entry : {E : Type 0} → (E → E → Bool) → E → List E → List E
after_entry eq e [] = []
after_entry eq e (x ∷ tail) = if eq e x then tail else []

abbrev pub after_entries : {E : Type 0} → (E → E → Bool) → List E → List E → List E
after_entries eq [] tail = tail
after_entries eq (e ∷ es) tail = after_entries eq es (after_entry eq e tail)

-- what a learner's tail keeps of a page is what it keeps entry by entry
abbrev pub TailsLoseHeads : {E : Type 0} → (E → E → Bool) → Type 0
TailsLoseHeads {E} eq = (tail es : List E) → trimmed eq tail es ≡ after_entries eq es tail
