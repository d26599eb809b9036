-- Consistency: closed, valued, ordered; and sound, which is consistent and well formed.
use Rattle.std.specs.Prelude.{◌≡◌, ◌<◌, ◌≤◌, List, [], ◌∷◌, true, false, ◌⊎◌}
use Rattle.us_kind.specs.Comparison.{In, tid_eq}
use Rattle.us_exec.specs.declared.SessionName.{SessionName}
use Rattle.us_exec.specs.declared.Count.{Count}
use Rattle.us_exec.specs.declared.Entry.{Entry}
use Rattle.us_exec.specs.declared.Loose.{Loose}
use Rattle.us_exec.specs.declared.Link.{Link}
use Rattle.us_exec.specs.declared.Execution.{Execution}
use Rattle.us_exec.specs.Past.{is_before}
use Rattle.us_exec.specs.Conflict.{Declared, conflict}
use Rattle.us_exec.specs.Values.{HaveValues}
use Rattle.us_exec.specs.WellFormed.{IsWellFormed}

-- for each link of its session, the first transactions of the other session are before a transaction with this past
abbrev pub HoldsLinked : Execution → SessionName → List Count → Type 0
HoldsLinked x session past =
    (l : Link) (e : Entry) → In l x.links → In e x.entries → l.session ≡ session → e.session ≡ l.from → e.number ≤ l.count → is_before e past ≡ true

-- whatever is before a transaction that is before it is before it
abbrev pub HoldsWhatIsBefore : Execution → List Count → Type 0
HoldsWhatIsBefore x past = (d e : Entry) → In d x.entries → In e x.entries → is_before d e.past ≡ true → is_before e past ≡ true → is_before d past ≡ true

-- CLOSED, for one transaction of this session with this past
pub record IsClosedPast (x : Execution) (session : SessionName) (past : List Count) : Type 0 where
  pub linked : HoldsLinked x session past
  pub closed : HoldsWhatIsBefore x past

-- every committed transaction that its session had before it is before a transaction
abbrev pub HoldSessions : Execution → Type 0
HoldSessions x = (d e : Entry) → In d x.entries → In e x.entries → d.session ≡ e.session → d.number < e.number → is_before d e.past ≡ true

abbrev pub LooseHoldSessions : Execution → Type 0
LooseHoldSessions x = (d : Entry) (l : Loose) → In d x.entries → In l x.loose → d.session ≡ l.session → d.tid.seq < l.tid.seq → is_before d l.past ≡ true

-- c stands earlier than d
abbrev pub StandsBefore : Entry → Entry → List Entry → Type 0
StandsBefore c d [] = ⊥
StandsBefore c d (x ∷ xs) = ((x ≡ c) × In d xs) ⊎ StandsBefore c d xs

-- what is before a committed transaction stands earlier
abbrev pub StandInOrder : Execution → Type 0
StandInOrder x = (d e : Entry) → In d x.entries → In e x.entries → is_before d e.past ≡ true → StandsBefore d e x.entries

-- CLOSED
pub record IsClosed (x : Execution) : Type 0 where
  pub entries : (e : Entry) → In e x.entries → IsClosedPast x e.session e.past
  pub loose : (l : Loose) → In l x.loose → IsClosedPast x l.session l.past
  pub session : HoldSessions x
  pub loose_session : LooseHoldSessions x
  pub earlier : StandInOrder x

-- each answered operation of a committed transaction has its value
abbrev pub AnswersHaveValues : Execution → Type 0
AnswersHaveValues x = (e : Entry) → In e x.entries → HaveValues x.entries e.tid e.past [] e.ops

-- and of another one
abbrev pub LooseAnswersHaveValues : Execution → Type 0
LooseAnswersHaveValues x = (l : Loose) → In l x.loose → HaveValues x.entries l.tid l.past [] l.ops

-- VALUED
pub record IsValued (x : Execution) : Type 0 where
  pub entries : AnswersHaveValues x
  pub loose : LooseAnswersHaveValues x

-- ORDERED: of two strong transactions that conflict, one is before the other
pub record IsOrdered (declared : Declared) (x : Execution) : Type 0 where
  pub ordered : (d e : Entry) → In d x.entries → In e x.entries → tid_eq d.tid e.tid ≡ false → d.strong ≡ true → e.strong ≡ true
      → conflict declared d.ops e.ops ≡ true → (is_before d e.past ≡ true) ⊎ (is_before e d.past ≡ true)

-- CONSISTENT, by declared conflicts and without a clause on progress
pub record IsPor (declared : Declared) (x : Execution) : Type 0 where
  pub closed : IsClosed x
  pub valued : IsValued x
  pub ordered : IsOrdered declared x

-- SOUND: well formed, and consistent by declared conflicts
pub record IsSound (declared : Declared) (x : Execution) : Type 0 where
  pub formed : IsWellFormed x
  pub consistent : IsPor declared x
