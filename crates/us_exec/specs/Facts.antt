-- What sound says, fact by fact, so that an execution can be shown to lack one of them alone.
use Rattle.std.specs.Prelude.{◌≢◌, ◌↔◌}
use Rattle.us_kind.specs.Comparison.{In}
use Rattle.us_exec.specs.declared.Entry.{Entry}
use Rattle.us_exec.specs.declared.Loose.{Loose}
use Rattle.us_exec.specs.declared.Execution.{Execution}
use Rattle.us_exec.specs.Conflict.{Declared}
use Rattle.us_exec.specs.WellFormed.{AreNumbered, AreOfCoordinators, LooseAreOfCoordinators, AreBegunInOrder, AreNamedOnce, LooseAreNamedOnce}
use Rattle.us_exec.specs.WellFormed.{AreNamedApart, NamesEachOnce, CountsFromOne, CountsWithin}
use Rattle.us_exec.specs.Consistency.{HoldsLinked, HoldsWhatIsBefore, HoldSessions, LooseHoldSessions, StandInOrder, AnswersHaveValues}
use Rattle.us_exec.specs.Consistency.{LooseAnswersHaveValues, IsOrdered, IsSound}

pub data Fact : Type 0 where
  -- well formed
  Numbered : Fact
  OfCoordinators : Fact
  LooseOfCoordinators : Fact
  BegunInOrder : Fact
  NamedOnce : Fact
  LooseNamedOnce : Fact
  NamedApart : Fact
  CountedOnce : Fact
  CountedFromOne : Fact
  CountedWithin : Fact
  LooseCountedOnce : Fact
  LooseCountedFromOne : Fact
  LooseCountedWithin : Fact
  -- closed
  Linked : Fact
  LooseLinked : Fact
  Transitive : Fact
  LooseTransitive : Fact
  InSession : Fact
  LooseInSession : Fact
  InOrder : Fact
  -- valued
  Valued : Fact
  LooseValued : Fact
  -- ordered
  Ordered : Fact

-- what a fact says
abbrev pub Says : Fact → Declared → Execution → Type 0
Says Numbered declared x = AreNumbered x
Says OfCoordinators declared x = AreOfCoordinators x
Says LooseOfCoordinators declared x = LooseAreOfCoordinators x
Says BegunInOrder declared x = AreBegunInOrder x
Says NamedOnce declared x = AreNamedOnce x
Says LooseNamedOnce declared x = LooseAreNamedOnce x
Says NamedApart declared x = AreNamedApart x
Says CountedOnce declared x = (e : Entry) → In e x.entries → NamesEachOnce e.past
Says CountedFromOne declared x = (e : Entry) → In e x.entries → CountsFromOne e.past
Says CountedWithin declared x = (e : Entry) → In e x.entries → CountsWithin x.entries e.past
Says LooseCountedOnce declared x = (l : Loose) → In l x.loose → NamesEachOnce l.past
Says LooseCountedFromOne declared x = (l : Loose) → In l x.loose → CountsFromOne l.past
Says LooseCountedWithin declared x = (l : Loose) → In l x.loose → CountsWithin x.entries l.past
Says Linked declared x = (e : Entry) → In e x.entries → HoldsLinked x e.session e.past
Says LooseLinked declared x = (l : Loose) → In l x.loose → HoldsLinked x l.session l.past
Says Transitive declared x = (e : Entry) → In e x.entries → HoldsWhatIsBefore x e.past
Says LooseTransitive declared x = (l : Loose) → In l x.loose → HoldsWhatIsBefore x l.past
Says InSession declared x = HoldSessions x
Says LooseInSession declared x = LooseHoldSessions x
Says InOrder declared x = StandInOrder x
Says Valued declared x = AnswersHaveValues x
Says LooseValued declared x = LooseAnswersHaveValues x
Says Ordered declared x = IsOrdered declared x

-- sound is all of them
abbrev pub SoundIsEveryFact : Type 0
SoundIsEveryFact = (declared : Declared) (x : Execution) → IsSound declared x ↔ ((fact : Fact) → Says fact declared x)

-- an execution lacks this fact and no other
pub record LacksOnly (fact : Fact) (declared : Declared) (x : Execution) : Type 0 where
  pub lacks : Says fact declared x → ⊥
  pub others : (other : Fact) → other ≢ fact → Says other declared x
