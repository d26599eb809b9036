-- Where all tests but one pass, all facts but that one hold; where all pass, the execution is sound.
use Rattle.std.proofs.Common.{◌≡◌, ◌≢◌, ℕ, inl, inr, List, [], ◌∷◌, Bool, true, false, refl, sym, ap, ◌∙◌}
use Rattle.std.specs.Prelude.{◌||◌, ◌==◌, slice_index_or}
use Rattle.std.proofs.lemmas.Bool.{eqb-true}
use Rattle.us_kind.specs.Comparison.{In}
use Rattle.us_exec.specs.declared.Execution.{Execution}
use Rattle.us_exec.specs.Conflict.{Declared}
use Rattle.us_exec.specs.Consistency.{IsSound}
use Rattle.us_exec.specs.Facts.{Fact, Numbered, OfCoordinators, LooseOfCoordinators, BegunInOrder, NamedOnce, LooseNamedOnce, NamedApart, CountedOnce, CountedFromOne, CountedWithin, LooseCountedOnce, LooseCountedFromOne, LooseCountedWithin, Linked, LooseLinked, Transitive, LooseTransitive, InSession, LooseInSession, InOrder, Valued, LooseValued, Ordered}
use Rattle.us_exec.specs.Facts.{Says, LacksOnly, SoundIsEveryFact}
use Rattle.us_exec.proofs.Checks.{every, every_in, test, says}

-- every fact
abbrev facts : List Fact
facts =
    Numbered ∷ OfCoordinators ∷ LooseOfCoordinators ∷ BegunInOrder ∷ NamedOnce ∷ LooseNamedOnce ∷ NamedApart
    ∷ CountedOnce ∷ CountedFromOne ∷ CountedWithin ∷ LooseCountedOnce ∷ LooseCountedFromOne ∷ LooseCountedWithin
    ∷ Linked ∷ LooseLinked ∷ Transitive ∷ LooseTransitive ∷ InSession ∷ LooseInSession ∷ InOrder
    ∷ Valued ∷ LooseValued ∷ Ordered ∷ []

in_facts : (fact : Fact) → In fact facts
in_facts Numbered = inl refl
in_facts OfCoordinators = inr (inl refl)
in_facts LooseOfCoordinators = inr (inr (inl refl))
in_facts BegunInOrder = inr (inr (inr (inl refl)))
in_facts NamedOnce = inr (inr (inr (inr (inl refl))))
in_facts LooseNamedOnce = inr (inr (inr (inr (inr (inl refl)))))
in_facts NamedApart = inr (inr (inr (inr (inr (inr (inl refl))))))
in_facts CountedOnce = inr (inr (inr (inr (inr (inr (inr (inl refl)))))))
in_facts CountedFromOne = inr (inr (inr (inr (inr (inr (inr (inr (inl refl))))))))
in_facts CountedWithin = inr (inr (inr (inr (inr (inr (inr (inr (inr (inl refl)))))))))
in_facts LooseCountedOnce = inr (inr (inr (inr (inr (inr (inr (inr (inr (inr (inl refl))))))))))
in_facts LooseCountedFromOne = inr (inr (inr (inr (inr (inr (inr (inr (inr (inr (inr (inl refl)))))))))))
in_facts LooseCountedWithin = inr (inr (inr (inr (inr (inr (inr (inr (inr (inr (inr (inr (inl refl))))))))))))
in_facts Linked = inr (inr (inr (inr (inr (inr (inr (inr (inr (inr (inr (inr (inr (inl refl)))))))))))))
in_facts LooseLinked = inr (inr (inr (inr (inr (inr (inr (inr (inr (inr (inr (inr (inr (inr (inl refl))))))))))))))
in_facts Transitive = inr (inr (inr (inr (inr (inr (inr (inr (inr (inr (inr (inr (inr (inr (inr (inl refl)))))))))))))))
in_facts LooseTransitive = inr (inr (inr (inr (inr (inr (inr (inr (inr (inr (inr (inr (inr (inr (inr (inr (inl refl))))))))))))))))
in_facts InSession = inr (inr (inr (inr (inr (inr (inr (inr (inr (inr (inr (inr (inr (inr (inr (inr (inr (inl refl)))))))))))))))))
in_facts LooseInSession = inr (inr (inr (inr (inr (inr (inr (inr (inr (inr (inr (inr (inr (inr (inr (inr (inr (inr (inl refl))))))))))))))))))
in_facts InOrder = inr (inr (inr (inr (inr (inr (inr (inr (inr (inr (inr (inr (inr (inr (inr (inr (inr (inr (inr (inl refl)))))))))))))))))))
in_facts Valued = inr (inr (inr (inr (inr (inr (inr (inr (inr (inr (inr (inr (inr (inr (inr (inr (inr (inr (inr (inr (inl refl))))))))))))))))))))
in_facts LooseValued = inr (inr (inr (inr (inr (inr (inr (inr (inr (inr (inr (inr (inr (inr (inr (inr (inr (inr (inr (inr (inr (inl refl)))))))))))))))))))))
in_facts Ordered = inr (inr (inr (inr (inr (inr (inr (inr (inr (inr (inr (inr (inr (inr (inr (inr (inr (inr (inr (inr (inr (inr (inl refl))))))))))))))))))))))

abbrev place : Fact → ℕ
place Numbered = 0
place OfCoordinators = 1
place LooseOfCoordinators = 2
place BegunInOrder = 3
place NamedOnce = 4
place LooseNamedOnce = 5
place NamedApart = 6
place CountedOnce = 7
place CountedFromOne = 8
place CountedWithin = 9
place LooseCountedOnce = 10
place LooseCountedFromOne = 11
place LooseCountedWithin = 12
place Linked = 13
place LooseLinked = 14
place Transitive = 15
place LooseTransitive = 16
place InSession = 17
place LooseInSession = 18
place InOrder = 19
place Valued = 20
place LooseValued = 21
place Ordered = 22

-- the fact at a place
abbrev fact_at : ℕ → Fact
fact_at n = slice_index_or facts n Ordered

fact_at-place : (fact : Fact) → fact_at (place fact) ≡ fact
fact_at-place Numbered = refl
fact_at-place OfCoordinators = refl
fact_at-place LooseOfCoordinators = refl
fact_at-place BegunInOrder = refl
fact_at-place NamedOnce = refl
fact_at-place LooseNamedOnce = refl
fact_at-place NamedApart = refl
fact_at-place CountedOnce = refl
fact_at-place CountedFromOne = refl
fact_at-place CountedWithin = refl
fact_at-place LooseCountedOnce = refl
fact_at-place LooseCountedFromOne = refl
fact_at-place LooseCountedWithin = refl
fact_at-place Linked = refl
fact_at-place LooseLinked = refl
fact_at-place Transitive = refl
fact_at-place LooseTransitive = refl
fact_at-place InSession = refl
fact_at-place LooseInSession = refl
fact_at-place InOrder = refl
fact_at-place Valued = refl
fact_at-place LooseValued = refl
fact_at-place Ordered = refl

same_fact : (a b : Fact) → (place a == place b) ≡ true → a ≡ b
same_fact a b h = sym (fact_at-place a) ∙ ap fact_at (eqb-true _ _ h) ∙ fact_at-place b

-- all tests but that of this fact pass
abbrev pub others_pass : Fact → Declared → Execution → Bool
others_pass fact declared x = every (λ (other : Fact). (place other == place fact) || test other declared x) facts

others_hold : (fact : Fact) (declared : Declared) (x : Execution) → others_pass fact declared x ≡ true
    → (other : Fact) → other ≢ fact → Says other declared x
others_hold fact declared x h other apart =
    on (place other == place fact) refl (every_in (λ (o : Fact). (place o == place fact) || test o declared x) facts other h (in_facts other))
  where
    on : (b : Bool) → (place other == place fact) ≡ b → (b || test other declared x) ≡ true → Says other declared x
    on true same t = absurd (apart (same_fact other fact same))
    on false same t = says other declared x t

pub lacks_only : (fact : Fact) (declared : Declared) (x : Execution) → others_pass fact declared x ≡ true → (Says fact declared x → ⊥)
    → LacksOnly fact declared x
lacks_only fact declared x h lacks = record { lacks = lacks; others = others_hold fact declared x h }

-- sound is all facts
pub from_facts : (declared : Declared) (x : Execution) → ((fact : Fact) → Says fact declared x) → IsSound declared x
from_facts declared x h = record {
  formed = record {
    numbers = h Numbered;
    coordinators = h OfCoordinators;
    loose_coordinators = h LooseOfCoordinators;
    begun = h BegunInOrder;
    once = h NamedOnce;
    loose_once = h LooseNamedOnce;
    apart = h NamedApart;
    pasts = λ e i. record { sessions = h CountedOnce e i; from_one = h CountedFromOne e i; within = h CountedWithin e i };
    loose_pasts = λ l i. record { sessions = h LooseCountedOnce l i; from_one = h LooseCountedFromOne l i; within = h LooseCountedWithin l i };
  };
  consistent = record {
    closed = record {
      entries = λ e i. record { linked = h Linked e i; closed = h Transitive e i };
      loose = λ l i. record { linked = h LooseLinked l i; closed = h LooseTransitive l i };
      session = h InSession;
      loose_session = h LooseInSession;
      earlier = h InOrder;
    };
    valued = record { entries = h Valued; loose = h LooseValued };
    ordered = h Ordered;
  };
}

to_facts : (declared : Declared) (x : Execution) → IsSound declared x → (fact : Fact) → Says fact declared x
to_facts declared x h Numbered = h.formed.numbers
to_facts declared x h OfCoordinators = h.formed.coordinators
to_facts declared x h LooseOfCoordinators = h.formed.loose_coordinators
to_facts declared x h BegunInOrder = h.formed.begun
to_facts declared x h NamedOnce = h.formed.once
to_facts declared x h LooseNamedOnce = h.formed.loose_once
to_facts declared x h NamedApart = h.formed.apart
to_facts declared x h CountedOnce = λ e i. (h.formed.pasts e i).sessions
to_facts declared x h CountedFromOne = λ e i. (h.formed.pasts e i).from_one
to_facts declared x h CountedWithin = λ e i. (h.formed.pasts e i).within
to_facts declared x h LooseCountedOnce = λ l i. (h.formed.loose_pasts l i).sessions
to_facts declared x h LooseCountedFromOne = λ l i. (h.formed.loose_pasts l i).from_one
to_facts declared x h LooseCountedWithin = λ l i. (h.formed.loose_pasts l i).within
to_facts declared x h Linked = λ e i. (h.consistent.closed.entries e i).linked
to_facts declared x h LooseLinked = λ l i. (h.consistent.closed.loose l i).linked
to_facts declared x h Transitive = λ e i. (h.consistent.closed.entries e i).closed
to_facts declared x h LooseTransitive = λ l i. (h.consistent.closed.loose l i).closed
to_facts declared x h InSession = h.consistent.closed.session
to_facts declared x h LooseInSession = h.consistent.closed.loose_session
to_facts declared x h InOrder = h.consistent.closed.earlier
to_facts declared x h Valued = h.consistent.valued.entries
to_facts declared x h LooseValued = h.consistent.valued.loose
to_facts declared x h Ordered = h.consistent.ordered

pub every_fact : SoundIsEveryFact
every_fact declared x = (to_facts declared x, from_facts declared x)

-- all tests pass
abbrev pub all_pass : Declared → Execution → Bool
all_pass declared x = every (λ (fact : Fact). test fact declared x) facts

pub is_sound : (declared : Declared) (x : Execution) → all_pass declared x ≡ true → IsSound declared x
is_sound declared x h = from_facts declared x (λ fact. says fact declared x (every_in (λ (f : Fact). test f declared x) facts fact h (in_facts fact)))
