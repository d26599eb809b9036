-- A learner's tail, entry by entry.
use Rattle.std.proofs.Common.{◌≡◌, List, [], ◌∷◌, length, drop, Bool, true, false, refl, sym}
use Rattle.std.specs.Prelude.{◌&&◌, if◌then◌else◌}
use Rattle.std.specs.List.{starts_with}
use Rattle.us_ballot_model.specs.Rules.{trimmed}
use Rattle.us_agreement.specs.Laws.{after_entries}

nothing_left : {E : Type 0} (eq : E → E → Bool) (es : List E) → after_entries eq es [] ≡ []
nothing_left eq [] = refl
nothing_left eq (e ∷ es) = nothing_left eq es

pub loses_heads : {E : Type 0} (eq : E → E → Bool) (tail es : List E) → trimmed eq tail es ≡ after_entries eq es tail
loses_heads eq tail [] = refl
loses_heads eq [] (e ∷ es) = sym (nothing_left eq es)
loses_heads {E} eq (x ∷ tail) (e ∷ es) = on (eq e x) (loses_heads eq tail es)
  where
    on : (b : Bool) → trimmed eq tail es ≡ after_entries eq es tail
        → (if b && starts_with eq tail es then drop (length es) tail else []) ≡ after_entries eq es (if b then tail else [])
    on true h = h
    on false h = sym (nothing_left eq es)
