-- In arbitration order a session's transactions stay in the order of decision.
use Rattle.std.proofs.Common.{◌≡◌, ◌∙◌, inl, inr, List, [], ◌∷◌, length, Bool, true, false, cond, map, refl, sym, ap, true≢false}
use Rattle.std.specs.Prelude.{filter}
use Rattle.std.specs.List.{range_with_len}
use Rattle.std.proofs.lemmas.List.{length-map}
use Rattle.us_kind.specs.Comparison.{In}
use Rattle.us_kind.specs.Updates.{AllLater}
use Rattle.us_kind.specs.Ascending.{all_in}
use Rattle.us_exec.specs.declared.SessionName.{SessionName}
use Rattle.us_exec.specs.declared.Count.{Count}
use Rattle.us_exec.specs.declared.Entry.{Entry}
use Rattle.us_exec.specs.Past.{session_eq}
use Rattle.us_exec.specs.WellFormed.{numbers_of}
use Rattle.us_history.specs.Histories.{Begun, Committed, of_session}
use Rattle.us_history.specs.Arbitration.{precedes, placed, arbitrated}
use Rattle.us_history.specs.Executions.{entry_of, entries_of}
use Rattle.us_snapshots.proofs.Tests.{session_eq-true}
use Rattle.us_snapshots.proofs.Entries.{in_arbitrated}

-- one of the session, which none of it precedes, comes first
placed_in : (s : SessionName) (c : Committed) (ds : List Committed) → session_eq c.begun.session s ≡ true
    → ((d : Committed) → In d ds → session_eq d.begun.session s ≡ true → precedes d c ≡ false)
    → of_session s (placed c ds) ≡ c ∷ of_session s ds
placed_in s c [] mine none = on (session_eq c.begun.session s) mine
  where
    on : (b : Bool) → b ≡ true → cond b (c ∷ []) [] ≡ c ∷ []
    on true e = refl
    on false e = absurd (true≢false (sym e))
placed_in s c (d ∷ ds) mine none = on (precedes d c) refl (session_eq d.begun.session s) refl (placed_in s c ds mine (λ x i. none x (inr i)))
  where
    first : (b : Bool) → b ≡ true → (rest : List Committed) → cond b (c ∷ rest) rest ≡ c ∷ rest
    first true e rest = refl
    first false e rest = absurd (true≢false (sym e))

    on : (p : Bool) → precedes d c ≡ p → (b : Bool) → session_eq d.begun.session s ≡ b → of_session s (placed c ds) ≡ c ∷ of_session s ds
        → of_session s (cond p (d ∷ placed c ds) (c ∷ d ∷ ds)) ≡ c ∷ of_session s (d ∷ ds)
    on true e true f again = absurd (true≢false (sym e ∙ none d (inl refl) f))
    on true e false f again =
        (λ i. cond (f i) (d ∷ of_session s (placed c ds)) (of_session s (placed c ds))) ∙ again
        ∙ sym (λ i. c ∷ cond (f i) (d ∷ of_session s ds) (of_session s ds))
    on false e b f again = first (session_eq c.begun.session s) mine (of_session s (d ∷ ds))

-- one of another session makes no difference
placed_out : (s : SessionName) (c : Committed) (ds : List Committed) → session_eq c.begun.session s ≡ false → of_session s (placed c ds) ≡ of_session s ds
placed_out s c [] other = ap (λ b. cond b (c ∷ []) []) other
placed_out s c (d ∷ ds) other = on (precedes d c) (placed_out s c ds other)
  where
    on : (p : Bool) → of_session s (placed c ds) ≡ of_session s ds → of_session s (cond p (d ∷ placed c ds) (c ∷ d ∷ ds)) ≡ of_session s (d ∷ ds)
    on true again = ap (λ xs. cond (session_eq d.begun.session s) (d ∷ xs) xs) again
    on false again = ap (λ b. cond b (c ∷ of_session s (d ∷ ds)) (of_session s (d ∷ ds))) other

-- of two of a session the later doesn't precede the earlier
abbrev pub KeepsOrder : Committed → Committed → Type 0
KeepsOrder c d = c.begun.session ≡ d.begun.session → precedes d c ≡ false

pub session_kept : (s : SessionName) (cs : List Committed) → AllLater KeepsOrder cs → of_session s (arbitrated cs) ≡ of_session s cs
session_kept s [] h = refl
session_kept s (c ∷ cs) h = on (session_eq c.begun.session s) refl (session_kept s cs h.1)
  where
    on : (b : Bool) → session_eq c.begun.session s ≡ b → of_session s (arbitrated cs) ≡ of_session s cs
        → of_session s (placed c (arbitrated cs)) ≡ cond b (c ∷ of_session s cs) (of_session s cs)
    on true e again =
        placed_in s c (arbitrated cs) e (λ d i f. all_in (KeepsOrder c) cs d h.0 (in_arbitrated d cs i)
        (session_eq-true c.begun.session s e ∙ sym (session_eq-true d.begun.session s f)))
        ∙ ap (λ xs. c ∷ xs) again
    on false e again = placed_out s c (arbitrated cs) e ∙ again

-- THE NUMBERS OF ENTRIES
pub entry_numbers : (past : Begun → List Count) (s : SessionName) (ds : List Committed)
    → numbers_of s (entries_of past ds) ≡ map (λ (c : Committed). c.number) (of_session s ds)
entry_numbers past s [] = refl
entry_numbers past s (d ∷ ds) = on (session_eq d.begun.session s) (entry_numbers past s ds)
  where
    on : (b : Bool) → numbers_of s (entries_of past ds) ≡ map (λ (c : Committed). c.number) (of_session s ds)
        → map (λ (e : Entry). e.number) (cond b (entry_of past d ∷ filter (λ (e : Entry). session_eq e.session s) (entries_of past ds))
        (filter (λ (e : Entry). session_eq e.session s) (entries_of past ds))) ≡ map (λ (c : Committed). c.number)
        (cond b (d ∷ of_session s ds) (of_session s ds))
    on true e = ap (λ ns. d.number ∷ ns) e
    on false e = e

pub are_numbered : (cs : List Committed) → map (λ (c : Committed). c.number) cs ≡ range_with_len 1 (length cs)
    → map (λ (c : Committed). c.number) cs ≡ range_with_len 1 (length (map (λ (c : Committed). c.number) cs))
are_numbered cs e = e ∙ ap (range_with_len 1) (sym (length-map cs (λ (c : Committed). c.number)))
