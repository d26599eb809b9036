-- Lines lead to an outcome, a line at a time.
use Rattle.std.proofs.Common.{◌≡◌, ◌∙◌, ℕ, ◌+◌, ◌⊎◌, inl, inr, List, [], ◌∷◌, ◌++◌, length, length-append, append-nil, append_assoc, Option, Some}
use Rattle.std.proofs.Common.{None, refl, sym, ap, subst, arith}
use Rattle.us_schedule.specs.declared.line.Line.{Line}
use Rattle.us_model.specs.Worlds.{World, WorldEvent, run}
use Rattle.us_world.specs.declared.fault.WorldFault.{WorldFault}
use Rattle.us_world.specs.declared.fault.Numbered.{Numbered}
use Rattle.us_world.specs.Limits.{Performs, Begins, limit_of, or_else, AreEventsOf, lines_of}
use Rattle.us_world.proofs.WorldEvents.{run-append, limit-append}

-- the world that is reached, or the limit that is passed and the number of the line
pub data Outcome : Type 0 where
  Reaches : World → Outcome
  Passes : (line : ℕ) → WorldFault → Outcome

-- a line is performed within the limits, and so many events having been then, the rest leads on from the world that it leaves
abbrev pub RunsOn : Line → ℕ → World → (ℕ → World → Type 0) → Type 0
RunsOn l events w Rest = (hs : List WorldEvent) × Performs l w hs × (limit_of events hs w ≡ None) × Rest (events + length hs) (run hs w)

-- a line passes a limit
abbrev pub RunsPast : Line → ℕ → World → WorldFault → Type 0
RunsPast l events w which = (hs : List WorldEvent) × Begins l w hs × (limit_of events hs w ≡ Some which)

-- and so lines come to an end
abbrev pub EndsAtLimit : Numbered → ℕ → World → Outcome → Type 0
EndsAtLimit l events w outcome = (which : WorldFault) × RunsPast l.line events w which × (outcome ≡ Passes l.number which)

-- LINES LEAD from a world, so many events having been, to an outcome
abbrev pub RunsTo : List Numbered → ℕ → World → Outcome → Type 0
RunsTo [] events w outcome = outcome ≡ Reaches w
RunsTo (l ∷ ls) events w outcome = RunsOn l.line events w (λ n v. RunsTo ls n v outcome) ⊎ EndsAtLimit l events w outcome

-- THE EVENTS OF LINES
-- one more line
pub events_more : (before : List Line) (l : Line) (w : World) (es own : List WorldEvent) → AreEventsOf before w es → Performs l (run es w) own
    → AreEventsOf (before ++ l ∷ []) w (es ++ own)
events_more [] l w es own are performs =
    (own, [], subst (λ (xs : List WorldEvent). Performs l (run xs w) own) are performs, ap (λ xs. xs ++ own) are ∙ sym (append-nil own), refl)
events_more (x ∷ xs) l w es own are performs =
    let first = are.0 in
    let others = are.1 in
    let same : run es w ≡ run others (run first w) = ap (λ hs. run hs w) are.3 ∙ run-append first others w in (
      first,
      others ++ own,
      are.2,
      ap (λ hs. hs ++ own) are.3 ∙ append_assoc first others own,
      events_more xs l (run first w) others own are.4 (subst (λ v. Performs l v own) same performs),
    )

none-first : (a b : Option WorldFault) → or_else a b ≡ None → a ≡ None
none-first None b e = refl
none-first (Some which) b e = absurd (cc)

none-second : (a b : Option WorldFault) → or_else a b ≡ None → b ≡ None
none-second None b e = e
none-second (Some which) b e = absurd (cc)

-- the limits of the first events and of the others
within-first : (n : ℕ) (es own others : List WorldEvent) (w : World) → es ≡ own ++ others → limit_of n es w ≡ None → limit_of n own w ≡ None
within-first n es own others w is within = none-first _ _ (sym (limit-append n own others w) ∙ ap (λ hs. limit_of n hs w) (sym is) ∙ within)

within-others : (n : ℕ) (es own others : List WorldEvent) (w : World) → es ≡ own ++ others → limit_of n es w ≡ None
    → limit_of (n + length own) others (run own w) ≡ None
within-others n es own others w is within = none-second _ _ (sym (limit-append n own others w) ∙ ap (λ hs. limit_of n hs w) (sym is) ∙ within)

run-parts : (es own others : List WorldEvent) (w : World) → es ≡ own ++ others → run es w ≡ run others (run own w)
run-parts es own others w is = ap (λ hs. run hs w) is ∙ run-append own others w

pub runs_to_world : (lines : List Numbered) (n : ℕ) (w : World) (es : List WorldEvent) → AreEventsOf (lines_of lines) w es → limit_of n es w ≡ None
    → RunsTo lines n w (Reaches (run es w))
runs_to_world [] n w es are within = ap (λ hs. Reaches (run hs w)) are
runs_to_world (l ∷ ls) n w es are within =
    inl (
      are.0,
      are.2,
      within-first n es are.0 are.1 w are.3 within,
      subst (λ v. RunsTo ls (n + length are.0) (run are.0 w) (Reaches v)) (sym (run-parts es are.0 are.1 w are.3))
          (runs_to_world ls (n + length are.0) (run are.0 w) are.1 are.4 (within-others n es are.0 are.1 w are.3 within)),
    )

pub runs_to_limit : (before : List Numbered) (l : Numbered) (after : List Numbered) (n : ℕ) (w : World) (es own : List WorldEvent) (which : WorldFault)
    → AreEventsOf (lines_of before) w es
    → limit_of n es w ≡ None → Begins l.line (run es w) own → limit_of (n + length es) own (run es w) ≡ Some which
    → RunsTo (before ++ l ∷ after) n w (Passes l.number which)
runs_to_limit [] l after n w es own which are within begins past =
    let here : Begins l.line w own = subst (λ (hs : List WorldEvent). Begins l.line (run hs w) own) are begins in
    let zero : n + length es ≡ n = let e = ap length are in omega arith in
    let there : limit_of n own w ≡ Some which = (λ i. limit_of (sym zero i) own (run (sym are i) w)) ∙ past in
    inr (which, (own, here, there), refl)
runs_to_limit (x ∷ xs) l after n w es own which are within begins past =
    let v = run are.0 w in
    let same = run-parts es are.0 are.1 w are.3 in
    let counted : n + length es ≡ n + length are.0 + length are.1 = let e = ap length are.3 ∙ length-append are.0 are.1 in omega arith in
    let there : limit_of (n + length are.0 + length are.1) own (run are.1 v) ≡ Some which = (λ i. limit_of (sym counted i) own (sym same i)) ∙ past in
    inl (
      are.0,
      are.2,
      within-first n es are.0 are.1 w are.3 within,
      runs_to_limit xs l after (n + length are.0) v are.1 own which are.4 (within-others n es are.0 are.1 w are.3 within)
          (subst (λ u. Begins l.line u own) same begins) there,
    )
