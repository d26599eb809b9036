-- A line that this store performs is one that this stage builds.
use Rattle.std.proofs.Common.{◌≡◌, ℕ, List, [], ◌∷◌, ◌++◌, true}
use Rattle.us_schedule.specs.declared.line.Line.{Line}
use Rattle.us_schedule.specs.declared.line.Line.TheVariants.{Open, Bytes, Close, Tick, Deliver, Flush, Lead, Forward, Crash, Settle}
use Rattle.us_world.specs.declared.fault.Numbered.{Numbered}
use Rattle.us_world.specs.Lines.{IsBuilt, AllBuilt}
use Rattle.unistore.specs.Schedule.{is_performed}

performed-built : (line : Line) → is_performed line ≡ true → IsBuilt line
performed-built (Open site coord) p = tt
performed-built (Bytes site coord session bytes) p = tt
performed-built (Close site coord session) p = tt
performed-built (Deliver number) p = tt
performed-built (Flush from to) p = tt
performed-built (Tick site actor clock) p = absurd (cc)
performed-built (Lead site) p = absurd (cc)
performed-built (Forward site origin) p = absurd (cc)
performed-built (Crash site) p = absurd (cc)
performed-built (Settle clock rounds) p = absurd (cc)

AllBuilt-push : (lines : List Numbered) (l : Numbered) → AllBuilt lines → IsBuilt l.line → AllBuilt (lines ++ l ∷ [])
AllBuilt-push [] l h b = (b, tt)
AllBuilt-push (m ∷ ms) l h b = (h.0, AllBuilt-push ms l h.1 b)

-- a line that is performed joins those that are built
pub joined : (lines : List Numbered) (number : ℕ) (line : Line) → AllBuilt lines → is_performed line ≡ true
    → AllBuilt (lines ++ record { number = number; line = line } ∷ [])
joined lines number line h p = AllBuilt-push lines (record { number = number; line = line }) h (performed-built line p)
