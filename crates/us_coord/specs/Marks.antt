-- Which sessions of a coordinator may have something to do.
use Rattle.std.specs.Prelude.{◌≡◌, ℕ, ◌==◌, Bool, true, false, List, [], if◌then◌else◌}
use Rattle.us_kind.specs.Updates.{All}
use Rattle.us_model.specs.declared.coordinator.Session.{Session}
use Rattle.us_model.specs.Sessions.{is_nothing}
use Rattle.us_coord.specs.declared.marks.Marked.{Marked}
use Rattle.us_coord.specs.declared.marks.Marked.TheVariants as marked

-- the session of this number is marked
abbrev pub is_marked : Marked → ℕ → Bool
is_marked marked.Nobody n = false
is_marked (marked.One number) n = number == n
is_marked marked.All n = true

-- it is marked too
abbrev pub marking : Marked → ℕ → Marked
marking marked.Nobody n = marked.One n
marking (marked.One number) n = if number == n then marked.One number else marked.All
marking marked.All n = marked.All

-- the session has nothing to do: it waits, or it has no request
abbrev pub IsIdle : Session → Type 0
IsIdle s = is_nothing s.waits ≡ true → s.requests ≡ []

-- it has nothing to do, unless it is marked
abbrev pub IdleUnless : Marked → Session → Type 0
IdleUnless m s = is_marked m s.number ≡ false → IsIdle s

-- each that isn't marked has nothing to do
abbrev pub AreIdle : Marked → List Session → Type 0
AreIdle m ss = All (IdleUnless m) ss
