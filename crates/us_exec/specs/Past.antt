-- What is before what.
use Rattle.std.specs.Prelude.{ℕ, List, [], ◌∷◌, Bool, ◌&&◌, ◌==◌, nat_le, nat_lt, if◌then◌else◌}
use Rattle.us_kind.specs.Comparison.{lex}
use Rattle.us_exec.specs.declared.SessionName.{SessionName}
use Rattle.us_exec.specs.declared.Count.{Count}
use Rattle.us_exec.specs.declared.Entry.{Entry}

-- the same session
abbrev pub session_eq : SessionName → SessionName → Bool
session_eq a b = (a.site == b.site) && ((a.coord == b.coord) && (a.number == b.number))

-- by site, coordinator and number
abbrev pub session_less : SessionName → SessionName → Bool
session_less a b = lex a.site b.site (lex a.coord b.coord (nat_lt a.number b.number))

-- how many transactions of a session a past counts
abbrev pub count_in : SessionName → List Count → ℕ
count_in s [] = 0
count_in s (c ∷ past) = if session_eq c.session s then c.count else count_in s past

-- BEFORE: the transaction with number i of a session is before T where i is at most the session's count in T's past
abbrev pub is_before : Entry → List Count → Bool
is_before e past = nat_le e.number (count_in e.session past)
