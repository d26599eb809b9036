-- Which events open a session.
use Rattle.std.specs.Prelude.{Bool, true, false}
use Rattle.us_model.specs.declared.event.Event.{Event}
use Rattle.us_model.specs.declared.event.Event.TheVariants as event

-- a client opens a session by it
abbrev pub is_open : Event → Bool
is_open (event.Open coord) = true
is_open (event.Bytes coord session piece) = false
is_open (event.Close coord session) = false
is_open (event.Take packet) = false
