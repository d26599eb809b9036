-- What each session of a coordinator does with an event.
use Rattle.us_model.specs.declared.coordinator.Session.{Session}
use Rattle.us_model.specs.declared.coordinator.Context.{Context}
use Rattle.us_model.specs.Sessions.{SessionStep, bytes, close, version, prepared, run_session}
use Rattle.us_coord.specs.declared.turn.Turn.{Turn}
use Rattle.us_coord.specs.declared.turn.Turn.TheVariants as turn

abbrev pub acts : Turn → Context → Session → SessionStep
acts (turn.Bytes catalog number piece) d s = bytes catalog.now number piece.now d s
acts (turn.Close number) d s = close number d s
acts (turn.Version v) d s = version v.now d s
acts (turn.Prepared one tid) d s = prepared one.part tid one.ts d s
acts (turn.Run catalog) d s = run_session catalog.now d s
