-- No event changes whose context it is, the shape of the store, nor the number of a session; and what it changes of the transaction that
-- a session runs.
use Rattle.std.proofs.Common.{◌≡◌}
use Rattle.us_model.specs.declared.coordinator.Session.{Session}
use Rattle.us_model.specs.declared.coordinator.Context.{Context}
use Rattle.us_session.proofs.Posts.{post, bytes-post, close-post, version-post, prepared-post, run_session-post}
use Rattle.us_coord.proofs.Numbers.{bytes-number, close-number, version-number, prepared-number, run_session-number}
use Rattle.us_coord.proofs.Moves.{Goes, bytes-goes, close-goes, version-goes, prepared-goes, run_session-goes}
use Rattle.us_coord.specs.declared.turn.Turn.{Turn}
use Rattle.us_coord.specs.declared.turn.Turn.TheVariants as turn
use Rattle.us_coord.specs.Steps.{acts}

pub acts-post : (t : Turn) (d : Context) (s : Session) → post (acts t d s).context ≡ post d
acts-post (turn.Bytes catalog number piece) d s = bytes-post catalog.now number piece.now d s
acts-post (turn.Close number) d s = close-post number d s
acts-post (turn.Version v) d s = version-post v.now d s
acts-post (turn.Prepared one tid) d s = prepared-post one.part tid one.ts d s
acts-post (turn.Run catalog) d s = run_session-post catalog.now d s

pub acts-number : (t : Turn) (d : Context) (s : Session) → (acts t d s).session.number ≡ s.number
acts-number (turn.Bytes catalog number piece) d s = bytes-number catalog.now number piece.now d s
acts-number (turn.Close number) d s = close-number number d s
acts-number (turn.Version v) d s = version-number v.now d s
acts-number (turn.Prepared one tid) d s = prepared-number one.part tid one.ts d s
acts-number (turn.Run catalog) d s = run_session-number catalog.now d s

pub acts-goes : (t : Turn) (d : Context) (s : Session) → Goes d s (acts t d s)
acts-goes (turn.Bytes catalog number piece) d s = bytes-goes catalog.now number piece.now d s
acts-goes (turn.Close number) d s = close-goes number d s
acts-goes (turn.Version v) d s = version-goes v.now d s
acts-goes (turn.Prepared one tid) d s = prepared-goes one.part tid one.ts d s
acts-goes (turn.Run catalog) d s = run_session-goes catalog.now d s
