use Rattle.std.proofs.Common.{◌≡◌, drop}
use Rattle.us_oplog.specs.Logs.{after_places}
use Rattle.us_oplog.proofs.reading.apply_places.Given as goal

-- the rest of the places go on from the state so far
abbrev pub invariant-loop-place : goal.invariant-loop-place
invariant-loop-place l =
    after_places l.item l.snapshot l.transactions l.state (drop l.place-index l.places) ≡ after_places l.item l.snapshot l.transactions l.fn.state l.places
