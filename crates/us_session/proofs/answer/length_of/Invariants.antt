use Rattle.std.proofs.Common.{◌≡◌, ◌+◌, ◌-◌, ◌^◌, ◌≤◌, drop}
use Rattle.us_value.specs.Lengths.{capped}
use Rattle.us_model.specs.Sessions.{writes_length}
use Rattle.us_session.proofs.answer.length_of.Given as goal

-- what was counted and what is left are all
abbrev pub invariant-loop-write : goal.invariant-loop-write
invariant-loop-write l = (capped (l.length + writes_length (drop l.write-index l.writes)) ≡ capped (writes_length l.writes)) × (l.length ≤ 2 ^ 64 - 1)
