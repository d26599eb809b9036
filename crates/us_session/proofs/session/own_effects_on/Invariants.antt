use Rattle.std.proofs.Common.{◌≡◌, ◌++◌, drop}
use Rattle.us_history.specs.States.{own_effects}
use Rattle.us_session.proofs.session.own_effects_on.Given as goal

-- what was found and what the rest has are all
abbrev pub invariant-loop-write : goal.invariant-loop-write
invariant-loop-write l = l.own ++ own_effects l.item (drop l.write-index l.writes) ≡ own_effects l.item l.writes
