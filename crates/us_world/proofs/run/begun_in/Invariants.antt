use Rattle.std.proofs.Common.{◌≡◌, ◌+◌, ◌≤◌, drop}
use Rattle.us_world.specs.Limits.{begun_in}
use Rattle.us_world.proofs.run.begun_in.Given as goal

-- what was counted and what is left are all
abbrev pub invariant-loop-note : goal.invariant-loop-note
invariant-loop-note l = record {
  all : l.count + begun_in (drop l.note-index l.notes) ≡ begun_in l.notes;
  few : l.count ≤ l.note-index;
}
