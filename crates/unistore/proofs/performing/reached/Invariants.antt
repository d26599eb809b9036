use Rattle.std.proofs.Common.{drop}
use Rattle.us_world.specs.Lines.{AllBuilt}
use Rattle.unistore.proofs.LinesInTurn.{FrontPerformed}
use Rattle.unistore.proofs.performing.reached.Given as goal

-- the lines so far are performed
abbrev pub invariant-loop-line : goal.invariant-loop-line
invariant-loop-line l = record {
  built : AllBuilt (drop l.line-index l.lines);
  performed : FrontPerformed l.settings l.lines (drop l.line-index l.lines) l.world;
}
