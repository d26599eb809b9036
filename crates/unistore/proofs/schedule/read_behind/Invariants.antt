use Rattle.std.proofs.Common.{◌≡◌, ◌+◌, ◌++◌, length}
use Rattle.us_schedule.specs.Text.{text_lines}
use Rattle.unistore.specs.Schedule.{lines_behind, refused_behind}
use Rattle.us_world.specs.Lines.{AllBuilt}
use Rattle.unistore.proofs.schedule.read_behind.Given as goal

-- each line so far was taken
abbrev pub invariant-loop-line : goal.invariant-loop-line
invariant-loop-line l = record {
  refused : refused_behind l.fn.config.shape l.first (text_lines l.text) ≡ refused_behind l.fn.config.shape l.number (text_lines l.rest);
  lines : lines_behind l.fn.config.shape l.first (text_lines l.text) ≡ l.lines ++ lines_behind l.fn.config.shape l.number (text_lines l.rest);
  built : AllBuilt l.lines;
  number : l.number + length (text_lines l.rest) ≡ l.first + length (text_lines l.text);
}

abbrev pub decreases-loop-line : goal.decreases-loop-line
decreases-loop-line l = length l.rest
