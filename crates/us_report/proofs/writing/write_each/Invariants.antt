use Rattle.std.proofs.Common.{◌≤◌, take}
use Rattle.std.specs.List.{flat_map}
use Rattle.us_edge.specs.Streams.{Appends}
use Rattle.us_report.proofs.writing.write_each.Given as goal

-- the lines of the first ones were written
abbrev pub invariant-loop-item : goal.invariant-loop-item
invariant-loop-item g l = record {
  written : Appends (g.K.Sink.written l.initial.sink) (g.K.Sink.written l.sink) (flat_map g.T.Lines.text (take l.item-index l.items));
  counts : g.K.Sink.faults l.initial.sink ≤ g.K.Sink.faults l.sink;
}
