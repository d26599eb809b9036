-- The text of each fault.
use Rattle.std.specs.Prelude.{ℕ, List, codes}
use Rattle.us_edge.specs.declared.faults.StartFault.{StartFault}
use Rattle.us_edge.specs.declared.faults.StartFault.TheVariants as start
use Rattle.us_edge.specs.declared.faults.PollFault.{PollFault}
use Rattle.us_edge.specs.declared.faults.PollFault.TheVariants as poll
use Rattle.us_edge.specs.declared.faults.ReadAllFault.{ReadAllFault}
use Rattle.us_edge.specs.declared.faults.ReadAllFault.TheVariants as reading

-- why links did not start
abbrev pub start_text : StartFault → List ℕ
start_text start.Failed = codes "the links did not start"
start_text start.Memory = codes "out of memory"

-- why a look at the links gave no input
abbrev pub poll_text : PollFault → List ℕ
poll_text poll.Failed = codes "the links failed"
poll_text poll.Memory = codes "out of memory"

-- why a source was not read to its end
abbrev pub read_all_text : ReadAllFault → List ℕ
read_all_text reading.Failed = codes "a read failed"
read_all_text reading.TooLong = codes "the input is too long"
read_all_text reading.Memory = codes "out of memory"
