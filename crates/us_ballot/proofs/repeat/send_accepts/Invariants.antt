use Rattle.std.proofs.Common.{◌≡◌, ◌+◌, ◌++◌, drop}
use Rattle.us_ballot_model.specs.Rules.{accepts}
use Rattle.us_ballot.proofs.repeat.send_accepts.Given as goal

-- what is sent and what is left to send are all
abbrev pub invariant-loop-entry : goal.invariant-loop-entry
invariant-loop-entry g l = record {
  slot : l.slot ≡ l.initial.slot + l.entry-index;
  sends : l.out.sends ++ accepts l.to l.ballot l.slot (drop l.entry-index l.entries) ≡ l.initial.out.sends ++ accepts l.to l.ballot l.initial.slot l.entries;
  chosen : l.out.chosen ≡ l.initial.out.chosen;
}
