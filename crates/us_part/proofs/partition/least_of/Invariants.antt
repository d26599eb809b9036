use Rattle.std.proofs.Common.{◌≡◌, drop}
use Rattle.us_model.specs.Partitions.{least_ts}
use Rattle.us_part.proofs.partition.least_of.Given as goal

-- the least of what is left and of what came is the least of all
abbrev pub invariant-loop-transaction : goal.invariant-loop-transaction
invariant-loop-transaction l = least_ts l.least (drop l.transaction-index l.transactions) ≡ least_ts l.start l.transactions
