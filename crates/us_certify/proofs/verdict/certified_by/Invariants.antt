use Rattle.std.proofs.Common.{◌≡◌, ◌+◌, drop}
use Rattle.us_certify.specs.Certification.{certified_by}
use Rattle.us_certify.proofs.verdict.certified_by.Given as goal

-- the verdict by what is left is that by all
abbrev pub invariant-loop-place : goal.invariant-loop-place
invariant-loop-place l = certified_by l.conflicts l.entry (l.place + 1) (drop l.place l.decisions) ≡ certified_by l.conflicts l.entry 1 l.decisions
