use Rattle.std.proofs.Common.{◌≡◌, take}
use Rattle.us_fields.proofs.list.copies_of.Given as goal

-- so many are copied
abbrev pub invariant-loop-item : goal.invariant-loop-item
invariant-loop-item g l = l.copies ≡ take l.item-index l.items
