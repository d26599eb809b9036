use Rattle.std.proofs.Common.{◌≡◌, drop}
use Rattle.us_index.specs.Places.{places_under}
use Rattle.us_value.specs.declared.item.Item.{Item}
use Rattle.us_value.specs.Items.{item_eq}
use Rattle.us_oplog.specs.Logs.{placed}
use Rattle.us_oplog.proofs.log.put_writes.Given as goal

-- the rest of the writes go on from the places so far
abbrev pub invariant-loop-write : goal.invariant-loop-write
invariant-loop-write l =
    (item : Item) → placed item l.place (drop l.write-index l.writes) (places_under item_eq l.places item)
    ≡ placed item l.place l.writes (places_under item_eq l.fn.places item)
