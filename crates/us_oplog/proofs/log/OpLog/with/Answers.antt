use Rattle.std.proofs.Common.{◌∙◌, length, ap}
use Rattle.us_index.specs.Places.{places_under}
use Rattle.us_value.specs.Items.{item_eq}
use Rattle.us_oplog.specs.Logs.{placed}
use Rattle.us_oplog.proofs.LogPlaces.{with_one}
use Rattle.us_oplog.proofs.log.OpLog.with.Goals as goal

pub invariant_of-result : goal.invariant_of-result
invariant_of-result c = λ item.
    let place = length c.as_slice-place.result.now in
    let was = places_under item_eq c.self.inside.places item in
    let put = c.in_ok-put_writes.ensures item ∙ ap (λ ws. placed item place ws was) c.as_slice.ensures in
    with_one item c.self.inside.transactions.items c.push.new.self.items c.args.transaction place was
    (places_under item_eq c.put_writes.new.places item)
    (ap length c.as_slice-place.ensures.value) c.in_ok-push.ensures.items (c.self.invariant item) put
