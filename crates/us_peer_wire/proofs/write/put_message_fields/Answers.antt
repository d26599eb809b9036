use Rattle.std.proofs.Common.{ℕ, List, [], ◌∷◌, ◌++◌, sym, ap, ◌∙◌}
use Rattle.std.specs.Int.{w64, to_be_bytes}
use Rattle.us_kind.specs.declared.identity.Tid.{Tid}
use Rattle.us_migrate.specs.Encodings.{tid_encoding, vector_encoding}
use Rattle.us_value.specs.declared.item.Write.{Write}
use Rattle.us_value.specs.declared.operation.Effect.{Effect}
use Rattle.us_fields.specs.Fields.{item_encoding, op_encoding}
use Rattle.us_fields.specs.Lists.{list_encoding}
use Rattle.us_fields.specs.Tuples.{own_encoding, committed_encoding}
use Rattle.us_peer_wire.specs.declared.message.LogEntry.{LogEntry}
use Rattle.us_peer_wire.specs.declared.message.Message.{Message}
use Rattle.us_peer_wire.specs.declared.message.Message.TheVariants as message
use Rattle.us_peer_wire.specs.Parts.{entry_encoding}
use Rattle.us_peer_wire.specs.Messages.{message_fields}
use Rattle.us_peer_wire.proofs.WriteLemmas.{ok_joined, ok_same}
use Rattle.us_peer_wire.proofs.write.put_message_fields.Goals as goal

pub returns-in_ok-put_op-in-Get : goal.returns-in_ok-put_op-in-Get
returns-in_ok-put_op-in-Get c =
    let shape = c.args.shape in
    let get = c.in-Get in
    let r = c.put_list.result in
    let asked = tid_encoding get.tid ++ (get.place ∷ to_be_bytes w64 get.at) in
    let own = list_encoding own_encoding c.as_slice.result.now in
    let snapshot = vector_encoding shape get.snapshot in
    let item = item_encoding get.item in
    let o = op_encoding get.op in
    let one = c.in_ok-out-in-Get.out.items in
    let two = c.in_ok-put_a_vector-in-Get.field-0.items in
    let three = c.in_ok-out-in-Get-2.out.items in
    let four = c.in_ok-put_op-in-Get.field-0.items in
    let same = ap (λ (xs : List (ℕ × Effect)). message_fields shape (message.Get get.tid get.place get.at get.snapshot get.item get.op xs)) c.as_slice.ensures ∙ ap (λ (m : Message). message_fields shape m) (sym get.is) in
    ok_same (λ new. new.items) r c.args.out.items (asked ++ (snapshot ++ (item ++ (o ++ own)))) (message_fields shape c.args.message.now) same
    (ok_joined (λ new. new.items) r c.args.out.items asked one (snapshot ++ (item ++ (o ++ own))) (c.in_ok-out-in-Get.ensures {u = tt})
    (ok_joined (λ new. new.items) r one snapshot two (item ++ (o ++ own)) (c.in_ok-put_a_vector-in-Get.ensures {u = tt})
    (ok_joined (λ new. new.items) r two item three (o ++ own) (c.in_ok-out-in-Get-2.ensures {u = tt})
    (ok_joined (λ new. new.items) r three o four own (c.in_ok-put_op-in-Get.ensures {u = tt}) c.put_list.ensures))))

pub returns-in_ok-put_pair-in-Replicate : goal.returns-in_ok-put_pair-in-Replicate
returns-in_ok-put_pair-in-Replicate c =
    let shape = c.args.shape in
    let batch = c.in-Replicate in
    let r = c.put_list-in-Replicate.result in
    let bounds = to_be_bytes w64 batch.lo ++ to_be_bytes w64 batch.hi in
    let txs = list_encoding (committed_encoding shape) c.as_slice-in-Replicate.result.now in
    let one = c.put_u8.new.out.items in
    let two = c.in_ok-put_pair-in-Replicate.field-0.items in
    let same = ap (λ (xs : List (Tid × List ℕ × List Write)). message_fields shape (message.Replicate batch.origin batch.lo batch.hi xs)) c.as_slice-in-Replicate.ensures ∙ ap (λ (m : Message). message_fields shape m) (sym batch.is) in
    ok_same (λ new. new.items) r c.args.out.items ((batch.origin ∷ []) ++ (bounds ++ txs)) (message_fields shape c.args.message.now) same
    (ok_joined (λ new. new.items) r c.args.out.items (batch.origin ∷ []) one (bounds ++ txs) (c.in_ok-put_u8-in-Replicate.ensures {u = tt}).ok
    (ok_joined (λ new. new.items) r one bounds two txs (c.in_ok-put_pair-in-Replicate.ensures {u = tt}) c.put_list-in-Replicate.ensures))

pub returns-in_ok-out-in-Promise : goal.returns-in_ok-out-in-Promise
returns-in_ok-out-in-Promise c =
    let shape = c.args.shape in
    let promise = c.in-Promise in
    let r = c.put_list-in-Promise.result in
    let ballots = to_be_bytes w64 promise.ballot ++ to_be_bytes w64 promise.accepted in
    let base = to_be_bytes w64 promise.base in
    let tail = list_encoding (entry_encoding shape) c.as_slice-in-Promise.result.now in
    let one = c.in_ok-put_pair-in-Promise.field-0.items in
    let two = c.in_ok-out-in-Promise.out.items in
    let same = ap (λ (xs : List LogEntry). message_fields shape (message.Promise promise.ballot promise.accepted promise.base xs)) c.as_slice-in-Promise.ensures ∙ ap (λ (m : Message). message_fields shape m) (sym promise.is) in
    ok_same (λ new. new.items) r c.args.out.items (ballots ++ (base ++ tail)) (message_fields shape c.args.message.now) same
    (ok_joined (λ new. new.items) r c.args.out.items ballots one (base ++ tail) (c.in_ok-put_pair-in-Promise.ensures {u = tt})
    (ok_joined (λ new. new.items) r one base two tail (c.in_ok-out-in-Promise.ensures {u = tt}) c.put_list-in-Promise.ensures))

pub returns-in_ok-put_pair-in-Accept : goal.returns-in_ok-put_pair-in-Accept
returns-in_ok-put_pair-in-Accept c =
    let shape = c.args.shape in
    let accept = c.in-Accept in
    let r = c.put-in-Accept.result in
    let slot = to_be_bytes w64 accept.ballot ++ to_be_bytes w64 accept.slot in
    let entry = entry_encoding shape accept.entry in
    ok_same (λ new. new.items) r c.args.out.items (slot ++ entry) (message_fields shape c.args.message.now) (ap (λ (m : Message). message_fields shape m) (sym accept.is))
    (ok_joined (λ new. new.items) r c.args.out.items slot c.in_ok-put_pair-in-Accept.field-0.items entry (c.in_ok-put_pair-in-Accept.ensures {u = tt}) c.put-in-Accept.ensures)
