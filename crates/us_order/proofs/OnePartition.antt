-- Where there is one partition, it keeps every item.
use Rattle.std.proofs.Common.{◌≡◌, ℕ, List, [], ◌∷◌, true, filter, refl, ap, ◌∙◌, arith, cond, ◌==◌}
use Rattle.std.specs.List.{range_with_len}
use Rattle.us_base.specs.declared.shape.Shape.{Shape}
use Rattle.us_base.specs.Place.{place_of}
use Rattle.us_value.specs.declared.item.Item.{Item}
use Rattle.us_value.specs.declared.item.Write.{Write}
use Rattle.us_peer_wire.specs.declared.message.Message.TheVariants as message
use Rattle.us_model.specs.declared.coordinator.Transaction.{Transaction}
use Rattle.us_model.specs.declared.coordinator.Await.TheVariants as waits
use Rattle.us_model.specs.declared.coordinator.Session.{Session}
use Rattle.us_model.specs.declared.coordinator.Context.{Context}
use Rattle.us_model.specs.Sessions.{SessionStep, with_packets, to_partition, home, is_kept_by, writes_on, is_written, partitions_written, prepares, commits}
use Rattle.us_model.specs.Sessions.{sent_out, ended, decided}
use Rattle.us_snapshots.proofs.Acts.{HasWrites}

placed_one : (space : ℕ) (id : List ℕ) → place_of 1 space id ≡ 1
placed_one space id = omega arith

home_one : (shape : Shape) (item : Item) → shape.parts ≡ 1 → home shape item ≡ 1
home_one shape item one = ap (λ n. place_of n item.space item.id) one ∙ placed_one item.space item.id

kept_by_one : (shape : Shape) (w : Write) → shape.parts ≡ 1 → is_kept_by shape 1 w ≡ true
kept_by_one shape w one = ap (λ n. n == 1) (home_one shape w.item one)

-- all writes are there
writes_on_one : (shape : Shape) (ws : List Write) → shape.parts ≡ 1 → writes_on shape 1 ws ≡ ws
writes_on_one shape [] one = refl
writes_on_one shape (w ∷ ws) one =
    ap (λ b. cond b (w ∷ writes_on shape 1 ws) (writes_on shape 1 ws)) (kept_by_one shape w one) ∙ ap (λ xs. w ∷ xs) (writes_on_one shape ws one)

written_one : (shape : Shape) (ws : List Write) → shape.parts ≡ 1 → HasWrites ws → is_written shape ws 1 ≡ true
written_one shape [] one has = absurd has
written_one shape (w ∷ ws) one has = rw (kept_by_one shape w one) refl

partitions_one : (shape : Shape) (ws : List Write) → shape.parts ≡ 1 → HasWrites ws → partitions_written shape ws ≡ 1 ∷ []
partitions_one shape ws one has =
    ap (λ n. filter (λ p. is_written shape ws p) (range_with_len 1 n)) one
    ∙ ap (λ b. cond b (1 ∷ []) []) (written_one shape ws one has)

-- COMMIT of a transaction with writes: the partition is asked to prepare all of them
abbrev pub sent_to_one : Context → Session → ℕ → Transaction → SessionStep
sent_to_one d s at tx =
    record {
      context = with_packets d (to_partition d 1 (message.Prepare tx.tid tx.snapshot tx.writes) ∷ []);
      session = record s { waits = waits.Prepared at (1 ∷ []) [] };
    }

pub sent_out_one : (d : Context) (s : Session) (at : ℕ) (tx : Transaction) → d.shape.parts ≡ 1 → HasWrites tx.writes → sent_out d s at tx ≡ sent_to_one d s at tx
sent_out_one d s at tx one has =
    let parts = partitions_one d.shape tx.writes one has in
    let writes = writes_on_one d.shape tx.writes one in
    (λ i. record { context = with_packets d (prepares d tx (parts i)); session = record s { waits = waits.Prepared at (parts i) [] } })
    ∙ (λ i. record {
      context = with_packets d (to_partition d 1 (message.Prepare tx.tid tx.snapshot (writes i)) ∷ []);
      session = record s { waits = waits.Prepared at (1 ∷ []) [] };
    })

-- PREPARED: it is told the decision
pub decided_at_one : (d : Context) (s : Session) (at : ℕ) (tx : Transaction) (vector : List ℕ) → d.shape.parts ≡ 1 → HasWrites tx.writes
    → decided d s at tx vector ≡ ended (with_packets d (to_partition d 1 (message.Commit tx.tid vector) ∷ [])) s at tx vector
decided_at_one d s at tx vector one has =
    ap (λ parts. ended (with_packets d (commits d tx.tid vector parts)) s at tx vector) (partitions_one d.shape tx.writes one has)
