-- What only grows: how many transactions were begun, the messages that were sent, and what was told.
use Rattle.std.proofs.Common.{◌≡◌, ℕ, List, [], ◌∷◌, ◌++◌, false, refl, sym, ap, ◌∙◌, append_assoc}
use Rattle.std.proofs.lemmas.Bool.{cond_both}
use Rattle.us_client_wire.specs.declared.frame.Reply.{Reply}
use Rattle.us_exec.specs.declared.SessionName.{SessionName}
use Rattle.us_peer_wire.specs.declared.message.Actor.{Actor}
use Rattle.us_peer_wire.specs.declared.message.Packet.{Packet}
use Rattle.us_peer_wire.specs.declared.message.Message.{Message}
use Rattle.us_model.specs.declared.event.Note.{Note}
use Rattle.us_model.specs.declared.event.ClientOut.{ClientOut}
use Rattle.us_model.specs.declared.coordinator.Context.{Context}
use Rattle.us_model.specs.declared.coordinator.Session.{Session}
use Rattle.us_model.specs.State.{Partition}
use Rattle.us_history.specs.Histories.{History}
use Rattle.us_model.specs.Partitions.{known}
use Rattle.us_model.specs.Sessions.{with_packets, with_client, with_note, tell, reply_out}
use Rattle.us_model.specs.Executions.{noted, noted_all}

-- the only actor of a partition
abbrev pub me : Actor
me = record { site = 1; actor = 1 }

-- its sessions
abbrev pub name : ℕ → SessionName
name n = record { site = 1; coord = 1; number = n }

pub record Ledger : Type 0 where
  pub seq : ℕ
  pub messages : List Message
  pub history : History

abbrev pub messages_of : List Packet → List Message
messages_of [] = []
messages_of (q ∷ qs) = q.message ∷ messages_of qs

abbrev pub with_messages : Ledger → List Message → Ledger
with_messages l ms = record l { messages = l.messages ++ ms }

abbrev pub with_told : Ledger → Note → Ledger
with_told l n = record l { history = noted l.history n }

pub messages_of-append : (ps qs : List Packet) → messages_of (ps ++ qs) ≡ messages_of ps ++ messages_of qs
messages_of-append [] qs = refl
messages_of-append (q ∷ ps) qs = ap (λ l. q.message ∷ l) (messages_of-append ps qs)

pub noted_all-append : (h : History) (ms ns : List Note) → noted_all h (ms ++ ns) ≡ noted_all (noted_all h ms) ns
noted_all-append h [] ns = refl
noted_all-append h (m ∷ ms) ns = noted_all-append (noted h m) ms ns

-- the ledger is what there was before the event, and what the context has given out since
pub record Stands (b : Ledger) (p : Partition) (l : Ledger) (d : Context) : Type 0 where
  pub actor : d.me ≡ me
  pub one : d.shape.parts ≡ 1
  pub base : d.base ≡ known me p
  pub seq : d.seq ≡ l.seq
  pub messages : l.messages ≡ b.messages ++ messages_of d.out.packets
  pub history : l.history ≡ noted_all b.history d.out.notes

pub stands_packets : (b : Ledger) (p : Partition) (l : Ledger) (d : Context) (ps : List Packet) → Stands b p l d
    → Stands b p (with_messages l (messages_of ps)) (with_packets d ps)
stands_packets b p l d ps h = record {
  actor = h.actor;
  one = h.one;
  base = h.base;
  seq = h.seq;
  messages =
      ap (λ ms. ms ++ messages_of ps) h.messages ∙ append_assoc b.messages (messages_of d.out.packets) (messages_of ps) ∙ ap (λ ms. b.messages ++ ms)
      (sym (messages_of-append d.out.packets ps));
  history = h.history;
}

pub stands_note : (b : Ledger) (p : Partition) (l : Ledger) (d : Context) (n : Note) → Stands b p l d → Stands b p (with_told l n) (with_note d n)
stands_note b p l d n h = record {
  actor = h.actor;
  one = h.one;
  base = h.base;
  seq = h.seq;
  messages = h.messages;
  history = ap (λ k. noted k n) h.history ∙ sym (noted_all-append b.history d.out.notes (n ∷ []));
}

pub stands_client : (b : Ledger) (p : Partition) (l : Ledger) (d : Context) (c : ClientOut) → Stands b p l d → Stands b p l (with_client d c)
stands_client b p l d c h = record { actor = h.actor; one = h.one; base = h.base; seq = h.seq; messages = h.messages; history = h.history }

pub stands_tell : (b : Ledger) (p : Partition) (l : Ledger) (d : Context) (s : Session) (r : Reply) → Stands b p l d → Stands b p l (tell d s r)
stands_tell b p l d s r h = cond_both s.closed d (with_client d (reply_out d s r false)) (Stands b p l) (λ _. h) (λ _. stands_client b p l d _ h)
