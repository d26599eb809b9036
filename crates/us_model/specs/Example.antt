-- A worked run: a session writes an item, reads it in the same transaction and again in the next.
use Rattle.std.specs.Prelude.{ℕ, List, [], ◌∷◌, ◌++◌, false}
use Rattle.us_value.specs.declared.item.Item.{Item}
use Rattle.us_value.specs.declared.operation.Op.TheVariants.{RegisterRead, RegisterWrite}
use Rattle.us_value.specs.declared.operation.Answer.TheVariants as answer
use Rattle.us_exec.specs.declared.SessionName.{SessionName}
use Rattle.us_exec.specs.declared.Done.{Done}
use Rattle.us_exec.specs.declared.Execution.{Execution}
use Rattle.us_value.specs.declared.operation.Kind.TheVariants.{Register}
use Rattle.us_model.specs.declared.settings.Settings.{Settings}
use Rattle.us_model.specs.Worlds.{WorldEvent, OpenSession, ClientBytes, DeliverPacket}

-- one site with one partition, and one space, of registers
abbrev pub example_settings : Settings
example_settings = record { shape = record { f = 0; parts = 1 }; catalog = (1, Register) ∷ []; conflicts = [] }

-- frames of the client
abbrev pub begin_frame : List ℕ
begin_frame = 0 ∷ 0 ∷ 0 ∷ 2 ∷ 1 ∷ 1 ∷ []

abbrev pub commit_frame : List ℕ
commit_frame = 0 ∷ 0 ∷ 0 ∷ 2 ∷ 1 ∷ 3 ∷ []

abbrev pub read_frame : List ℕ
read_frame = 0 ∷ 0 ∷ 0 ∷ 6 ∷ 1 ∷ 2 ∷ 1 ∷ 1 ∷ 97 ∷ 1 ∷ []

abbrev pub write_frame : List ℕ
write_frame = 0 ∷ 0 ∷ 0 ∷ 9 ∷ 1 ∷ 2 ∷ 1 ∷ 1 ∷ 97 ∷ 2 ∷ 0 ∷ 1 ∷ 120 ∷ []

abbrev pub example : List WorldEvent
example =
    OpenSession 1 1 ∷ ClientBytes 1 1 1 (begin_frame ++ write_frame) ∷ DeliverPacket 1 ∷ DeliverPacket 2
    ∷ ClientBytes 1 1 1 (read_frame ++ commit_frame) ∷ DeliverPacket 3 ∷ DeliverPacket 4 ∷ DeliverPacket 5 ∷ DeliverPacket 6 ∷ DeliverPacket 7
    ∷ ClientBytes 1 1 1 (begin_frame ++ read_frame ++ commit_frame) ∷ DeliverPacket 8 ∷ DeliverPacket 9 ∷ []

abbrev pub example_item : Item
example_item = record { space = 1; id = 97 ∷ [] }

abbrev pub example_session : SessionName
example_session = record { site = 1; coord = 1; number = 1 }

abbrev pub example_write : Done
example_write = record { item = example_item; op = RegisterWrite (120 ∷ []); answer = answer.Done }

abbrev pub example_read : Done
example_read = record { item = example_item; op = RegisterRead; answer = answer.Value (120 ∷ []) }

-- what it comes to, worked by hand from the rules
abbrev pub example_execution : Execution
example_execution =
    record {
      entries =
          record {
            tid = record { site = 1; coord = 1; seq = 1 };
            session = example_session;
            number = 1;
            strong = false;
            ops = example_write ∷ example_read ∷ [];
            past = [];
          }
          ∷ record {
            tid = record { site = 1; coord = 1; seq = 2 };
            session = example_session;
            number = 2;
            strong = false;
            ops = example_read ∷ [];
            past = record { session = example_session; count = 1 } ∷ [];
          }
          ∷ [];
      loose = [];
      links = [];
    }
