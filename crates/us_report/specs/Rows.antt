-- Reports that were worked by hand, and their texts.
use Rattle.std.specs.Prelude.{ℕ, List, [], ◌∷◌, ◌++◌, true, false, codes}
use Rattle.us_value.specs.declared.item.Item.{Item}
use Rattle.us_value.specs.declared.operation.Op.TheVariants as op
use Rattle.us_value.specs.declared.operation.Answer.TheVariants as answer
use Rattle.us_exec.specs.declared.SessionName.{SessionName}
use Rattle.us_exec.specs.declared.Done.{Done}
use Rattle.us_exec.specs.declared.Count.{Count}
use Rattle.us_exec.specs.declared.Entry.{Entry}
use Rattle.us_exec.specs.declared.LooseEnd.TheVariants as end
use Rattle.us_report.specs.declared.report.Report.{Report}

-- nothing happened
abbrev pub no_report : Report
no_report = record { execution = record { entries = []; loose = []; links = [] }; refused = []; waiting = [] }

abbrev pub no_report_text : List ℕ
no_report_text = codes "committed 0 strong 0 aborted 0 loose 0 links 0 refused 0 waiting 0\n"

abbrev pub session : SessionName
session = record { site = 1; coord = 1; number = 1 }

abbrev pub item : Item
item = record { space = 1; id = 97 ∷ [] }

abbrev pub value : List ℕ
value = 120 ∷ []

abbrev pub write : Done
write = record { item = item; op = op.RegisterWrite value; answer = answer.Done }

abbrev pub read : Done
read = record { item = item; op = op.RegisterRead; answer = answer.Value value }

-- a session writes an item, reads it in the same transaction and again in the next
abbrev pub two_entries : List Entry
two_entries =
    record { tid = record { site = 1; coord = 1; seq = 1 }; session = session; number = 1; strong = false; ops = write ∷ read ∷ []; past = [] }
    ∷ record {
      tid = record { site = 1; coord = 1; seq = 2 };
      session = session;
      number = 2;
      strong = false;
      ops = read
          ∷ [];
      past = record { session = session; count = 1 } ∷ [];
    }
    ∷ []

abbrev pub two_report : Report
two_report = record { execution = record { entries = two_entries; loose = []; links = [] }; refused = []; waiting = [] }

abbrev pub two_report_text : List ℕ
two_report_text =
    codes "t 1.1.1 1.1.1 1 causal -\n" ++ codes "o 1:61 write:78 done\n" ++ codes "o 1:61 read value:78\n"
    ++ codes "t 1.1.2 1.1.1 2 causal 1.1.1=1\n" ++ codes "o 1:61 read value:78\n"
    ++ codes "committed 2 strong 0 aborted 0 loose 0 links 0 refused 0 waiting 0\n"

abbrev pub session_named : ℕ → ℕ → ℕ → SessionName
session_named site coord number = record { site = site; coord = coord; number = number }

abbrev pub count_of : ℕ → ℕ → ℕ → ℕ → Count
count_of site coord number count = record { session = session_named site coord number; count = count }

-- each line once and more: a count of 0 isn't printed, and a past of such counts is a dash
abbrev pub every_line_report : Report
every_line_report = record {
  execution = record {
    entries =
        record {
          tid = record { site = 3; coord = 2; seq = 4611686018427387904 };
          session = session_named 3 2 7;
          number = 12;
          strong = true;
          ops =
              record { item = record { space = 255; id = 0 ∷ 175 ∷ [] }; op = op.RegisterWrite (13 ∷ 222 ∷ []); answer = answer.Done }
              ∷ record { item = record { space = 9; id = 127 ∷ [] }; op = op.RegisterRead; answer = answer.Nothing }
              ∷ [];
          past = count_of 1 1 1 2 ∷ count_of 2 1 1 0 ∷ count_of 3 2 7 11 ∷ [];
        }
        ∷ [];
    loose =
        record {
          tid = record { site = 1; coord = 2; seq = 2 };
          session = session_named 1 2 1;
          end = end.Open;
          ops = read ∷ [];
          past = count_of 1 1 1 1 ∷ [];
        }
        ∷ record {
          tid = record { site = 2; coord = 1; seq = 5 };
          session = session_named 2 1 4;
          end = end.Left;
          ops = [];
          past = count_of 1 1 1 0 ∷ [];
        }
        ∷ record {
          tid = record { site = 3; coord = 1; seq = 9 };
          session = session_named 3 1 2;
          end = end.Aborted (record { site = 1; coord = 2; seq = 6 }) (record { space = 7; id = 190 ∷ 3 ∷ [] });
          ops = [];
          past = count_of 2 1 4 5 ∷ [];
        }
        ∷ [];
    links = record { session = session_named 1 2 3; from = session_named 3 1 1; count = 7 } ∷ [];
  };
  refused = record { session = session_named 1 1 1; at = 65; number = 9 } ∷ [];
  waiting = record { session = session_named 1 2 1; at = 5 } ∷ [];
}

abbrev pub every_line_text : List ℕ
every_line_text =
    codes "t 3.2.4611686018427387904 3.2.7 12 strong 1.1.1=2 3.2.7=11\n" ++ codes "o 255:00af write:0dde done\n" ++ codes "o 9:7f read none\n"
    ++ codes "l 1.2.2 1.2.1 open 1.1.1=1\n" ++ codes "o 1:61 read value:78\n"
    ++ codes "l 2.1.5 2.1.4 left -\n"
    ++ codes "l 3.1.9 3.1.2 aborted:1.2.6:7:be03 2.1.4=5\n"
    ++ codes "k 1.2.3 3.1.1 7\n"
    ++ codes "x 1.1.1 65 9\n"
    ++ codes "w 1.2.1 5\n"
    ++ codes "committed 1 strong 1 aborted 1 loose 3 links 1 refused 1 waiting 1\n"
