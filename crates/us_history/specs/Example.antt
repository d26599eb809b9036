-- A worked history: a session goes on from one that only read, a strong transaction sees what it wrote, another is aborted, and
-- one is decided late with a low vector.
use Rattle.std.specs.Prelude.{ℕ, List, [], ◌∷◌, true, false}
use Rattle.us_kind.specs.declared.identity.Tid.{Tid}
use Rattle.us_value.specs.declared.item.Item.{Item}
use Rattle.us_value.specs.declared.operation.Op.TheVariants.{RegisterRead, RegisterWrite}
use Rattle.us_value.specs.declared.operation.Answer.TheVariants as answer
use Rattle.us_exec.specs.declared.SessionName.{SessionName}
use Rattle.us_exec.specs.declared.Done.{Done}
use Rattle.us_exec.specs.declared.Count.{Count}
use Rattle.us_exec.specs.declared.Link.{Link}
use Rattle.us_exec.specs.declared.LooseEnd.TheVariants as end
use Rattle.us_exec.specs.declared.Execution.{Execution}
use Rattle.us_history.specs.Histories.{Begun, History}

abbrev pub item : Item
item = record { space = 1; id = 97 ∷ [] }

abbrev pub session : ℕ → ℕ → SessionName
session site number = record { site = site; coord = 1; number = number }

abbrev pub tid : ℕ → ℕ → Tid
tid site seq = record { site = site; coord = 1; seq = seq }

abbrev pub other_item : Item
other_item = record { space = 1; id = 98 ∷ [] }

-- the reader is first; the writer's session goes on from the reader's; the seer is strong, and sees the write; the loser conflicts
-- with the seer; the leaver leaves; the last one is open; and the late one writes another item
abbrev pub reader : Begun
reader = record { tid = tid 1 1; session = session 1 1; snapshot = 0 ∷ 0 ∷ [] }

abbrev pub writer : Begun
writer = record { tid = tid 1 2; session = session 1 2; snapshot = 0 ∷ 0 ∷ [] }

abbrev pub seer : Begun
seer = record { tid = tid 2 1; session = session 2 1; snapshot = 0 ∷ 65 ∷ [] }

abbrev pub loser : Begun
loser = record { tid = tid 2 2; session = session 2 2; snapshot = 0 ∷ 0 ∷ [] }

abbrev pub leaver : Begun
leaver = record { tid = tid 1 3; session = session 1 2; snapshot = 0 ∷ 65 ∷ [] }

abbrev pub last : Begun
last = record { tid = tid 1 4; session = session 1 1; snapshot = 0 ∷ 0 ∷ [] }

abbrev pub late : Begun
late = record { tid = tid 2 3; session = session 2 3; snapshot = 0 ∷ 0 ∷ [] }

abbrev pub read_nothing : Done
read_nothing = record { item = item; op = RegisterRead; answer = answer.Nothing }

abbrev pub wrote : Done
wrote = record { item = item; op = RegisterWrite (120 ∷ []); answer = answer.Done }

abbrev pub wrote_other : Done
wrote_other = record { item = other_item; op = RegisterWrite (121 ∷ []); answer = answer.Done }

abbrev pub read_it : Done
read_it = record { item = item; op = RegisterRead; answer = answer.Value (120 ∷ []) }

abbrev pub link : Link
link = record { session = session 1 2; from = session 1 1; count = 1 }

-- the late one is decided last, and comes second in arbitration order
abbrev pub example : History
example = record {
  begun = reader ∷ writer ∷ seer ∷ loser ∷ leaver ∷ last ∷ late ∷ [];
  performed =
      record { tid = reader.tid; done = read_nothing } ∷ record { tid = writer.tid; done = wrote } ∷ record { tid = seer.tid; done = read_it }
      ∷ record { tid = loser.tid; done = wrote } ∷ record { tid = late.tid; done = wrote_other } ∷ [];
  committed =
      record { begun = reader; number = 1; strong = false; vector = 0 ∷ 0 ∷ []; ops = read_nothing ∷ [] }
      ∷ record { begun = writer; number = 1; strong = false; vector = 0 ∷ 65 ∷ []; ops = wrote ∷ [] }
      ∷ record { begun = seer; number = 1; strong = true; vector = 1 ∷ 65 ∷ []; ops = read_it ∷ [] }
      ∷ record { begun = late; number = 1; strong = false; vector = 0 ∷ 1 ∷ []; ops = wrote_other ∷ [] } ∷ [];
  left = leaver.tid ∷ [];
  aborted = record { tid = loser.tid; named = seer.tid; item = item } ∷ [];
  links = link ∷ [];
  refused = [];
}

abbrev pub counts : SessionName → ℕ → List Count → List Count
counts s n past = record { session = s; count = n } ∷ past

-- what the writer's commit has before it, and what it makes seen
abbrev pub before_write : List Count
before_write = counts reader.session 1 []

abbrev pub seen : List Count
seen = counts reader.session 1 (counts writer.session 1 (counts late.session 1 []))

-- by sum; what sees the write has the reader in its past too, which leads to it through the link and the write
abbrev pub example_execution : Execution
example_execution = record {
  entries =
      record { tid = reader.tid; session = reader.session; number = 1; strong = false; ops = read_nothing ∷ []; past = [] }
      ∷ record { tid = late.tid; session = late.session; number = 1; strong = false; ops = wrote_other ∷ []; past = [] }
      ∷ record { tid = writer.tid; session = writer.session; number = 1; strong = false; ops = wrote ∷ []; past = before_write }
      ∷ record { tid = seer.tid; session = seer.session; number = 1; strong = true; ops = read_it ∷ []; past = seen } ∷ [];
  loose =
      record { tid = loser.tid; session = loser.session; end = end.Aborted seer.tid item; ops = wrote ∷ []; past = [] }
      ∷ record { tid = leaver.tid; session = leaver.session; end = end.Left; ops = []; past = seen }
      ∷ record { tid = last.tid; session = last.session; end = end.Open; ops = []; past = before_write } ∷ [];
  links = link ∷ [];
}
