-- What a site holds.
use Rattle.std.specs.Prelude.{ℕ, List}
use Rattle.us_kind.specs.declared.identity.Tid.{Tid}
use Rattle.us_value.specs.declared.operation.Kind.{Kind}
use Rattle.us_history.specs.declared.LogTx.{LogTx}
use Rattle.us_model.specs.declared.partition.PreparedTx.{PreparedTx}
use Rattle.us_model.specs.declared.partition.Get.{Get}
use Rattle.us_model.specs.declared.coordinator.Session.{Session}
use Rattle.us_model.specs.declared.settings.Settings.{Settings}

-- a partition: its clock; the transactions that are committed, in order of coming; those that are prepared; all that
-- ever were; up to where it has all transactions of other sites; the questions that wait, in order of coming; the floor, below
-- which no snapshot is answered any more
pub record Partition : Type 0 where
  pub clock : ℕ
  pub log : List LogTx
  pub prepared : List PreparedTx
  pub done : List Tid
  pub received : List ℕ
  pub parked : List Get
  pub floor : List ℕ

-- a coordinator: how many transactions were begun and how many sessions were opened at it, and those of the sessions that are
-- open or still committing, in order of opening
pub record Coordinator : Type 0 where
  pub seq : ℕ
  pub opens : ℕ
  pub sessions : List Session

-- a partition and the coordinator of the same number: one actor
pub record Shard : Type 0 where
  pub partition : Partition
  pub coordinator : Coordinator

-- the spaces that are configured, with their kinds
abbrev pub Spaces : Type 0
Spaces = List (ℕ × Kind)

-- a site, by its number: what the store is configured with, and its actors from 1
pub record Site : Type 0 where
  pub number : ℕ
  pub settings : Settings
  pub shards : List Shard
