-- What is built so far: what a text asks for is a store of one site with one partition, and lines that are performed.
use Rattle.std.specs.Prelude.{⊤}
use Rattle.us_order.specs.Premise.{HasOnePartition}
use Rattle.us_world.specs.Lines.{AllBuilt}
use Rattle.unistore.specs.declared.schedule.Script.{Script}
use Rattle.unistore.specs.declared.schedule.Configured.{Configured}
use Rattle.unistore.specs.declared.schedule.Configured.TheVariants as configured
use Rattle.unistore.specs.declared.schedule.Schedule.{Schedule}
use Rattle.unistore.specs.declared.schedule.Schedule.TheVariants as schedule
use Rattle.unistore.specs.Schedule.{settings_of}

-- a configuration is refused, or asks for such a store
abbrev pub IsBuiltStore : Configured → Type 0
IsBuiltStore (configured.Store config) = HasOnePartition (settings_of config)
IsBuiltStore (configured.Refused refusal) = ⊤

pub record IsBuilt (script : Script) : Type 0 where
  pub store : HasOnePartition (settings_of script.config)
  pub all : AllBuilt script.lines

abbrev pub IsBuiltSchedule : Schedule → Type 0
IsBuiltSchedule (schedule.Refused refusal) = ⊤
IsBuiltSchedule (schedule.Read script refused) = IsBuilt script
