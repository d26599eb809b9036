use Rattle.std.proofs.Common.{arith, subst}
use Rattle.unistore.specs.Built.{IsBuiltStore}
use Rattle.unistore.proofs.Reading.{parts_few}
use Rattle.unistore.proofs.schedule.read_schedule.Goals as goal

pub overflow_add-parts : goal.overflow_add-parts
overflow_add-parts c = let few = parts_few _ _ c.in-Ok.ensures.lines in grind arith

pub read_behind-requires : goal.read_behind-requires
read_behind-requires c =
    record {
      store = subst IsBuiltStore c.in-Store.is c.in_ok-config.ensures.built;
      number = let few = parts_few _ _ c.in-Ok.ensures.lines in omega arith;
    }
