use Rattle.std.proofs.Common.{◌≡◌, sym, subst, arith}
use Rattle.std.proofs.lemmas.Grind.{common_steps}
use Rattle.us_model.specs.Coordinators.{remembered}
use Rattle.us_coord.specs.Table.{AreFound, found_in}
use Rattle.us_coord.proofs.Found.{found_remembered}
use Rattle.us_coord.proofs.coordinator.all.Goals as goal

pub returns-clause-found : goal.returns-clause-found
returns-clause-found c =
    let left : c.forget.new.sessions.items ≡ remembered c.each.new.sessions = grind (arith, common_steps) in
    subst (AreFound (found_in c.each.new.table) c.each.new.context.seq) (sym left)
    (found_remembered (found_in c.each.new.table) c.each.new.context.seq c.each.new.sessions c.in_ok-each.ensures.found)
