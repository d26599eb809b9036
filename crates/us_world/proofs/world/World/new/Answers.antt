use Rattle.std.proofs.Common.{List, [], sym, subst, refl}
use Rattle.us_schedule.specs.declared.line.Line.{Line}
use Rattle.us_model.specs.declared.settings.Settings.{Settings}
use Rattle.us_world.specs.Lines.{HasReached}
use Rattle.us_world.proofs.Lines.{reached_none, has_world}
use Rattle.us_world.proofs.world.World.new.Goals as goal

pub invariant_of-result : goal.invariant_of-result
invariant_of-result c =
    let settings = c.args.settings.now in
    let run = c.in_ok-new.field-0 in
    subst (λ (s : Settings). HasReached s c.new.result.items run) (sym c.in_ok-copy.ensures)
    (subst (λ (ls : List Line). HasReached settings ls run) (sym c.new.ensures.items)
    (reached_none settings run c.in_ok-new.ensures.start c.in_ok-new.ensures.events))

pub returns : goal.returns
returns c =
    let settings = c.args.settings.now in
    let run = c.in_ok-new.field-0 in
    record {
      settings_are = c.in_ok-copy.ensures;
      lines = c.new.ensures.items;
      runs = refl;
      reached = has_world settings [] run (reached_none settings run c.in_ok-new.ensures.start c.in_ok-new.ensures.events);
    }
