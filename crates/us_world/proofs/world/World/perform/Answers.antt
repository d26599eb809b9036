use Rattle.std.proofs.Common.{List, [], ◌∷◌, ◌++◌, false, sym, subst, refl}
use Rattle.us_schedule.specs.declared.line.Line.{Line}
use Rattle.us_world.specs.Lines.{Performed, HasReached, HasPerformed}
use Rattle.us_world.proofs.Lines.{running, reached_more, has_world}
use Rattle.us_world.proofs.world.World.perform.Goals as goal

pub invariant_of-self-2 : goal.invariant_of-self-2
invariant_of-self-2 c =
    let was = c.self.inside in
    let so = running was.stopped was.settings was.lines.items was.run c.self.invariant c.if-self.false in
    subst (λ (ls : List Line). HasReached was.settings ls c.perform.new.self) (sym c.in_ok-add_line.ensures)
    (reached_more was.settings was.lines.items c.args.line.now was.run c.perform.new.self so c.in_ok-perform.ensures.performed)

pub returns-clause-performed : goal.returns-clause-performed
returns-clause-performed c =
    let was = c.self.inside in
    let so = running was.stopped was.settings was.lines.items was.run c.self.invariant c.if-self.false in
    let new : Performed = record { settings = was.settings; lines = c.add_line.new.lines.items; stopped = false; kept = c.perform.new.self } in
    subst (λ (old : Performed). HasPerformed c.args.line.now old new) c.self.view_is (record {
      settings = refl;
      lines = c.in_ok-add_line.ensures;
      runs = refl;
      reached =
          has_world was.settings (was.lines.items ++ c.args.line.now ∷ []) c.perform.new.self
          (reached_more was.settings was.lines.items c.args.line.now was.run c.perform.new.self so c.in_ok-perform.ensures.performed);
    })
