use Rattle.std.proofs.Common.{◌≡◌, ◌+◌, ◌∷◌, drop, sym, subst, List}
use Rattle.std.proofs.lemmas.List.{drop_all}
use Rattle.us_world.specs.declared.fault.Numbered.{Numbered}
use Rattle.us_world.specs.declared.fault.LinesFault.{LinesFault}
use Rattle.us_world.specs.Lines.{IsLimitOf}
use Rattle.unistore.proofs.Turns.{drop-turn}
use Rattle.unistore.proofs.LinesInTurn.{FrontPerformed, front_none, front_more, front_stops, front_all, built_rest}
use Rattle.unistore.proofs.performing.reached.Goals as goal

pub returns-in-Err-clause-limit : goal.returns-in-Err-clause-limit
returns-in-Err-clause-limit c =
    let all = c.args.lines.now in
    let i = c.loop-line.line-index in
    let l = c.line-item.result in
    let is : drop i all ≡ l ∷ drop (i + 1) all = drop-turn all i l c.loop-line-test.true c.line-item.is in
    subst (λ (f : LinesFault). IsLimitOf c.args.settings.now all f) (sym c.fault_at.ensures)
    (front_stops c.args.settings.now c.in-Err.which all (drop i all) (drop (i + 1) all) l c.loop-line.world c.loop-line.invariant.performed is
    c.in-Err.ensures.stopped)

pub loop-line-preserved : goal.loop-line-preserved
loop-line-preserved c =
    let all = c.args.lines.now in
    let i = c.loop-line.line-index in
    let l = c.line-item.result in
    let is : drop i all ≡ l ∷ drop (i + 1) all = drop-turn all i l c.loop-line-test.true c.line-item.is in
    record {
      built = built_rest (drop i all) (drop (i + 1) all) l c.loop-line.invariant.built is;
      performed =
          front_more c.args.settings.now all (drop i all) (drop (i + 1) all) l c.loop-line.world c.perform.new.self
          c.loop-line.invariant.performed is c.in_default.ensures.performed;
    }

pub returns-clause-reached : goal.returns-clause-reached
returns-clause-reached c =
    let all = c.args.lines.now in
    let nothing_left = drop_all c.loop-line.line-index all c.loop-line-test.false in
    front_all c.args.settings.now all c.loop-line.world
    (subst (λ (ls : List Numbered). FrontPerformed c.args.settings.now all ls c.loop-line.world) nothing_left c.loop-line.invariant.performed)

pub loop-line-init : goal.loop-line-init
loop-line-init c = record {
  built = c.requires.built;
  performed = front_none c.args.settings.now c.args.lines.now c.in_ok-world.world c.in_ok-world.ensures;
}
