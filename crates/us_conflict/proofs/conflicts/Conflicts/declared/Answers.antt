use Rattle.std.proofs.Common.{ℕ, List, ap, ◌∙◌}
use Rattle.us_conflict.specs.Conflicts.{declares}
use Rattle.us_conflict.proofs.PlaceLemmas.{declared-either, declared-first, declared-second, declares-flipped}
use Rattle.us_conflict.proofs.conflicts.Conflicts.declared.Goals as goal
use Rattle.us_value.specs.declared.operation.Class.{Class}

pub returns-then-has : goal.returns-then-has
returns-then-has c =
    let both =
    declared-either c.self.inside.places.keys c.self.inside.pairs c.self.invariant c.args.space c.args.a c.args.b
    ∙ ap (λ (pairs : List (ℕ × Class × Class)). declares pairs c.args.space c.args.a c.args.b) c.self.view_is in
    let declared = declared-first _ _ _ _ c.has.ensures c.if-has.true both in
    record { declared = declared; symmetric = declared ∙ declares-flipped c.args.self.now c.args.space c.args.a c.args.b }

pub returns-else-has : goal.returns-else-has
returns-else-has c =
    let both =
    declared-either c.self.inside.places.keys c.self.inside.pairs c.self.invariant c.args.space c.args.a c.args.b
    ∙ ap (λ (pairs : List (ℕ × Class × Class)). declares pairs c.args.space c.args.a c.args.b) c.self.view_is in
    let declared = declared-second _ _ _ _ _ c.has.ensures c.if-has.false c.has-else-has.ensures both in
    record { declared = declared; symmetric = declared ∙ declares-flipped c.args.self.now c.args.space c.args.a c.args.b }
