use Rattle.std.proofs.Common.{◌<◌, ◌∙◌, sym, length, arith}
use Rattle.us_network.proofs.Kept.{known_front}
use Rattle.us_network.proofs.fronts.passed_of.Goals as goal

pub returns-then-eq : goal.returns-then-eq
returns-then-eq c =
    let all = c.requires in
    let under = c.front_of.ensures in
    let within : c.front_of.result < length c.args.fronts.now = omega arith in
    λ sent fronts. known_front sent c.args.fronts.now c.front_of.result _ c.args.pair.now within fronts (sym c.eq.ensures ∙ c.if-eq.true)
