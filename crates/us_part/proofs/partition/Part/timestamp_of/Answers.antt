use Rattle.std.proofs.Common.{◌≡◌, sym, ap, arith}
use Rattle.std.proofs.lemmas.Bool.{cond-false}
use Rattle.us_base.specs.Vector.{entry}
use Rattle.us_part.specs.Placed.{Placed}
use Rattle.us_part.proofs.Partitions.{may_prepare-late}
use Rattle.us_part.proofs.partition.Part.timestamp_of.Goals as goal

pub returns-then-above-ge-GREATEST-clause-told : goal.returns-then-above-ge-GREATEST-clause-told
returns-then-above-ge-GREATEST-clause-told c =
    let now = c.args.self.now in
    let clock : c.self.inside.clock ≡ now.partition.clock = ap (λ (a : Placed). a.partition.clock) c.self.view_is in
    let own : entry c.args.snapshot.now c.self.inside.me.site ≡ entry c.args.snapshot.now now.me.site =
    ap (λ (a : Placed). entry c.args.snapshot.now a.me.site) c.self.view_is in
    sym (cond-false _ _ _ (may_prepare-late now.shape.parts now.me now.partition c.args.tid.now c.args.snapshot.now c.args.writes.now (omega arith)))
