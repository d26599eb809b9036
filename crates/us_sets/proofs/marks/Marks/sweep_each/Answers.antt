use Rattle.std.proofs.Common.{◌<◌, length, arith}
use Rattle.us_sets.proofs.Room.{swept-more}
use Rattle.us_sets.proofs.marks.Marks.sweep_each.Goals as goal

pub loop-tag-preserved : goal.loop-tag-preserved
loop-tag-preserved c =
    let inside : c.loop-tag.tag-index < length c.args.tags.now = omega arith in
    swept-more c.args.self.now c.args.tags.now c.loop-tag.tag-index (record { tid = record { site = 0; coord = 0; seq = 0 }; place = 0 }) c.loop-tag.self c.sweep.new.self
    inside c.loop-tag.invariant c.sweep.ensures
