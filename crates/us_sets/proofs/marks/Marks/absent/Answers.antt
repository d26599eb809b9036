use Rattle.std.proofs.Common.{◌<◌, length, arith}
use Rattle.us_kind.specs.declared.identity.Tag.{Tag}
use Rattle.us_sets.proofs.Room.{missing-more, high-more}
use Rattle.us_sets.proofs.marks.Marks.absent.Goals as goal

pub loop-tag-preserved : goal.loop-tag-preserved
loop-tag-preserved c =
    let inside : c.loop-tag.tag-index < length c.args.tags.now = omega arith in
    let none : Tag = record { tid = record { site = 0; coord = 0; seq = 0 }; place = 0 } in (
      missing-more c.args.self.now c.args.tags.now c.loop-tag.tag-index none c.loop-tag.absent c.note.new.absent inside c.loop-tag.invariant.0 c.in_ok-note.ensures.noted,
      high-more c.args.self.now c.args.tags.now c.loop-tag.tag-index none inside c.loop-tag.invariant.1 c.in_ok-note.ensures.high,
    )
