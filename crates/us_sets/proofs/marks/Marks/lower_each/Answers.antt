use Rattle.std.proofs.Common.{◌<◌, length, arith, sym, subst, get_or, take, ◌^◌, ◌-◌}
use Rattle.std.specs.Prelude.{negsuc, ◌≤ℤ◌}
use Rattle.us_kind.specs.declared.identity.Tag.{Tag}
use Rattle.us_sets.specs.Marks.{count_at}
use Rattle.us_sets.specs.Room.{AreKept}
use Rattle.us_sets.proofs.Room.{lowered-AreKept, lowered-fits, lowered-more, in_place}
use Rattle.us_sets.proofs.marks.Marks.lower_each.Goals as goal

pub lower-requires-clause-kept : goal.lower-requires-clause-kept
lower-requires-clause-kept c =
    let inside : c.loop-tag.tag-index < length c.args.tags.now = omega arith in
    let none : Tag = record { tid = record { site = 0; coord = 0; seq = 0 }; place = 0 } in
    subst (λ m. AreKept m c.args.tags.now) (sym c.loop-tag.invariant) (lowered-AreKept c.args.self.now c.args.tags.now (take c.loop-tag.tag-index c.args.tags.now) c.requires.kept)
    (get_or c.args.tags.now c.loop-tag.tag-index none) (in_place c.args.tags.now c.loop-tag.tag-index none inside)

pub lower-requires-clause-fits : goal.lower-requires-clause-fits
lower-requires-clause-fits c =
    let inside : c.loop-tag.tag-index < length c.args.tags.now = omega arith in
    let none : Tag = record { tid = record { site = 0; coord = 0; seq = 0 }; place = 0 } in
    let this = get_or c.args.tags.now c.loop-tag.tag-index none in
    subst (λ m. negsuc (2 ^ 63 - 2) ≤ℤ count_at m this) (sym c.loop-tag.invariant)
    (lowered-fits c.args.self.now c.args.tags.now c.loop-tag.tag-index this c.requires.high (in_place c.args.tags.now c.loop-tag.tag-index none inside) inside c.requires.few)

pub loop-tag-preserved : goal.loop-tag-preserved
loop-tag-preserved c =
    let inside : c.loop-tag.tag-index < length c.args.tags.now = omega arith in
    lowered-more c.args.self.now c.args.tags.now c.loop-tag.tag-index (record { tid = record { site = 0; coord = 0; seq = 0 }; place = 0 }) c.loop-tag.self c.lower.new.self
    inside c.loop-tag.invariant c.lower.ensures
