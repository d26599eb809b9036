use Rattle.std.proofs.Common.{◌≡◌, ◌<◌, length, arith, ap, ◌∙◌, rules}
use Rattle.us_sets.specs.Room.{forgotten}
use Rattle.us_sets.proofs.Room.{taken_back, opened-more}
use Rattle.us_sets.proofs.marks.Marks.admit.Goals as goal

pub loop-tag-preserved : goal.loop-tag-preserved
loop-tag-preserved c =
    let inside : c.loop-tag.tag-index < length c.args.tags.now = omega arith in
    opened-more c.args.self.now c.args.tags.now c.loop-tag.tag-index (record { tid = record { site = 0; coord = 0; seq = 0 }; place = 0 }) c.loop-tag.self c.place_zero.new.self
    inside c.loop-tag.invariant (search rules)

pub returns-then-is_err-clause-err : goal.returns-then-is_err-clause-err
returns-then-is_err-clause-err c =
    let same : c.place_zero.new.self ≡ c.loop-tag.self = search rules in
    c.forget.ensures ∙ ap (λ m. forgotten m c.args.tags.now) (same ∙ c.loop-tag.invariant) ∙ taken_back c.args.self.now c.args.tags.now c.loop-tag.tag-index c.requires
