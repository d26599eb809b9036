use Rattle.std.proofs.Common.{ap, sym, ◌∙◌, subst}
use Rattle.us_sets.specs.Room.{AreMissing, AreKept, AreHigh, opened, lowered, swept}
use Rattle.us_sets.proofs.Room.{roomy-AreKept, roomy-AreHigh, missing-AreMissing, taken_in_room}
use Rattle.us_sets.proofs.marks.Marks.take.Goals as goal

pub admit-requires : goal.admit-requires
admit-requires c =
    subst (AreMissing c.args.self.now) (sym (c.as_slice.ensures ∙ c.in_ok-absent.ensures.absent)) (missing-AreMissing c.args.self.now c.args.tags.now)

pub lower_each-requires-clause-kept : goal.lower_each-requires-clause-kept
lower_each-requires-clause-kept c =
    subst (λ m. AreKept m c.args.tags.now) (sym (c.in_ok-admit.ensures.ok ∙ ap (opened c.args.self.now) (c.as_slice.ensures ∙ c.in_ok-absent.ensures.absent)))
    (roomy-AreKept c.args.self.now c.args.tags.now)

pub lower_each-requires-clause-high : goal.lower_each-requires-clause-high
lower_each-requires-clause-high c =
    subst (λ m. AreHigh m c.args.tags.now) (sym (c.in_ok-admit.ensures.ok ∙ ap (opened c.args.self.now) (c.as_slice.ensures ∙ c.in_ok-absent.ensures.absent)))
    (roomy-AreHigh c.args.self.now c.args.tags.now c.in_ok-absent.ensures.high)

pub returns-clause-ok : goal.returns-clause-ok
returns-clause-ok c =
    c.sweep_each.ensures
    ∙ ap (λ m. swept m c.args.tags.now) (c.lower_each.ensures
    ∙ ap (λ m. lowered m c.args.tags.now) (c.in_ok-admit.ensures.ok ∙ ap (opened c.args.self.now) (c.as_slice.ensures ∙ c.in_ok-absent.ensures.absent)))
    ∙ taken_in_room c.args.self.now c.args.tags.now
