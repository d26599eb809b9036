use Rattle.std.proofs.Common.{◌≡◌, ap, sym, ◌∙◌, false, cond, OnOk, subst}
use Rattle.std.specs.FinMap.{empty, remove, contains_key}
use Rattle.std.specs.Prelude.{is_some}
use Rattle.us_kind.specs.Defaults.{with_value}
use Rattle.us_sets.specs.Marks.{is_nothing, moved}
use Rattle.us_sets.specs.Set.{element_of, move_of, marks_of}
use Rattle.us_sets.proofs.Views.{element_at, swept-element, marks_of-missing}
use Rattle.us_sets.proofs.set.SetState.change.Goals as goal

pub change_kept-requires : goal.change_kept-requires
change_kept-requires c =
    ap (λ k. contains_key c.args.self.now k) (sym c.value.ensures) ∙ ap (λ s. contains_key s c.value.result.now) (sym c.self.view_is)
    ∙ ap is_some (sym (element_at c.self.inside.elements.entries c.value.result.now)) ∙ sym c.contains_key.ensures ∙ c.if-contains_key.true

pub returns-then-contains_key-clause-ok : goal.returns-then-contains_key-clause-ok
returns-then-contains_key-clause-ok c =
    let x = element_of c.args.effect.now in
    c.sweep.ensures
    ∙ ap (λ k. cond (is_nothing (marks_of c.change_kept.new.self k)) (remove c.change_kept.new.self k) c.change_kept.new.self) c.value-then-contains_key.ensures
    ∙ ap (λ s. cond (is_nothing (marks_of s x)) (remove s x) s) c.in_ok-change_kept.ensures.ok
    ∙ swept-element c.args.self.now x (moved (marks_of c.args.self.now x) (move_of c.args.effect.now) c.args.tag)

pub returns-clause-ok : goal.returns-clause-ok
returns-clause-ok c =
    let x = element_of c.args.effect.now in
    let gone : contains_key c.args.self.now x ≡ false =
    ap (λ k. contains_key c.args.self.now k) (sym c.value.ensures) ∙ ap (λ s. contains_key s c.value.result.now) (sym c.self.view_is)
    ∙ ap is_some (sym (element_at c.self.inside.elements.entries c.value.result.now)) ∙ sym c.contains_key.ensures ∙ c.if-contains_key.false in
    let marks : c.change_marks.new.marks ≡ moved (marks_of c.args.self.now x) (move_of c.args.effect.now) c.args.tag =
    c.in_ok-change_marks.ensures.ok ∙ ap (λ m. moved m (move_of c.args.effect.now) c.args.tag) (c.new-marks.ensures ∙ sym (marks_of-missing c.args.self.now x gone)) in
    subst (λ v. OnOk c.keep.result (c.keep.new.self ≡ v)) (ap (λ k. with_value empty is_nothing c.args.self.now k c.change_marks.new.marks) c.value-2.ensures ∙ ap (with_value empty is_nothing c.args.self.now x) marks) c.keep.ensures.ok
