use Rattle.std.proofs.Common.{◌≡◌, ap, sym, ◌∙◌, rules, true, true≢false, Some, OnOk, OnErr, subst}
use Rattle.std.specs.BTreeMap.{get_by}
use Rattle.std.specs.Cmp.Lexicographic.{slice_cmp}
use Rattle.std.specs.FinMap.{from_entries, insert, contains_key, get}
use Rattle.std.specs.Option.{option_copied_mut}
use Rattle.std.specs.Ordering.{nat_cmp}
use Rattle.std.specs.Prelude.{is_some}
use Rattle.us_sets.specs.Marks.{moved}
use Rattle.us_sets.specs.Set.{element_of, move_of, marks_of}
use Rattle.us_sets.specs.declared.set.SetState.TheInside.{Inside}
use Rattle.us_sets.proofs.Views.{element_at, element_inserted, on_ok, on_err, changed_here, unchanged_here}
use Rattle.us_sets.proofs.set.SetState.change_kept.Goals as goal
use Rattle.us_sets.proofs.set.SetState.change_kept.Goals.{in-Some, in-None}

pub returns-clause-ok : goal.returns-clause-ok
returns-clause-ok c =
    let view = λ (a : Inside). from_entries {R = slice_cmp nat_cmp} a.elements.entries in
    let x = element_of c.args.effect.now in
    let y = c.value.result.now in
    let there : get_by (slice_cmp nat_cmp y) c.self.inside.elements ≡ get c.args.self.now y =
    element_at c.self.inside.elements.entries y ∙ ap (λ s. get s y) c.self.view_is in
    let kept : is_some (get_by (slice_cmp nat_cmp y) c.self.inside.elements) ≡ true =
    ap is_some there ∙ ap (λ k. contains_key c.args.self.now k) c.value.ensures ∙ c.requires in
    elim c.match-get_mut.branch [
      | in-Some w ↦
          let new = w.change_marks.new.marks in
          let here : get c.args.self.now y ≡ Some w.in-Some.marks.now = sym there ∙ sym c.get_mut.ensures.value ∙ ap option_copied_mut w.in-Some.is in
          let written : view c.match-get_mut.self-inside ≡ insert c.args.self.now y new =
          ap view w.self-inside-is
          ∙ element_inserted c.self.inside.elements.entries (c.get_mut.follows.lender new).entries y new ((c.get_mut.follows.holds new).3 (search rules)).0
          ∙ ap (λ s. insert s y new) c.self.view_is in
          subst (λ r. OnOk r (view c.match-get_mut.self-inside ≡ insert c.args.self.now x (moved (marks_of c.args.self.now x) (move_of c.args.effect.now) c.args.tag))) (sym w.result-is)
          (on_ok w.change_marks.result
          (λ e. written ∙ changed_here c.args.self.now x y w.in-Some.marks.now new c.value.ensures here (λ m. moved m (move_of c.args.effect.now) c.args.tag) e)
          w.change_marks.ensures.ok)
      | in-None w ↦ absurd (true≢false (sym kept ∙ ap is_some (sym c.get_mut.ensures.value ∙ ap option_copied_mut w.in-None.is)))
    ]

pub returns-clause-err : goal.returns-clause-err
returns-clause-err c =
    let view = λ (a : Inside). from_entries {R = slice_cmp nat_cmp} a.elements.entries in
    let x = element_of c.args.effect.now in
    let y = c.value.result.now in
    let there : get_by (slice_cmp nat_cmp y) c.self.inside.elements ≡ get c.args.self.now y =
    element_at c.self.inside.elements.entries y ∙ ap (λ s. get s y) c.self.view_is in
    let kept : is_some (get_by (slice_cmp nat_cmp y) c.self.inside.elements) ≡ true =
    ap is_some there ∙ ap (λ k. contains_key c.args.self.now k) c.value.ensures ∙ c.requires in
    elim c.match-get_mut.branch [
      | in-Some w ↦
          let new = w.change_marks.new.marks in
          let here : get c.args.self.now y ≡ Some w.in-Some.marks.now = sym there ∙ sym c.get_mut.ensures.value ∙ ap option_copied_mut w.in-Some.is in
          let written : view c.match-get_mut.self-inside ≡ insert c.args.self.now y new =
          ap view w.self-inside-is
          ∙ element_inserted c.self.inside.elements.entries (c.get_mut.follows.lender new).entries y new ((c.get_mut.follows.holds new).3 (search rules)).0
          ∙ ap (λ s. insert s y new) c.self.view_is in
          subst (λ r. OnErr r (view c.match-get_mut.self-inside ≡ c.args.self.now)) (sym w.result-is)
          (on_err w.change_marks.result
          (λ e. written ∙ unchanged_here c.args.self.now x y w.in-Some.marks.now new c.value.ensures here e)
          w.change_marks.ensures.err)
      | in-None w ↦ absurd (true≢false (sym kept ∙ ap is_some (sym c.get_mut.ensures.value ∙ ap option_copied_mut w.in-None.is)))
    ]
