use Rattle.std.proofs.Common.{◌≡◌, ap, sym, ◌∙◌, rules, OnOk, cond, ◌++◌, subst, [], ◌∷◌, append-nil, arith, None, Some}
use Rattle.std.proofs.lemmas.Int.{ints}
use Rattle.std.specs.FinMap.{get}
use Rattle.std.specs.Option.{option_copied}
use Rattle.std.specs.Prelude.{is_some, not, pos, unwrap_or}
use Rattle.us_sets.specs.Marks.{count_at}
use Rattle.us_sets.specs.Room.{IsHigh}
use Rattle.us_sets.proofs.Room.{nothing_high}
use Rattle.us_sets.proofs.Views.{looked_up}
use Rattle.us_sets.proofs.marks.Marks.note.Goals as goal

pub returns-in-None-clause-noted : goal.returns-in-None-clause-noted
returns-in-None-clause-noted c =
    let got : get c.args.self.now c.args.tag ≡ None =
    ap (λ s. get s c.args.tag) (sym c.self.view_is) ∙ sym (looked_up c.self.inside.counts.entries c.args.tag) ∙ sym c.get.ensures.value ∙ ap option_copied c.in-None.is in
    subst (λ b. OnOk c.push.result (c.push.new.self ≡ c.args.absent.now ++ cond (not b) (c.args.tag ∷ []) [])) (sym (ap is_some got)) c.push.ensures.ok

pub returns-in-None-clause-high : goal.returns-in-None-clause-high
returns-in-None-clause-high c =
    let got : get c.args.self.now c.args.tag ≡ None =
    ap (λ s. get s c.args.tag) (sym c.self.view_is) ∙ sym (looked_up c.self.inside.counts.entries c.args.tag) ∙ sym c.get.ensures.value ∙ ap option_copied c.in-None.is in
    let high : IsHigh (count_at c.args.self.now c.args.tag) = subst IsHigh (sym (ap (λ o. unwrap_or o (pos 0)) got)) nothing_high in
    search rules

pub returns-else-count-lt-LEAST-clause-noted : goal.returns-else-count-lt-LEAST-clause-noted
returns-else-count-lt-LEAST-clause-noted c =
    let got : get c.args.self.now c.args.tag ≡ Some c.in-Some.count.now =
    ap (λ s. get s c.args.tag) (sym c.self.view_is) ∙ sym (looked_up c.self.inside.counts.entries c.args.tag) ∙ sym c.get.ensures.value ∙ ap option_copied c.in-Some.is in
    sym (ap (λ b. c.args.absent.now ++ cond (not b) (c.args.tag ∷ []) []) (ap is_some got) ∙ append-nil c.args.absent.now)

pub returns-else-count-lt-LEAST-clause-high : goal.returns-else-count-lt-LEAST-clause-high
returns-else-count-lt-LEAST-clause-high c =
    let got : get c.args.self.now c.args.tag ≡ Some c.in-Some.count.now =
    ap (λ s. get s c.args.tag) (sym c.self.view_is) ∙ sym (looked_up c.self.inside.counts.entries c.args.tag) ∙ sym c.get.ensures.value ∙ ap option_copied c.in-Some.is in
    let high : IsHigh c.in-Some.count.now = grind (arith, ints) in
    subst IsHigh (sym (ap (λ o. unwrap_or o (pos 0)) got)) high
