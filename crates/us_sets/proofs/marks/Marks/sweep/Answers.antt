use Rattle.std.proofs.Common.{◌≡◌, ap, sym, ◌∙◌, true, false, rules, SFits, to_z-of_z, w64, pos, cond}
use Rattle.std.specs.FinMap.{remove}
use Rattle.std.specs.Prelude.{unwrap_or}
use Rattle.us_sets.specs.Marks.{is_zero, count_at}
use Rattle.us_sets.proofs.Room.{removed}
use Rattle.us_sets.proofs.Views.{looked_up}
use Rattle.us_sets.proofs.marks.Marks.sweep.Goals as goal

pub returns-then-is_zero : goal.returns-then-is_zero
returns-then-is_zero c =
    let had : SFits w64 c.unwrap_or.result = search rules in
    let got : c.unwrap_or.result ≡ count_at c.args.self.now c.args.tag =
    c.unwrap_or.ensures ∙ ap (λ r. unwrap_or r (pos 0)) (c.copied.ensures ∙ c.get.ensures.value ∙ looked_up c.self.inside.counts.entries c.args.tag) ∙ ap (λ s. count_at s c.args.tag) c.self.view_is in
    let nothing : is_zero (count_at c.args.self.now c.args.tag) ≡ true = ap is_zero (sym got) ∙ sym (simp to_z-of_z at c.is_zero.ensures) ∙ c.if-is_zero.true in
    removed c.self.inside.counts.entries c.remove.new.self.entries c.args.tag c.remove.ensures.updates.0 ∙ ap (λ s. remove s c.args.tag) c.self.view_is
    ∙ sym (ap (λ b. cond b (remove c.args.self.now c.args.tag) c.args.self.now) nothing)

pub returns-else-is_zero : goal.returns-else-is_zero
returns-else-is_zero c =
    let had : SFits w64 c.unwrap_or.result = search rules in
    let got : c.unwrap_or.result ≡ count_at c.args.self.now c.args.tag =
    c.unwrap_or.ensures ∙ ap (λ r. unwrap_or r (pos 0)) (c.copied.ensures ∙ c.get.ensures.value ∙ looked_up c.self.inside.counts.entries c.args.tag) ∙ ap (λ s. count_at s c.args.tag) c.self.view_is in
    let some : is_zero (count_at c.args.self.now c.args.tag) ≡ false = ap is_zero (sym got) ∙ sym (simp to_z-of_z at c.is_zero.ensures) ∙ c.if-is_zero.false in
    sym (ap (λ b. cond b (remove c.args.self.now c.args.tag) c.args.self.now) some)
