use Rattle.std.proofs.Common.{◌≡◌, ap, sym, ◌∙◌, true, false, rules, SFits, to_z-of_z, w64, pos, ◌+ℤ◌}
use Rattle.std.specs.Prelude.{unwrap_or}
use Rattle.std.specs.BTreeMap.{is_at}
use Rattle.std.specs.Map.{lookup}
use Rattle.us_kind.specs.Tags.{tag_cmp}
use Rattle.us_sets.specs.Marks.{is_zero, shifted}
use Rattle.us_sets.proofs.Views.{shifted-remove, shifted-insert}
use Rattle.us_sets.proofs.marks.Marks.shift.Goals as goal

pub returns-then-is_zero-clause-ok : goal.returns-then-is_zero-clause-ok
returns-then-is_zero-clause-ok c =
    let fits : SFits w64 c.in_ok-count.count = search rules in
    let by : SFits w64 c.args.by = search rules in
    let had : SFits w64 c.unwrap_or.result = search rules in
    let zero : is_zero c.in_ok-count.count ≡ true = sym (simp to_z-of_z at c.is_zero.ensures) ∙ c.if-is_zero.true in
    let sum : c.in_ok-count.count ≡ (c.unwrap_or.result +ℤ c.args.by) = simp to_z-of_z at c.in_ok-count.ensures in
    let got : c.unwrap_or.result ≡ unwrap_or (lookup (is_at (tag_cmp c.args.tag)) c.self.inside.counts.entries) (pos 0) =
    c.unwrap_or.ensures ∙ ap (λ r. unwrap_or r (pos 0)) (c.copied.ensures ∙ c.get.ensures.value) in
    shifted-remove c.self.inside.counts.entries c.remove.new.self.entries c.args.tag c.args.by c.in_ok-count.count (sum ∙ ap (λ n. n +ℤ c.args.by) got) zero c.remove.ensures.updates.0
    ∙ ap (λ m. shifted m c.args.tag c.args.by) c.self.view_is

pub returns-in_ok-insert-clause-ok : goal.returns-in_ok-insert-clause-ok
returns-in_ok-insert-clause-ok c =
    let fits : SFits w64 c.in_ok-count.count = search rules in
    let by : SFits w64 c.args.by = search rules in
    let had : SFits w64 c.unwrap_or.result = search rules in
    let kept : is_zero c.in_ok-count.count ≡ false = sym (simp to_z-of_z at c.is_zero.ensures) ∙ c.if-is_zero.false in
    let sum : c.in_ok-count.count ≡ (c.unwrap_or.result +ℤ c.args.by) = simp to_z-of_z at c.in_ok-count.ensures in
    let got : c.unwrap_or.result ≡ unwrap_or (lookup (is_at (tag_cmp c.args.tag)) c.self.inside.counts.entries) (pos 0) =
    c.unwrap_or.ensures ∙ ap (λ r. unwrap_or r (pos 0)) (c.copied.ensures ∙ c.get.ensures.value) in
    shifted-insert c.self.inside.counts.entries c.insert.new.self.entries c.args.tag c.args.by c.in_ok-count.count (sum ∙ ap (λ n. n +ℤ c.args.by) got) kept (simp to_z-of_z at c.in_ok-insert.ensures.updates.0)
    ∙ ap (λ m. shifted m c.args.tag c.args.by) c.self.view_is
