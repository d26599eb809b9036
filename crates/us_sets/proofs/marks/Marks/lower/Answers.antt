use Rattle.std.proofs.Common.{◌≡◌, ap, sym, ◌∙◌, rules, true, true≢false, SFits, w64, to_z-of_z, pos, ◌^◌, ◌-◌}
use Rattle.std.specs.BTreeMap.{get_by}
use Rattle.std.specs.FinMap.{from_entries, get, insert, contains_key}
use Rattle.std.specs.Option.{option_copied_mut}
use Rattle.std.specs.Prelude.{is_some, unwrap_or, negsuc, ◌≤ℤ◌, ◌+ℤ◌}
use Rattle.us_kind.specs.Tags.{tag_cmp}
use Rattle.us_sets.specs.Marks.{count_at}
use Rattle.us_sets.specs.declared.marks.Marks.TheInside.{Inside}
use Rattle.us_sets.proofs.Room.{lower_fits}
use Rattle.us_sets.proofs.Views.{inserted, looked_up}
use Rattle.us_sets.proofs.marks.Marks.lower.Goals as goal
use Rattle.us_sets.proofs.marks.Marks.lower.Goals.{in-Some, in_default}

pub overflow_sub-count : goal.overflow_sub-count
overflow_sub-count c =
    let fits : SFits w64 c.in-Some.count.now = search rules in
    let got : c.in-Some.count.now ≡ count_at c.args.self.now c.args.tag =
    ap (λ o. unwrap_or o (pos 0)) (sym (ap option_copied_mut c.in-Some.is) ∙ c.get_mut.ensures.value ∙ looked_up c.self.inside.counts.entries c.args.tag) ∙ ap (λ s. count_at s c.args.tag) c.self.view_is in
    let low : negsuc (2 ^ 63 - 2) ≤ℤ c.in-Some.count.now = rw got c.requires.fits in
    rw to_z-of_z (lower_fits c.in-Some.count.now fits low)

pub returns : goal.returns
returns c =
    let view = λ (a : Inside). from_entries {R = tag_cmp} a.counts.entries in
    let kept : is_some (get_by (tag_cmp c.args.tag) c.self.inside.counts) ≡ true =
    ap is_some (looked_up c.self.inside.counts.entries c.args.tag) ∙ ap (λ s. contains_key s c.args.tag) c.self.view_is ∙ c.requires.kept in
    let there : get_by (tag_cmp c.args.tag) c.self.inside.counts ≡ get c.args.self.now c.args.tag =
    looked_up c.self.inside.counts.entries c.args.tag ∙ ap (λ s. get s c.args.tag) c.self.view_is in
    elim c.match-get_mut.branch [
      | in-Some w ↦
          let fits : SFits w64 w.in-Some.count.now = search rules in
          let got : w.in-Some.count.now ≡ count_at c.args.self.now c.args.tag =
          ap (λ o. unwrap_or o (pos 0)) (sym (ap option_copied_mut w.in-Some.is) ∙ c.get_mut.ensures.value ∙ there) in
          let low : negsuc (2 ^ 63 - 2) ≤ℤ w.in-Some.count.now = rw got c.requires.fits in
          let less : SFits w64 (w.in-Some.count.now +ℤ negsuc 0) = lower_fits w.in-Some.count.now fits low in
          let count = w.in-Some.count.now +ℤ negsuc 0 in
          let is : c.match-get_mut.self-inside ≡ record { counts = c.get_mut.follows.lender count } = simp to_z-of_z at w.self-inside-is in
          ap view is
          ∙ inserted c.self.inside.counts.entries (c.get_mut.follows.lender count).entries c.args.tag count ((c.get_mut.follows.holds count).3 (search rules)).0
          ∙ ap (λ s. insert s c.args.tag count) c.self.view_is
          ∙ ap (λ n. insert c.args.self.now c.args.tag (n +ℤ negsuc 0)) got
      | in_default w ↦ absurd (true≢false (sym kept ∙ ap is_some (sym c.get_mut.ensures.value ∙ ap option_copied_mut w.in_default.is)))
    ]
