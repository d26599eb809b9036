use Rattle.std.proofs.Common.{◌≡◌, ◌∙◌, ℕ, zero, suc, ◌≤◌, ◌+◌, ◌-◌, List, min, take, drop, length, refl, ap, sym, arith}
use Rattle.std.proofs.lemmas.List.{map-append}
use Rattle.us_base.specs.Vector.{entry}
use Rattle.us_vectors.specs.Counts.{column, most_reached}
use Rattle.us_vectors.specs.Tables.{others}
use Rattle.us_vectors.proofs.Sums.{split_others}
use Rattle.us_vectors.proofs.Groups.{uniform_is}
use Rattle.us_vectors.proofs.uniform.uniform_number.Goals as goal

positive : (n : ℕ) → (n ≡ 0 → ⊥) → 1 ≤ n
positive zero h = absurd (h refl)
positive (suc n) h = omega arith

pub returns : goal.returns
returns c =
    let f = c.args.f in
    let own = c.args.own in
    let i = c.args.i in
    let rows = c.args.rows.now in
    let place = c.from-place.result - 1 in
    let before = take place rows in
    let after = take (length rows - (place + 1)) (drop (place + 1) rows) in
    let parts =
    sym (map-append (λ row. entry row i) before after)
    ∙ ap (column i) (split_others rows c.from-place.result c.args.site c.from-place.ensures c.requires.first c.requires.last) in
    c.min.ensures
    ∙ ap (min own) c.most_reached.ensures
    ∙ ap (λ (ns : List ℕ). min own (most_reached f ns 0 ns)) parts
    ∙ sym (uniform_is f own (column i (others c.args.site rows)) (positive f c.if-f-eq0.false))
