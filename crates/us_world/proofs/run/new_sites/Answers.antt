use Rattle.std.proofs.Common.{◌≡◌, ◌∙◌, ◌+◌, ◌++◌, [], ◌∷◌, ap, sym, map, refl, arith}
use Rattle.std.specs.List.{range_with_len}
use Rattle.std.proofs.lemmas.List.{map-append}
use Rattle.std.proofs.lemmas.List.FromFn.{map-range_with_len_more}
use Rattle.us_model.specs.Sites.{new_site}
use Rattle.us_world.specs.WorldState.{site_of}
use Rattle.us_world.proofs.run.new_sites.Goals as goal

pub loop-before-preserved : goal.loop-before-preserved
loop-before-preserved c =
    let settings = c.args.settings.now in
    let i = c.loop-before.before in
    let next : i + 1 ≡ 1 + i = omega arith in
    let more = map-range_with_len_more (new_site settings) 1 i (1 + i) refl in
    ap (map site_of) c.in_ok-push.ensures.items
    ∙ map-append site_of c.loop-before.sites.items (c.in_ok-new.field-0 ∷ [])
    ∙ (λ k. c.loop-before.invariant k ++ site_of (c.in_ok-new.ensures k) ∷ [])
    ∙ ap (λ n. map (new_site settings) (range_with_len 1 i) ++ new_site settings n ∷ []) next
    ∙ sym more
