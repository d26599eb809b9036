use Rattle.std.proofs.Common.{◌≡◌, ◌∙◌, ◌+◌, [], ◌∷◌, ◌++◌, List, length, length-append, map, refl, ap, sym, subst, arith}
use Rattle.std.proofs.lemmas.List.FromFn.{map-range_with_len_more}
use Rattle.us_model.specs.Sites.{new_shard, new_shards}
use Rattle.us_model.specs.State.{Shard}
use Rattle.us_site.specs.Shards.{Kept, shard_of, AreAt}
use Rattle.us_site.proofs.Standing.{one_more, map-push}
use Rattle.us_site.proofs.site.new_shards.Goals as goal

pub loop-before-preserved : goal.loop-before-preserved
loop-before-preserved c =
    let n = c.loop-before.before in
    let ks : List Kept = c.loop-before.shards.items in
    let more : new_shards (n + 1) ≡ new_shards n ++ new_shard ∷ [] = map-range_with_len_more (λ part. new_shard) 1 n (1 + n) refl in
    record {
      shards =
          ap (map shard_of) c.in_ok-push.ensures.items
          ∙ map-push shard_of ks c.new.result
          ∙ ap (λ (zs : List Shard). zs ++ shard_of c.new.result ∷ []) c.loop-before.invariant.shards
          ∙ ap (λ (s : Shard). new_shards n ++ s ∷ []) c.new.ensures.shard
          ∙ sym more;
      count =
          ap length c.in_ok-push.ensures.items
          ∙ length-append ks (c.new.result ∷ [])
          ∙ ap (λ k. k + 1) c.loop-before.invariant.count;
      places = subst (AreAt c.args.shape c.args.site 1) (sym c.in_ok-push.ensures.items)
          (one_more c.args.shape c.args.site 1 (n + 1) ks c.new.result c.loop-before.invariant.places (let f = c.loop-before.invariant.count in omega arith)
          c.new.ensures.place);
    }
