use Rattle.std.proofs.Common.{◌≡◌, ◌∙◌, ◌++◌, ◌∷◌, [], ap, sym, length, arith, append-nil, slice_get, Some, refl}
use Rattle.std.proofs.lemmas.Option.{slice_get_past, slice_get_read}
use Rattle.std.proofs.lemmas.Result.{on_ok_weaker}
use Rattle.us_history.specs.Histories.{Performed}
use Rattle.us_extract.specs.PastSearch.{done_before}
use Rattle.us_extract.proofs.performances.add_copy.Goals as goal

pub returns-then-place-list : goal.returns-then-place-list
returns-then-place-list c =
    let ops = c.args.ops.now in
    let past = slice_get_past c.args.list.now c.args.place (omega arith) in
    sym (ap (λ o. ops ++ done_before o []) past ∙ append-nil ops)

pub returns : goal.returns
returns c =
    let ops = c.args.ops.now in
    let list = c.args.list.now in
    let here = c.index-list-place.result in
    let found : slice_get list c.args.place ≡ Some here = slice_get_read list (length list) c.args.place here refl (omega arith) c.index-list-place.is in
    let done = c.in_ok-copy.ensures ∙ ap (λ (p : Performed). p.done) c.performance.view_is in
    on_ok_weaker c.push.result (λ e. e ∙ ap (λ d. ops ++ d ∷ []) done ∙ sym (ap (λ o. ops ++ done_before o []) found)) c.push.ensures.ok
