use Rattle.std.proofs.Common.{◌≡◌, ◌∙◌}
use Rattle.std.proofs.lemmas.Result.{IfOk-weaker}
use Rattle.us_load.specs.Load.{load_lines}
use Rattle.us_load.proofs.Grammar.{load_is_schedule}
use Rattle.us_load.proofs.load.schedule_of.Goals as goal

pub returns-clause-schedule : goal.returns-clause-schedule
returns-clause-schedule c =
    let lines : c.as_slice.result.now ≡ load_lines c.args.number c.args.count = c.as_slice.ensures ∙ c.in_ok-lines.ensures in
    IfOk-weaker c.text_of.result _ _
    (λ text is. load_is_schedule c.args.number c.args.count c.as_slice.result.now text.items c.requires lines is) c.text_of.ensures
