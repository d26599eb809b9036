use Rattle.std.proofs.Common.{◌∙◌, ◌∷◌, [], ap, sym}
use Rattle.us_model.specs.Executions.{noted}
use Rattle.us_world.proofs.Standing.{noted-append}
use Rattle.us_world.proofs.run.tell_all.Goals as goal

pub loop-note-preserved : goal.loop-note-preserved
loop-note-preserved c =
    c.in_ok-tell.ensures
    ∙ ap (λ h. noted h c.in-Some.note) c.loop-note.invariant
    ∙ sym (noted-append c.args.history.now c.loop-note.yielded (c.in-Some.note ∷ []))
