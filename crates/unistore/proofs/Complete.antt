-- Where a text is accepted and no count rises, a call is done, or memory runs out.
use Rattle.std.proofs.Common.{◌≡◌, ℕ, ◌<◌, ◌≤◌, ◌^◌, ◌⊎◌, inl, inr, Bool, length, Option, Some, None, refl, sym, ap, ◌∙◌, subst, arith}
use Rattle.us_edge.specs.Faults.{Rose}
use Rattle.unistore.specs.declared.form.Form.{Form}
use Rattle.unistore.specs.declared.form.Form.TheVariants.{Replay}
use Rattle.unistore.specs.declared.schedule.Script.{Script}
use Rattle.unistore.specs.declared.schedule.Schedule.{Schedule}
use Rattle.unistore.specs.declared.schedule.Schedule.TheVariants.{Read}
use Rattle.unistore.specs.declared.status.LimitKind.{LimitKind}
use Rattle.unistore.specs.declared.status.Reason.{Reason}
use Rattle.unistore.specs.declared.status.Status.{Status}
use Rattle.unistore.specs.declared.status.Status.TheVariants.{Done, Words, Input, ReadFault, WriteFault, LinkFault, Memory, Limit}
use Rattle.unistore.specs.Answers.{SourceState, SinkState, Performs, Performed, RefusesLength, AnswersForm}
use Rattle.unistore.specs.Completeness.{IsAccepted}
use Rattle.unistore.specs.Report.{PassAt}
use Rattle.unistore.specs.Schedule.{schedule_of}
use Rattle.us_world.specs.declared.fault.WorldFault.{WorldFault}
use Rattle.unistore.proofs.Causes.{no_form, not_linked, read_failed, write_failed}
use Rattle.unistore.proofs.InfallibleReplay.{given_whole, given_more}

-- by lines none of which is refused and which pass no limit, no input is refused
not_input : (short : Bool) (k l : SinkState) (script : Script) (line : ℕ) (reason : Reason) → Performs short (Read script None) k l (Input line reason) → ⊥
not_input short k l script line reason (inl h) = h.says
not_input short k l script line reason (inr (inl h)) = h.tells
not_input short k l script line reason (inr (inr h)) = h

-- nor is a limit told
not_limit : (short : Bool) (k l : SinkState) (script : Script) (which : LimitKind) (line : ℕ) → ((line : ℕ) (which : WorldFault) → PassAt script line which → ⊥)
    → Performs short (Read script None) k l (Limit which line) → ⊥
not_limit short k l script which line unlimited (inl h) = unlimited h.line h.passed h.pass
not_limit short k l script which line unlimited (inr (inl h)) = h.tells
not_limit short k l script which line unlimited (inr (inr h)) = h

-- what is performed is the text that the source had left
of_text : (short : Bool) (s t : SourceState) (k l : SinkState) (status : Status) (form : Option Form) (a : IsAccepted form s.left)
    → Performed short s t k l status
    → Performs short (Read a.script None) k l status
of_text short s t k l status form a h =
    let whole : h.text ≡ a.text = given_whole a.text h.text t.left (sym a.told ∙ h.came.given) h.came.end in
    let P : Schedule → Type 0 = λ schedule. Performs short schedule k l status in
    subst P (ap schedule_of whole ∙ a.accepted) h.performs

not_too_much : (s t : SourceState) (k l : SinkState) (status : Status) (form : Option Form) → IsAccepted form s.left → RefusesLength s t k l status → ⊥
not_too_much s t k l status form a h =
    let most : length h.came.came ≤ length a.text = given_more a.text h.came.came t.left (sym a.told ∙ h.came.given) in
    let more : 2 ^ 28 < length h.came.came = h.came.more in
    let within : length a.text ≤ 2 ^ 28 = a.within in
    omega arith

pub done_or_memory : (form : Option Form) (s t : SourceState) (k l : SinkState) (status : Status) → AnswersForm form s t k l status
    → IsAccepted form s.left → (Rose s.faults t.faults → ⊥) → (Rose k.faults l.faults → ⊥) → (status ≡ Done) ⊎ (status ≡ Memory)
done_or_memory form s t k l Done h a reads writes = inl refl
done_or_memory form s t k l Memory h a reads writes = inr refl
done_or_memory form s t k l Words h a reads writes =
    let none : form ≡ None = no_form form s t k l h in let some = a.asks in absurd (clash form a.form none some)
  where
    clash : (o : Option Form) (f : Form) → o ≡ None → o ≡ Some f → ⊥
    clash o f none some = cc
done_or_memory form s t k l LinkFault h a reads writes = absurd (not_linked form s t k l h)
done_or_memory form s t k l ReadFault h a reads writes = absurd (reads (read_failed form s t k l h).0)
done_or_memory form s t k l WriteFault h a reads writes = absurd (writes (write_failed form s t k l h))
done_or_memory None s t k l (Input line reason) h a reads writes = absurd h
done_or_memory (Some (Replay short)) s t k l (Input line reason) (inl h) a reads writes =
    absurd (not_too_much s t k l (Input line reason) (Some (Replay short)) a h)
done_or_memory (Some (Replay short)) s t k l (Input line reason) (inr h) a reads writes =
    absurd (not_input short k l a.script line reason (of_text short s t k l (Input line reason) (Some (Replay short)) a h))
done_or_memory None s t k l (Limit which line) h a reads writes = absurd h
done_or_memory (Some (Replay short)) s t k l (Limit which line) (inl h) a reads writes =
    absurd (not_too_much s t k l (Limit which line) (Some (Replay short)) a h)
done_or_memory (Some (Replay short)) s t k l (Limit which line) (inr h) a reads writes =
    absurd (not_limit short k l a.script which line a.unlimited (of_text short s t k l (Limit which line) (Some (Replay short)) a h))
