-- What follows from the answers, status by status.
use Rattle.std.proofs.Common.{◌≡◌, ℕ, ◌⊎◌, inl, inr, Bool, List, Option, Some, None, refl, sym, subst}
use Rattle.unistore.specs.declared.schedule.Script.{Script}
use Rattle.unistore.specs.declared.form.Form.{Form}
use Rattle.unistore.specs.declared.form.Form.TheVariants.{Replay}
use Rattle.unistore.specs.declared.schedule.Refusal.{Refusal}
use Rattle.unistore.specs.declared.schedule.Schedule.{Schedule}
use Rattle.unistore.specs.declared.schedule.Schedule.TheVariants.{Refused, Read}
use Rattle.unistore.specs.declared.status.LimitKind.{LimitKind}
use Rattle.unistore.specs.declared.status.LimitKind.TheVariants.{Text}
use Rattle.unistore.specs.declared.status.Reason.{Reason}
use Rattle.unistore.specs.declared.status.Status.{Status}
use Rattle.unistore.specs.declared.status.Status.TheVariants.{Done, Words, Input, ReadFault, WriteFault, LinkFault, Memory, Limit}
use Rattle.unistore.specs.Answers.{SourceState, SinkState, WasRead, Performs, PassesLimit, RefusesInput, RefusesLength, AnswersForm, is_short, IsRead}
use Rattle.unistore.specs.Answers.{IsDone, IsRefusedAt, IsRefusedInput, IfInput, IsLimited, IfLimit}
use Rattle.unistore.specs.Schedule.{schedule_of}
use Rattle.us_edge.specs.Faults.{Rose}

pub form_is : (form : Form) → form ≡ Replay (is_short form)
form_is (Replay short) = refl

pub words_only : (form : Option Form) (s t : SourceState) (k l : SinkState) (status : Status) → AnswersForm form s t k l status → form ≡ None
    → (status ≡ Words) ⊎ (status ≡ WriteFault)
words_only (Some f) s t k l status h e = absurd (cc)
words_only None s t k l Done h e = absurd h
words_only None s t k l Words h e = inl refl
words_only None s t k l (Input line reason) h e = absurd h
words_only None s t k l ReadFault h e = absurd h
words_only None s t k l WriteFault h e = inr refl
words_only None s t k l LinkFault h e = absurd h
words_only None s t k l Memory h e = absurd h
words_only None s t k l (Limit which line) h e = absurd h

-- NO SCHEDULE ANSWERS SO
no_words : (short : Bool) (schedule : Schedule) (k l : SinkState) → Performs short schedule k l Words → ⊥
no_words short (Refused refusal) k l h = h
no_words short (Read script refused) k l (inl h) = h.says
no_words short (Read script None) k l (inr (inl h)) = h.tells
no_words short (Read script (Some refusal)) k l (inr (inl h)) = h.refuses
no_words short (Read script refused) k l (inr (inr h)) = h

no_link : (short : Bool) (schedule : Schedule) (k l : SinkState) → Performs short schedule k l LinkFault → ⊥
no_link short (Refused refusal) k l h = h
no_link short (Read script refused) k l (inl h) = h.says
no_link short (Read script None) k l (inr (inl h)) = h.tells
no_link short (Read script (Some refusal)) k l (inr (inl h)) = h.refuses
no_link short (Read script refused) k l (inr (inr h)) = h

pub no_form : (form : Option Form) (s t : SourceState) (k l : SinkState) → AnswersForm form s t k l Words → form ≡ None
no_form None s t k l h = refl
no_form (Some (Replay short)) s t k l (inl h) = absurd h.refuses
no_form (Some (Replay short)) s t k l (inr h) = absurd (no_words short (schedule_of h.text) k l h.performs)

pub not_linked : (form : Option Form) (s t : SourceState) (k l : SinkState) → AnswersForm form s t k l LinkFault → ⊥
not_linked None s t k l h = h
not_linked (Some (Replay short)) s t k l (inl h) = h.refuses
not_linked (Some (Replay short)) s t k l (inr h) = no_link short (schedule_of h.text) k l h.performs

-- DONE
was-read : (s t : SourceState) (text : List ℕ) → WasRead text s t → IsRead s.left t.left text
was-read s t text came = record { given = came.given; end = came.end }

done_of : (short : Bool) (s t : SourceState) (k l : SinkState) (text : List ℕ) (schedule : Schedule) → WasRead text s t → schedule_of text ≡ schedule
    → Performs short schedule k l Done → IsDone (Some (Replay short)) s.left t.left k.written l.written
done_of short s t k l text (Refused refusal) came e h = absurd h
done_of short s t k l text (Read script refused) came e (inl h) = absurd h.says
done_of short s t k l text (Read script (Some refusal)) came e (inr (inl h)) = absurd h.refuses
done_of short s t k l text (Read script None) came e (inr (inl h)) = record {
  short = short;
  replays = refl;
  text = text;
  read = was-read s t text came;
  script = script;
  accepted = e;
  report = h.report;
  is = h.is;
  whole = h.tells;
}
done_of short s t k l text (Read script refused) came e (inr (inr h)) = absurd h

pub is_done : (form : Option Form) (s t : SourceState) (k l : SinkState) → AnswersForm form s t k l Done → IsDone form s.left t.left k.written l.written
is_done None s t k l h = absurd h
is_done (Some (Replay short)) s t k l (inl h) = absurd h.refuses
is_done (Some (Replay short)) s t k l (inr h) = done_of short s t k l h.text (schedule_of h.text) h.came refl h.performs

-- A READ OR A WRITE THAT FAILED
pub read_failed : (form : Option Form) (s t : SourceState) (k l : SinkState) → AnswersForm form s t k l ReadFault
    → Rose s.faults t.faults × (l.written ≡ k.written)
read_failed None s t k l h = absurd h
read_failed (Some (Replay short)) s t k l h = (h.rose, h.silent)

performs-write : (short : Bool) (schedule : Schedule) (k l : SinkState) → Performs short schedule k l WriteFault → Rose k.faults l.faults
performs-write short (Refused refusal) k l h = h.rose
performs-write short (Read script refused) k l (inl h) = h.says.rose
performs-write short (Read script None) k l (inr (inl h)) = h.tells.rose
performs-write short (Read script (Some refusal)) k l (inr (inl h)) = h.refuses.rose
performs-write short (Read script refused) k l (inr (inr h)) = absurd h

pub write_failed : (form : Option Form) (s t : SourceState) (k l : SinkState) → AnswersForm form s t k l WriteFault → Rose k.faults l.faults
write_failed None s t k l h = h.rose
write_failed (Some (Replay short)) s t k l (inl h) = h.refuses.rose
write_failed (Some (Replay short)) s t k l (inr h) = performs-write short (schedule_of h.text) k l h.performs

-- A REFUSED INPUT
input_at : (s t : SourceState) (k l : SinkState) (text : List ℕ) (refusal : Refusal) (line : ℕ) (reason : Reason) → WasRead text s t
    → IsRefusedAt (schedule_of text) refusal
    → RefusesInput refusal k l line reason → IsRefusedInput s.left t.left k.written l.written line reason
input_at s t k l text refusal line reason came at h =
    let a : line ≡ refusal.line = h.same_line in
    let b : reason ≡ refusal.reason = h.same_reason in
    let same : refusal ≡ record { line = line; reason = reason } = λ i. record { line = sym a i; reason = sym b i } in
    record {
      text = text;
      read = was-read s t text came;
      refused = subst (λ (r : Refusal). IsRefusedAt (schedule_of text) r) same at;
      whole = rw (a, b) h.written;
    }

input_of : (short : Bool) (s t : SourceState) (k l : SinkState) (text : List ℕ) (schedule : Schedule) (line : ℕ) (reason : Reason) → WasRead text s t
    → schedule_of text ≡ schedule
    → Performs short schedule k l (Input line reason) → IsRefusedInput s.left t.left k.written l.written line reason
input_of short s t k l text (Refused refusal) line reason came e h =
    input_at s t k l text refusal line reason came (subst (λ (x : Schedule). IsRefusedAt x refusal) (sym e) refl) h
input_of short s t k l text (Read script refused) line reason came e (inl h) = absurd h.says
input_of short s t k l text (Read script None) line reason came e (inr (inl h)) = absurd h.tells
input_of short s t k l text (Read script (Some refusal)) line reason came e (inr (inl h)) =
    input_at s t k l text refusal line reason came (subst (λ (x : Schedule). IsRefusedAt x refusal) (sym e) (h.world, refl)) h.refuses
input_of short s t k l text (Read script refused) line reason came e (inr (inr h)) = absurd h

pub is_input : (form : Option Form) (s t : SourceState) (k l : SinkState) (status : Status) → AnswersForm form s t k l status
    → IfInput status (λ line reason. IsRefusedInput s.left t.left k.written l.written line reason)
is_input None s t k l (Input line reason) h = absurd h
is_input (Some (Replay short)) s t k l (Input line reason) (inl h) = absurd h.refuses
is_input (Some (Replay short)) s t k l (Input line reason) (inr h) = input_of short s t k l h.text (schedule_of h.text) line reason h.came refl h.performs
is_input form s t k l Done h = tt
is_input form s t k l Words h = tt
is_input form s t k l ReadFault h = tt
is_input form s t k l WriteFault h = tt
is_input form s t k l LinkFault h = tt
is_input form s t k l Memory h = tt
is_input form s t k l (Limit which line) h = tt

-- A PASSED LIMIT
limit_at : (s t : SourceState) (k l : SinkState) (text : List ℕ) (script : Script) (refused : Option Refusal) (which : LimitKind) (line : ℕ) → WasRead text s t
    → schedule_of text ≡ Read script refused → PassesLimit script k l (Limit which line) → IsLimited s.left t.left k.written l.written which line
limit_at s t k l text script refused which line came e h =
    let a : which ≡ h.which = h.says.same_kind in
    let b : line ≡ h.line = h.says.same_line in
    record {
      past = inr (
        text,
        was-read s t text came,
        record {
          script = script;
          refused = refused;
          is = e;
          passed = h.passed;
          pass = rw b h.pass;
          kind = rw a h.kind;
        },
      );
      whole = rw (a, b) h.says.written;
    }

limit_of : (short : Bool) (s t : SourceState) (k l : SinkState) (text : List ℕ) (schedule : Schedule) (which : LimitKind) (line : ℕ) → WasRead text s t
    → schedule_of text ≡ schedule
    → Performs short schedule k l (Limit which line) → IsLimited s.left t.left k.written l.written which line
limit_of short s t k l text (Refused refusal) which line came e h = absurd h
limit_of short s t k l text (Read script refused) which line came e (inl h) = limit_at s t k l text script refused which line came e h
limit_of short s t k l text (Read script None) which line came e (inr (inl h)) = absurd h.tells
limit_of short s t k l text (Read script (Some refusal)) which line came e (inr (inl h)) = absurd h.refuses
limit_of short s t k l text (Read script refused) which line came e (inr (inr h)) = absurd h

limit_length : (s t : SourceState) (k l : SinkState) (which : LimitKind) (line : ℕ) → RefusesLength s t k l (Limit which line)
    → IsLimited s.left t.left k.written l.written which line
limit_length s t k l which line h =
    let a : which ≡ Text = h.refuses.same_kind in
    let b : line ≡ 0 = h.refuses.same_line in
    record { past = inl (a, b, h.came); whole = rw (a, b) h.refuses.written }

pub is_limit : (form : Option Form) (s t : SourceState) (k l : SinkState) (status : Status) → AnswersForm form s t k l status
    → IfLimit status (λ which line. IsLimited s.left t.left k.written l.written which line)
is_limit None s t k l (Limit which line) h = absurd h
is_limit (Some (Replay short)) s t k l (Limit which line) (inl h) = limit_length s t k l which line h
is_limit (Some (Replay short)) s t k l (Limit which line) (inr h) = limit_of short s t k l h.text (schedule_of h.text) which line h.came refl h.performs
is_limit form s t k l Done h = tt
is_limit form s t k l Words h = tt
is_limit form s t k l (Input line reason) h = tt
is_limit form s t k l ReadFault h = tt
is_limit form s t k l WriteFault h = tt
is_limit form s t k l LinkFault h = tt
is_limit form s t k l Memory h = tt
