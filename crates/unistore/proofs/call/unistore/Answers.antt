use Rattle.std.proofs.Common.{◌≡◌, map, Bool, Option, Some, None, sym, ap, ◌∙◌, subst, string_bytes}
use Rattle.unistore.specs.declared.form.Form.{Form}
use Rattle.unistore.specs.declared.form.Form.TheVariants.{Replay}
use Rattle.unistore.specs.declared.status.Status.{Status}
use Rattle.unistore.specs.Answers.{SourceState, SinkState, AnswersForm, Replays, form_of, is_short}
use Rattle.unistore.proofs.Causes.{form_is, words_only, no_form, not_linked, is_done, read_failed, write_failed, is_input, is_limit}
use Rattle.unistore.proofs.Complete.{done_or_memory}
use Rattle.unistore.proofs.call.unistore.Goals as goal

pub returns-in-None-clause-answers : goal.returns-in-None-clause-answers
returns-in-None-clause-answers g c =
    let form = form_of (map string_bytes c.args.words.now) in
    let s : SourceState = record { left = g.S.Source.left c.args.source.now; faults = g.S.Source.faults c.args.source.now } in
    let t : SourceState = record { left = g.S.Source.left c.args.source.now; faults = g.S.Source.faults c.args.source.now } in
    let k : SinkState = record { written = g.K.Sink.written c.args.sink.now; faults = g.K.Sink.faults c.args.sink.now } in
    let l : SinkState = record { written = g.K.Sink.written c.refuse_words.new.sink; faults = g.K.Sink.faults c.refuse_words.new.sink } in
    let e : form ≡ None = sym c.form_of.ensures ∙ c.in-None.is in
    subst (λ (f : Option Form). AnswersForm f s t k l c.refuse_words.result) (sym e) c.refuse_words.ensures

pub returns-in-None-clause-words : goal.returns-in-None-clause-words
returns-in-None-clause-words g c =
    let form = form_of (map string_bytes c.args.words.now) in
    let s : SourceState = record { left = g.S.Source.left c.args.source.now; faults = g.S.Source.faults c.args.source.now } in
    let t : SourceState = record { left = g.S.Source.left c.args.source.now; faults = g.S.Source.faults c.args.source.now } in
    let k : SinkState = record { written = g.K.Sink.written c.args.sink.now; faults = g.K.Sink.faults c.args.sink.now } in
    let l : SinkState = record { written = g.K.Sink.written c.refuse_words.new.sink; faults = g.K.Sink.faults c.refuse_words.new.sink } in
    words_only form s t k l c.refuse_words.result (returns-in-None-clause-answers g c)

pub returns-in-None-clause-only_words : goal.returns-in-None-clause-only_words
returns-in-None-clause-only_words g c =
    let form = form_of (map string_bytes c.args.words.now) in
    let s : SourceState = record { left = g.S.Source.left c.args.source.now; faults = g.S.Source.faults c.args.source.now } in
    let t : SourceState = record { left = g.S.Source.left c.args.source.now; faults = g.S.Source.faults c.args.source.now } in
    let k : SinkState = record { written = g.K.Sink.written c.args.sink.now; faults = g.K.Sink.faults c.args.sink.now } in
    let l : SinkState = record { written = g.K.Sink.written c.refuse_words.new.sink; faults = g.K.Sink.faults c.refuse_words.new.sink } in
    let P : Status → Type 0 = λ status. AnswersForm form s t k l status in
    λ e. no_form form s t k l (subst P e (returns-in-None-clause-answers g c))

pub returns-in-None-clause-done : goal.returns-in-None-clause-done
returns-in-None-clause-done g c =
    let form = form_of (map string_bytes c.args.words.now) in
    let s : SourceState = record { left = g.S.Source.left c.args.source.now; faults = g.S.Source.faults c.args.source.now } in
    let t : SourceState = record { left = g.S.Source.left c.args.source.now; faults = g.S.Source.faults c.args.source.now } in
    let k : SinkState = record { written = g.K.Sink.written c.args.sink.now; faults = g.K.Sink.faults c.args.sink.now } in
    let l : SinkState = record { written = g.K.Sink.written c.refuse_words.new.sink; faults = g.K.Sink.faults c.refuse_words.new.sink } in
    let P : Status → Type 0 = λ status. AnswersForm form s t k l status in
    λ e. is_done form s t k l (subst P e (returns-in-None-clause-answers g c))

pub returns-in-None-clause-read_fault : goal.returns-in-None-clause-read_fault
returns-in-None-clause-read_fault g c =
    let form = form_of (map string_bytes c.args.words.now) in
    let s : SourceState = record { left = g.S.Source.left c.args.source.now; faults = g.S.Source.faults c.args.source.now } in
    let t : SourceState = record { left = g.S.Source.left c.args.source.now; faults = g.S.Source.faults c.args.source.now } in
    let k : SinkState = record { written = g.K.Sink.written c.args.sink.now; faults = g.K.Sink.faults c.args.sink.now } in
    let l : SinkState = record { written = g.K.Sink.written c.refuse_words.new.sink; faults = g.K.Sink.faults c.refuse_words.new.sink } in
    let P : Status → Type 0 = λ status. AnswersForm form s t k l status in
    λ e. read_failed form s t k l (subst P e (returns-in-None-clause-answers g c))

pub returns-in-None-clause-write_fault : goal.returns-in-None-clause-write_fault
returns-in-None-clause-write_fault g c =
    let form = form_of (map string_bytes c.args.words.now) in
    let s : SourceState = record { left = g.S.Source.left c.args.source.now; faults = g.S.Source.faults c.args.source.now } in
    let t : SourceState = record { left = g.S.Source.left c.args.source.now; faults = g.S.Source.faults c.args.source.now } in
    let k : SinkState = record { written = g.K.Sink.written c.args.sink.now; faults = g.K.Sink.faults c.args.sink.now } in
    let l : SinkState = record { written = g.K.Sink.written c.refuse_words.new.sink; faults = g.K.Sink.faults c.refuse_words.new.sink } in
    let P : Status → Type 0 = λ status. AnswersForm form s t k l status in
    λ e. write_failed form s t k l (subst P e (returns-in-None-clause-answers g c))

pub returns-in-None-clause-input : goal.returns-in-None-clause-input
returns-in-None-clause-input g c =
    let form = form_of (map string_bytes c.args.words.now) in
    let s : SourceState = record { left = g.S.Source.left c.args.source.now; faults = g.S.Source.faults c.args.source.now } in
    let t : SourceState = record { left = g.S.Source.left c.args.source.now; faults = g.S.Source.faults c.args.source.now } in
    let k : SinkState = record { written = g.K.Sink.written c.args.sink.now; faults = g.K.Sink.faults c.args.sink.now } in
    let l : SinkState = record { written = g.K.Sink.written c.refuse_words.new.sink; faults = g.K.Sink.faults c.refuse_words.new.sink } in
    is_input form s t k l c.refuse_words.result (returns-in-None-clause-answers g c)

pub returns-in-None-clause-limit : goal.returns-in-None-clause-limit
returns-in-None-clause-limit g c =
    let form = form_of (map string_bytes c.args.words.now) in
    let s : SourceState = record { left = g.S.Source.left c.args.source.now; faults = g.S.Source.faults c.args.source.now } in
    let t : SourceState = record { left = g.S.Source.left c.args.source.now; faults = g.S.Source.faults c.args.source.now } in
    let k : SinkState = record { written = g.K.Sink.written c.args.sink.now; faults = g.K.Sink.faults c.args.sink.now } in
    let l : SinkState = record { written = g.K.Sink.written c.refuse_words.new.sink; faults = g.K.Sink.faults c.refuse_words.new.sink } in
    is_limit form s t k l c.refuse_words.result (returns-in-None-clause-answers g c)

pub returns-in-None-clause-linked : goal.returns-in-None-clause-linked
returns-in-None-clause-linked g c =
    let form = form_of (map string_bytes c.args.words.now) in
    let s : SourceState = record { left = g.S.Source.left c.args.source.now; faults = g.S.Source.faults c.args.source.now } in
    let t : SourceState = record { left = g.S.Source.left c.args.source.now; faults = g.S.Source.faults c.args.source.now } in
    let k : SinkState = record { written = g.K.Sink.written c.args.sink.now; faults = g.K.Sink.faults c.args.sink.now } in
    let l : SinkState = record { written = g.K.Sink.written c.refuse_words.new.sink; faults = g.K.Sink.faults c.refuse_words.new.sink } in
    let P : Status → Type 0 = λ status. AnswersForm form s t k l status in
    λ e. not_linked form s t k l (subst P e (returns-in-None-clause-answers g c))

pub returns-in-Some-clause-answers : goal.returns-in-Some-clause-answers
returns-in-Some-clause-answers g c =
    let form = form_of (map string_bytes c.args.words.now) in
    let s : SourceState = record { left = g.S.Source.left c.args.source.now; faults = g.S.Source.faults c.args.source.now } in
    let t : SourceState = record { left = g.S.Source.left c.replay.new.source; faults = g.S.Source.faults c.replay.new.source } in
    let k : SinkState = record { written = g.K.Sink.written c.args.sink.now; faults = g.K.Sink.faults c.args.sink.now } in
    let l : SinkState = record { written = g.K.Sink.written c.replay.new.sink; faults = g.K.Sink.faults c.replay.new.sink } in
    let e : form ≡ Some (Replay (is_short c.in-Some.form)) = sym c.form_of.ensures ∙ c.in-Some.is ∙ ap (λ (f : Form). Some f) (form_is c.in-Some.form) in
    let told : Replays (is_short c.in-Some.form) s t k l c.replay.result =
    subst (λ (short : Bool). Replays short s t k l c.replay.result) c.is_short.ensures c.replay.ensures in
    subst (λ (f : Option Form). AnswersForm f s t k l c.replay.result) (sym e) told

pub returns-in-Some-clause-words : goal.returns-in-Some-clause-words
returns-in-Some-clause-words g c =
    let form = form_of (map string_bytes c.args.words.now) in
    let s : SourceState = record { left = g.S.Source.left c.args.source.now; faults = g.S.Source.faults c.args.source.now } in
    let t : SourceState = record { left = g.S.Source.left c.replay.new.source; faults = g.S.Source.faults c.replay.new.source } in
    let k : SinkState = record { written = g.K.Sink.written c.args.sink.now; faults = g.K.Sink.faults c.args.sink.now } in
    let l : SinkState = record { written = g.K.Sink.written c.replay.new.sink; faults = g.K.Sink.faults c.replay.new.sink } in
    words_only form s t k l c.replay.result (returns-in-Some-clause-answers g c)

pub returns-in-Some-clause-only_words : goal.returns-in-Some-clause-only_words
returns-in-Some-clause-only_words g c =
    let form = form_of (map string_bytes c.args.words.now) in
    let s : SourceState = record { left = g.S.Source.left c.args.source.now; faults = g.S.Source.faults c.args.source.now } in
    let t : SourceState = record { left = g.S.Source.left c.replay.new.source; faults = g.S.Source.faults c.replay.new.source } in
    let k : SinkState = record { written = g.K.Sink.written c.args.sink.now; faults = g.K.Sink.faults c.args.sink.now } in
    let l : SinkState = record { written = g.K.Sink.written c.replay.new.sink; faults = g.K.Sink.faults c.replay.new.sink } in
    let P : Status → Type 0 = λ status. AnswersForm form s t k l status in
    λ e. no_form form s t k l (subst P e (returns-in-Some-clause-answers g c))

pub returns-in-Some-clause-done : goal.returns-in-Some-clause-done
returns-in-Some-clause-done g c =
    let form = form_of (map string_bytes c.args.words.now) in
    let s : SourceState = record { left = g.S.Source.left c.args.source.now; faults = g.S.Source.faults c.args.source.now } in
    let t : SourceState = record { left = g.S.Source.left c.replay.new.source; faults = g.S.Source.faults c.replay.new.source } in
    let k : SinkState = record { written = g.K.Sink.written c.args.sink.now; faults = g.K.Sink.faults c.args.sink.now } in
    let l : SinkState = record { written = g.K.Sink.written c.replay.new.sink; faults = g.K.Sink.faults c.replay.new.sink } in
    let P : Status → Type 0 = λ status. AnswersForm form s t k l status in
    λ e. is_done form s t k l (subst P e (returns-in-Some-clause-answers g c))

pub returns-in-Some-clause-read_fault : goal.returns-in-Some-clause-read_fault
returns-in-Some-clause-read_fault g c =
    let form = form_of (map string_bytes c.args.words.now) in
    let s : SourceState = record { left = g.S.Source.left c.args.source.now; faults = g.S.Source.faults c.args.source.now } in
    let t : SourceState = record { left = g.S.Source.left c.replay.new.source; faults = g.S.Source.faults c.replay.new.source } in
    let k : SinkState = record { written = g.K.Sink.written c.args.sink.now; faults = g.K.Sink.faults c.args.sink.now } in
    let l : SinkState = record { written = g.K.Sink.written c.replay.new.sink; faults = g.K.Sink.faults c.replay.new.sink } in
    let P : Status → Type 0 = λ status. AnswersForm form s t k l status in
    λ e. read_failed form s t k l (subst P e (returns-in-Some-clause-answers g c))

pub returns-in-Some-clause-write_fault : goal.returns-in-Some-clause-write_fault
returns-in-Some-clause-write_fault g c =
    let form = form_of (map string_bytes c.args.words.now) in
    let s : SourceState = record { left = g.S.Source.left c.args.source.now; faults = g.S.Source.faults c.args.source.now } in
    let t : SourceState = record { left = g.S.Source.left c.replay.new.source; faults = g.S.Source.faults c.replay.new.source } in
    let k : SinkState = record { written = g.K.Sink.written c.args.sink.now; faults = g.K.Sink.faults c.args.sink.now } in
    let l : SinkState = record { written = g.K.Sink.written c.replay.new.sink; faults = g.K.Sink.faults c.replay.new.sink } in
    let P : Status → Type 0 = λ status. AnswersForm form s t k l status in
    λ e. write_failed form s t k l (subst P e (returns-in-Some-clause-answers g c))

pub returns-in-Some-clause-input : goal.returns-in-Some-clause-input
returns-in-Some-clause-input g c =
    let form = form_of (map string_bytes c.args.words.now) in
    let s : SourceState = record { left = g.S.Source.left c.args.source.now; faults = g.S.Source.faults c.args.source.now } in
    let t : SourceState = record { left = g.S.Source.left c.replay.new.source; faults = g.S.Source.faults c.replay.new.source } in
    let k : SinkState = record { written = g.K.Sink.written c.args.sink.now; faults = g.K.Sink.faults c.args.sink.now } in
    let l : SinkState = record { written = g.K.Sink.written c.replay.new.sink; faults = g.K.Sink.faults c.replay.new.sink } in
    is_input form s t k l c.replay.result (returns-in-Some-clause-answers g c)

pub returns-in-Some-clause-limit : goal.returns-in-Some-clause-limit
returns-in-Some-clause-limit g c =
    let form = form_of (map string_bytes c.args.words.now) in
    let s : SourceState = record { left = g.S.Source.left c.args.source.now; faults = g.S.Source.faults c.args.source.now } in
    let t : SourceState = record { left = g.S.Source.left c.replay.new.source; faults = g.S.Source.faults c.replay.new.source } in
    let k : SinkState = record { written = g.K.Sink.written c.args.sink.now; faults = g.K.Sink.faults c.args.sink.now } in
    let l : SinkState = record { written = g.K.Sink.written c.replay.new.sink; faults = g.K.Sink.faults c.replay.new.sink } in
    is_limit form s t k l c.replay.result (returns-in-Some-clause-answers g c)

pub returns-in-Some-clause-linked : goal.returns-in-Some-clause-linked
returns-in-Some-clause-linked g c =
    let form = form_of (map string_bytes c.args.words.now) in
    let s : SourceState = record { left = g.S.Source.left c.args.source.now; faults = g.S.Source.faults c.args.source.now } in
    let t : SourceState = record { left = g.S.Source.left c.replay.new.source; faults = g.S.Source.faults c.replay.new.source } in
    let k : SinkState = record { written = g.K.Sink.written c.args.sink.now; faults = g.K.Sink.faults c.args.sink.now } in
    let l : SinkState = record { written = g.K.Sink.written c.replay.new.sink; faults = g.K.Sink.faults c.replay.new.sink } in
    let P : Status → Type 0 = λ status. AnswersForm form s t k l status in
    λ e. not_linked form s t k l (subst P e (returns-in-Some-clause-answers g c))

pub returns-in-None-clause-complete : goal.returns-in-None-clause-complete
returns-in-None-clause-complete g c =
    let form = form_of (map string_bytes c.args.words.now) in
    let s : SourceState = record { left = g.S.Source.left c.args.source.now; faults = g.S.Source.faults c.args.source.now } in
    let t : SourceState = record { left = g.S.Source.left c.args.source.now; faults = g.S.Source.faults c.args.source.now } in
    let k : SinkState = record { written = g.K.Sink.written c.args.sink.now; faults = g.K.Sink.faults c.args.sink.now } in
    let l : SinkState = record { written = g.K.Sink.written c.refuse_words.new.sink; faults = g.K.Sink.faults c.refuse_words.new.sink } in
    done_or_memory form s t k l c.refuse_words.result (returns-in-None-clause-answers g c)

pub returns-in-Some-clause-complete : goal.returns-in-Some-clause-complete
returns-in-Some-clause-complete g c =
    let form = form_of (map string_bytes c.args.words.now) in
    let s : SourceState = record { left = g.S.Source.left c.args.source.now; faults = g.S.Source.faults c.args.source.now } in
    let t : SourceState = record { left = g.S.Source.left c.replay.new.source; faults = g.S.Source.faults c.replay.new.source } in
    let k : SinkState = record { written = g.K.Sink.written c.args.sink.now; faults = g.K.Sink.faults c.args.sink.now } in
    let l : SinkState = record { written = g.K.Sink.written c.replay.new.sink; faults = g.K.Sink.faults c.replay.new.sink } in
    done_or_memory form s t k l c.replay.result (returns-in-Some-clause-answers g c)
