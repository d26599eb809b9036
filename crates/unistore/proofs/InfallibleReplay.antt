-- Over a source and a sink whose counts of faults stay 0.
use Rattle.std.proofs.Common.{◌≡◌, ℕ, ◌<◌, ◌≤◌, ◌^◌, ◌⊎◌, inl, inr, Bool, List, ◌++◌, length, Option, Some, None, refl, sym, ap, ◌∙◌, subst, arith}
use Rattle.std.proofs.lemmas.List.{append-nil, length-append}
use Rattle.us_edge.specs.Faults.{Rose}
use Rattle.us_edge.specs.Streams.{prepended, IsAtEnd}
use Rattle.us_report.specs.declared.report.Report.{Report}
use Rattle.unistore.specs.declared.form.Form.{Form}
use Rattle.unistore.specs.declared.form.Form.TheVariants.{Replay}
use Rattle.unistore.specs.declared.schedule.Refusal.{Refusal}
use Rattle.unistore.specs.declared.schedule.Schedule.{Schedule}
use Rattle.unistore.specs.declared.schedule.Schedule.TheVariants.{Refused, Read}
use Rattle.unistore.specs.declared.status.LimitKind.{LimitKind}
use Rattle.unistore.specs.declared.status.LimitKind.TheVariants.{Text}
use Rattle.unistore.specs.declared.status.Status.{Status}
use Rattle.unistore.specs.declared.status.Status.TheVariants.{Done, Words, Input, ReadFault, WriteFault, LinkFault, Memory, Limit}
use Rattle.unistore.specs.Answers.{SourceState, SinkState, WasRead, FailsIn, Performs, Performed, Refuses, Passed, RunsOut, Tells, RefusesLength}
use Rattle.unistore.specs.Answers.{AnswersForm, input, status_of_kind, IsStatusOf, IsExpected}
use Rattle.unistore.specs.Schedule.{schedule_of}

pub given_whole : (bytes text : List ℕ) (after : Option (List ℕ)) → Some bytes ≡ prepended text after → IsAtEnd after → text ≡ bytes
given_whole bytes text None e end = absurd (cc)
given_whole bytes text (Some left) e end =
    let f : bytes ≡ text ++ left = cc in
    sym (f ∙ ap (λ (xs : List ℕ). text ++ xs) end ∙ append-nil text)

pub given_more : (bytes came : List ℕ) (after : Option (List ℕ)) → Some bytes ≡ prepended came after → length came ≤ length bytes
given_more bytes came None e = absurd (cc)
given_more bytes came (Some left) e =
    let f : bytes ≡ came ++ left = cc in
    omega (arith, ap length f, length-append came left)

never_rose : (n : ℕ) → n ≡ 0 → Rose 0 n → ⊥
never_rose n z rose = omega arith

never_fails : {A : Type 0} (k l : SinkState) (text : List ℕ) → k.faults ≡ 0 → l.faults ≡ 0 → FailsIn k l text → A
never_fails k l text z y h = absurd (never_rose l.faults y (subst (λ (n : ℕ). Rose n l.faults) z h.rose))

map_left : {A B C : Type 0} → (A → B) → A ⊎ C → B ⊎ C
map_left f (inl a) = inl (f a)
map_left f (inr c) = inr c

-- WHAT IS WRITTEN
refuses : (refusal : Refusal) (k l : SinkState) (status : Status) → k.faults ≡ 0 → l.faults ≡ 0 → Refuses refusal k l status
    → (status ≡ input refusal) ⊎ (status ≡ Memory)
refuses refusal k l (Input line reason) z y h =
    let a : line ≡ refusal.line = h.same_line in let b : reason ≡ refusal.reason = h.same_reason in inl (λ i. Input (a i) (b i))
refuses refusal k l WriteFault z y h = never_fails k l _ z y h
refuses refusal k l Memory z y h = inr refl
refuses refusal k l Done z y h = absurd h
refuses refusal k l Words z y h = absurd h
refuses refusal k l ReadFault z y h = absurd h
refuses refusal k l LinkFault z y h = absurd h
refuses refusal k l (Limit which line) z y h = absurd h

passed : (which : LimitKind) (line : ℕ) (k l : SinkState) (status : Status) → k.faults ≡ 0 → l.faults ≡ 0 → Passed which line k l status
    → (status ≡ Limit which line) ⊎ (status ≡ Memory)
passed which line k l (Limit said said_line) z y h =
    let a : said ≡ which = h.same_kind in let b : said_line ≡ line = h.same_line in inl (λ i. Limit (a i) (b i))
passed which line k l WriteFault z y h = never_fails k l _ z y h
passed which line k l Memory z y h = inr refl
passed which line k l Done z y h = absurd h
passed which line k l Words z y h = absurd h
passed which line k l ReadFault z y h = absurd h
passed which line k l LinkFault z y h = absurd h
passed which line k l (Input at reason) z y h = absurd h

tells : (short : Bool) (report : Report) (k l : SinkState) (status : Status) → k.faults ≡ 0 → l.faults ≡ 0 → Tells short report k l status
    → (status ≡ Done) ⊎ (status ≡ Memory)
tells short report k l Done z y h = inl refl
tells short report k l WriteFault z y h = never_fails k l _ z y h
tells short report k l Memory z y h = inr refl
tells short report k l Words z y h = absurd h
tells short report k l ReadFault z y h = absurd h
tells short report k l LinkFault z y h = absurd h
tells short report k l (Input line reason) z y h = absurd h
tells short report k l (Limit which line) z y h = absurd h

runs_out : (k l : SinkState) (status : Status) → RunsOut k l status → status ≡ Memory
runs_out k l Memory h = refl
runs_out k l Done h = absurd h
runs_out k l Words h = absurd h
runs_out k l ReadFault h = absurd h
runs_out k l WriteFault h = absurd h
runs_out k l LinkFault h = absurd h
runs_out k l (Input line reason) h = absurd h
runs_out k l (Limit which line) h = absurd h

-- A SCHEDULE
performed : (short : Bool) (k l : SinkState) (schedule : Schedule) (status : Status) → k.faults ≡ 0 → l.faults ≡ 0 → Performs short schedule k l status
    → IsStatusOf schedule status ⊎ (status ≡ Memory)
performed short k l (Refused refusal) status z y h = refuses refusal k l status z y h
performed short k l (Read script refused) status z y (inl h) =
    map_left (λ e. inr (record { line = h.line; passed = h.passed; pass = h.pass; is = e ∙ sym (ap (λ o. status_of_kind o h.line) h.kind) }))
    (passed h.which h.line k l status z y h.says)
performed short k l (Read script None) status z y (inr (inl h)) =
    map_left (λ e. inl (record { world = h.is.is.world; is = h.is.is.reached; holds = tt }, e)) (tells short h.report k l status z y h.tells)
performed short k l (Read script (Some refusal)) status z y (inr (inl h)) =
    map_left (λ e. inl (h.world, e)) (refuses refusal k l status z y h.refuses)
performed short k l (Read script refused) status z y (inr (inr h)) = inr (runs_out k l status h)

performs : (short : Bool) (bytes : List ℕ) (s t : SourceState) (k l : SinkState) (status : Status) → s.left ≡ Some bytes → k.faults ≡ 0 → l.faults ≡ 0
    → Performed short s t k l status
    → IsExpected (Some (Replay short)) bytes status ⊎ (status ≡ Memory)
performs short bytes s t k l status told z y h =
    let text = h.text in
    let came : WasRead text s t = h.came in
    let whole : text ≡ bytes = given_whole bytes text t.left (sym told ∙ came.given) came.end in
    let fits : length bytes ≤ 2 ^ 28 = subst (λ (xs : List ℕ). length xs ≤ 2 ^ 28) whole came.within in
    map_left (λ e. inr (fits, e)) (performed short k l (schedule_of bytes) status z y
    (subst (λ (xs : List ℕ). Performs short (schedule_of xs) k l status) whole h.performs))

-- too much came
too_much : (short : Bool) (bytes : List ℕ) (s t : SourceState) (k l : SinkState) (status : Status) → s.left ≡ Some bytes → k.faults ≡ 0 → l.faults ≡ 0
    → RefusesLength s t k l status
    → IsExpected (Some (Replay short)) bytes status ⊎ (status ≡ Memory)
too_much short bytes s t k l (Limit which line) told z y h =
    let more : 2 ^ 28 < length bytes = omega (arith, given_more bytes h.came.came t.left (sym told ∙ h.came.given), h.came.more) in
    let kind : which ≡ Text = h.refuses.same_kind in
    let first : line ≡ 0 = h.refuses.same_line in
    inl (inl (more, λ i. Limit (kind i) (first i)))
too_much short bytes s t k l WriteFault told z y h = never_fails k l _ z y h.refuses
too_much short bytes s t k l Done told z y h = absurd h.refuses
too_much short bytes s t k l Words told z y h = absurd h.refuses
too_much short bytes s t k l ReadFault told z y h = absurd h.refuses
too_much short bytes s t k l LinkFault told z y h = absurd h.refuses
too_much short bytes s t k l Memory told z y h = absurd h.refuses
too_much short bytes s t k l (Input line reason) told z y h = absurd h.refuses

-- a text that came or came in part
whole_or_not : (short : Bool) (bytes : List ℕ) (s t : SourceState) (k l : SinkState) (status : Status) → s.left ≡ Some bytes → k.faults ≡ 0 → l.faults ≡ 0
    → RefusesLength s t k l status ⊎ Performed short s t k l status → IsExpected (Some (Replay short)) bytes status ⊎ (status ≡ Memory)
whole_or_not short bytes s t k l status told z y (inl h) = too_much short bytes s t k l status told z y h
whole_or_not short bytes s t k l status told z y (inr h) = performs short bytes s t k l status told z y h

pub infallible_answer : (form : Option Form) (bytes : List ℕ) (s t : SourceState) (k l : SinkState) (status : Status) → s.left ≡ Some bytes → s.faults ≡ 0
    → t.faults ≡ 0 → k.faults ≡ 0 → l.faults ≡ 0
    → AnswersForm form s t k l status → IsExpected form bytes status ⊎ (status ≡ Memory)
infallible_answer None bytes s t k l Words told a b z y h = inl refl
infallible_answer None bytes s t k l WriteFault told a b z y h = never_fails k l _ z y h
infallible_answer None bytes s t k l Done told a b z y h = absurd h
infallible_answer None bytes s t k l (Input line reason) told a b z y h = absurd h
infallible_answer None bytes s t k l ReadFault told a b z y h = absurd h
infallible_answer None bytes s t k l LinkFault told a b z y h = absurd h
infallible_answer None bytes s t k l Memory told a b z y h = absurd h
infallible_answer None bytes s t k l (Limit which line) told a b z y h = absurd h
infallible_answer (Some (Replay short)) bytes s t k l ReadFault told a b z y h = absurd (never_rose t.faults b (subst (λ (n : ℕ). Rose n t.faults) a h.rose))
infallible_answer (Some (Replay short)) bytes s t k l Memory told a b z y h = inr refl
infallible_answer (Some (Replay short)) bytes s t k l Done told a b z y h = whole_or_not short bytes s t k l Done told z y h
infallible_answer (Some (Replay short)) bytes s t k l Words told a b z y h = whole_or_not short bytes s t k l Words told z y h
infallible_answer (Some (Replay short)) bytes s t k l WriteFault told a b z y h = whole_or_not short bytes s t k l WriteFault told z y h
infallible_answer (Some (Replay short)) bytes s t k l LinkFault told a b z y h = whole_or_not short bytes s t k l LinkFault told z y h
infallible_answer (Some (Replay short)) bytes s t k l (Input line reason) told a b z y h = whole_or_not short bytes s t k l (Input line reason) told z y h
infallible_answer (Some (Replay short)) bytes s t k l (Limit which line) told a b z y h = whole_or_not short bytes s t k l (Limit which line) told z y h
