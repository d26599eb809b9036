-- A reader's buffer, and what it answers.
use Rattle.std.proofs.Common.{◌≡◌, ℕ, ◌+◌, ◌-◌, List, ◌++◌, length, take, drop, refl, sym, ap, subst, ◌∙◌, arith}
use Rattle.std.proofs.lemmas.List.{take-append-drop, drop-drop}
use Rattle.std.proofs.lemmas.Slice.{between_to_end}
use Rattle.us_wire.specs.Frames.{Reader, frames_of, IsFrame, HasBadLength, IsPartial, GivesFrame, Waits, Refuses}
use Rattle.us_wire.proofs.Fronts.{at_partial, at_bad, at_frame, frame_is_long}

-- the reader over a buffer whose first bytes were given out
abbrev pub over : ℕ → ℕ → List ℕ → Reader
over limit start bytes = record { limit = limit; unread = drop start bytes }

pub waits : (r : Reader) (limit start : ℕ) (bytes buffer : List ℕ) → buffer ≡ bytes → over limit start bytes ≡ r → IsPartial limit (take (length buffer - start) (drop start buffer)) → Waits r r
waits r limit start bytes buffer is view partial =
    let unread : take (length buffer - start) (drop start buffer) ≡ drop start buffer = between_to_end buffer start (length buffer) (omega arith) in
    let front : IsPartial limit (drop start bytes) = subst (λ (xs : List ℕ). IsPartial limit (drop start xs)) is (rw unread at partial) in
    subst (λ (q : Reader). Waits q q) view (record { partial = front; same = refl; frames = at_partial limit (drop start bytes) front })

pub refuses : (r : Reader) (limit start : ℕ) (bytes buffer : List ℕ) → buffer ≡ bytes → over limit start bytes ≡ r → HasBadLength limit (take (length buffer - start) (drop start buffer)) → Refuses r r
refuses r limit start bytes buffer is view bad =
    let unread : take (length buffer - start) (drop start buffer) ≡ drop start buffer = between_to_end buffer start (length buffer) (omega arith) in
    let front : HasBadLength limit (drop start bytes) = subst (λ (xs : List ℕ). HasBadLength limit (drop start xs)) is (rw unread at bad) in
    subst (λ (q : Reader). Refuses q q) view (record { bad = front; same = refl; frames = at_bad limit (drop start bytes) front })

gives_front : (limit start n : ℕ) (bytes : List ℕ) → IsFrame limit (take n (drop start bytes)) → GivesFrame (take n (drop start bytes)) (over limit start bytes) (over limit (start + n) bytes)
gives_front limit start n bytes is =
    let frame = take n (drop start bytes) in
    let behind : drop n (drop start bytes) ≡ drop (start + n) bytes = drop-drop n start bytes in
    let parts : drop start bytes ≡ frame ++ drop (start + n) bytes = sym (take-append-drop n (drop start bytes)) ∙ ap (λ (xs : List ℕ). frame ++ xs) behind in
    record {
      is_frame = is;
      long = frame_is_long limit frame is;
      limit = refl;
      unread = parts;
      frames = ap (frames_of limit) parts ∙ at_frame limit frame (drop (start + n) bytes) is;
    }

pub gives : (r : Reader) (limit start n : ℕ) (bytes buffer frame : List ℕ) → buffer ≡ bytes → over limit start bytes ≡ r → frame ≡ take n (take (length buffer - start) (drop start buffer)) → IsFrame limit (take n (take (length buffer - start) (drop start buffer)))
    → GivesFrame frame r (over limit (start + n) bytes)
gives r limit start n bytes buffer frame is view taken whole =
    let unread : take (length buffer - start) (drop start buffer) ≡ drop start bytes = between_to_end buffer start (length buffer) (omega arith) ∙ ap (drop start) is in
    let front : IsFrame limit (take n (drop start bytes)) = rw unread at whole in
    let made : frame ≡ take n (drop start bytes) = taken ∙ ap (take n) unread in
    subst (λ (q : Reader). GivesFrame frame q (over limit (start + n) bytes)) view
    (subst (λ (xs : List ℕ). GivesFrame xs (over limit start bytes) (over limit (start + n) bytes)) (sym made) (gives_front limit start n bytes front))
