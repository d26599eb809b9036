-- Whatever is done to a reader, its frames are those of the whole stream.
use Rattle.std.proofs.Common.{◌≡◌, ℕ, zero, suc, ◌+◌, ◌<◌, Bool, true, false, List, [], ◌∷◌, ◌++◌, length, drop, refl, sym, ap, subst, ◌∙◌, append_assoc, arith, inl, inr, ◌⊎◌}
use Rattle.std.specs.List.{AllByRecursion}
use Rattle.std.proofs.lemmas.List.{append-nil, drop_at, length-append}
use Rattle.us_wire.specs.Frames.{Reader, Frames, frames_of, fed, stops, in_front, IsFrame, IsPartial, HasBadLength}
use Rattle.us_wire.specs.declared.frames.Next.{Next}
use Rattle.us_wire.specs.declared.frames.Next.TheVariants as next
use Rattle.us_wire.specs.Answers.{Answers}
use Rattle.us_wire.specs.Runs.{answer_of, Action, feeds, polls, Answer, frame, not_yet, bad_length, first_of, next_of, after, answers, reader_after, frames_in, stream_of, fresh, joined, Ends, AreFrames, StreamsHaveFrames, PiecesDoNotMatter}
use Rattle.us_wire.proofs.Fronts.{at_partial, at_bad, at_frame, stays_bad, frame_is_long, FirstFrame, first_frame, partial, bad, whole}

-- frames in front of others
abbrev pub behind : List (List ℕ) → Frames → Frames
behind front fs = record { whole = front ++ fs.whole; rest = fs.rest; bad = fs.bad }

-- however the stream goes on, its frames are those that were given and then those of the unread stream
pub record Continues (limit : ℕ) (stream : List ℕ) (given : List (List ℕ)) (unread : List ℕ) : Type 0 where
  pub goes : (more : List ℕ) → frames_of limit (stream ++ more) ≡ behind given (frames_of limit (unread ++ more))

next_at : (r : Reader) (fs : Frames) → frames_of r.limit r.unread ≡ fs → next_of r ≡ first_of fs.whole fs.bad
next_at r fs e = ap (λ (x : Frames). first_of x.whole x.bad) e

-- the state of a run
record Run (limit : ℕ) (stream : List ℕ) (given : List (List ℕ)) (r : Reader) : Type 0 where
  pub limit_is : r.limit ≡ limit
  pub on : Continues limit stream given r.unread

run_feed : (limit : ℕ) (stream : List ℕ) (given : List (List ℕ)) (r : Reader) (piece : List ℕ) → Run limit stream given r → Run limit (stream ++ piece) given (fed r piece)
run_feed limit stream given r piece run = record {
  limit_is = run.limit_is;
  on = record { goes = λ more. ap (frames_of limit) (append_assoc stream piece more) ∙ run.on.goes (piece ++ more) ∙ ap (λ (xs : List ℕ). behind given (frames_of limit xs)) (sym (append_assoc r.unread piece more)) };
}

run_frame : (limit : ℕ) (stream : List ℕ) (given : List (List ℕ)) (r : Reader) (bytes rest : List ℕ) → Run limit stream given r → r.unread ≡ bytes ++ rest → IsFrame limit bytes → Run limit stream (given ++ bytes ∷ []) (after (frame bytes) r)
run_frame limit stream given r bytes rest run parts is =
    let left : drop (length bytes) r.unread ≡ rest = ap (drop (length bytes)) parts ∙ drop_at bytes rest (length bytes) refl in
    record {
      limit_is = run.limit_is;
      on = record {
        goes = λ more.
            let one : frames_of limit (r.unread ++ more) ≡ in_front bytes (frames_of limit (rest ++ more)) =
            ap (frames_of limit) (ap (λ (xs : List ℕ). xs ++ more) parts ∙ append_assoc bytes rest more) ∙ at_frame limit bytes (rest ++ more) is in
            run.on.goes more ∙ ap (behind given) one ∙ ap (λ (ws : List (List ℕ)). record { whole = ws; rest = (frames_of limit (rest ++ more)).rest; bad = (frames_of limit (rest ++ more)).bad }) (sym (append_assoc given (bytes ∷ []) (frames_of limit (rest ++ more)).whole))
            ∙ ap (λ (xs : List ℕ). behind (given ++ bytes ∷ []) (frames_of limit (xs ++ more))) (sym left);
      };
    }

first_of_nothing : (r : Reader) → IsPartial r.limit r.unread → next_of r ≡ not_yet
first_of_nothing r p = next_at r (stops r.unread false) (at_partial r.limit r.unread p)

first_of_bad : (r : Reader) → HasBadLength r.limit r.unread → next_of r ≡ bad_length
first_of_bad r b = next_at r (stops r.unread true) (at_bad r.limit r.unread b)

first_of_frame : (r : Reader) (bytes rest : List ℕ) → r.unread ≡ bytes ++ rest → IsFrame r.limit bytes → next_of r ≡ frame bytes
first_of_frame r bytes rest parts is = next_at r (in_front bytes (frames_of r.limit rest)) (ap (frames_of r.limit) parts ∙ at_frame r.limit bytes rest is)

-- one frame is asked for, and then the other actions come
asked : (limit : ℕ) (actions : List Action) (stream : List ℕ) (given : List (List ℕ)) (r : Reader) → FirstFrame r.limit r.unread → Run limit stream given r
    → ((given' : List (List ℕ)) (r' : Reader) → Run limit stream given' r' → Run limit (stream ++ stream_of actions) (given' ++ frames_in (answers r' actions)) (reader_after r' actions))
    → Run limit (stream ++ stream_of actions) (given ++ frames_in (next_of r ∷ answers (after (next_of r) r) actions)) (reader_after (after (next_of r) r) actions)
asked limit actions stream given r (partial p) run go_on =
    let P : Answer → Type 0 = λ a. Run limit (stream ++ stream_of actions) (given ++ frames_in (a ∷ answers (after a r) actions)) (reader_after (after a r) actions) in
    subst P (sym (first_of_nothing r p)) (go_on given r run)
asked limit actions stream given r (bad b) run go_on =
    let P : Answer → Type 0 = λ a. Run limit (stream ++ stream_of actions) (given ++ frames_in (a ∷ answers (after a r) actions)) (reader_after (after a r) actions) in
    subst P (sym (first_of_bad r b)) (go_on given r run)
asked limit actions stream given r (whole bytes rest parts is) run go_on =
    let P : Answer → Type 0 = λ a. Run limit (stream ++ stream_of actions) (given ++ frames_in (a ∷ answers (after a r) actions)) (reader_after (after a r) actions) in
    let is' : IsFrame limit bytes = subst (λ (n : ℕ). IsFrame n bytes) run.limit_is is in
    let next = go_on (given ++ bytes ∷ []) (after (frame bytes) r) (run_frame limit stream given r bytes rest run parts is') in
    subst P (sym (first_of_frame r bytes rest parts is))
    (subst (λ (fs : List (List ℕ)). Run limit (stream ++ stream_of actions) fs (reader_after (after (frame bytes) r) actions)) (append_assoc given (bytes ∷ []) (frames_in (answers (after (frame bytes) r) actions))) next)

-- whatever is done
runs : (limit : ℕ) (actions : List Action) (stream : List ℕ) (given : List (List ℕ)) (r : Reader) → Run limit stream given r → Run limit (stream ++ stream_of actions) (given ++ frames_in (answers r actions)) (reader_after r actions)
runs limit [] stream given r run =
    subst (λ (xs : List ℕ). Run limit xs (given ++ []) r) (sym (append-nil stream)) (subst (λ (fs : List (List ℕ)). Run limit stream fs r) (sym (append-nil given)) run)
runs limit (feeds piece ∷ actions) stream given r run =
    subst (λ (xs : List ℕ). Run limit xs (given ++ frames_in (answers (fed r piece) actions)) (reader_after (fed r piece) actions)) (append_assoc stream piece (stream_of actions))
    (runs limit actions (stream ++ piece) given (fed r piece) (run_feed limit stream given r piece run))
runs limit (polls ∷ actions) stream given r run = asked limit actions stream given r (first_frame r.limit r.unread) run (λ given' r'. runs limit actions stream given' r')

begun : (limit : ℕ) → Run limit [] [] (fresh limit)
begun limit = record { limit_is = refl; on = record { goes = λ more. refl } }

-- the frames of the whole stream
run_whole : (limit : ℕ) (stream : List ℕ) (given : List (List ℕ)) (r : Reader) → Run limit stream given r → frames_of limit stream ≡ behind given (frames_of r.limit r.unread)
run_whole limit stream given r run =
    let e : frames_of limit stream ≡ behind given (frames_of limit r.unread) =
    ap (frames_of limit) (sym (append-nil stream)) ∙ run.on.goes [] ∙ ap (λ (xs : List ℕ). behind given (frames_of limit xs)) (append-nil r.unread) in
    e ∙ ap (λ (n : ℕ). behind given (frames_of n r.unread)) (sym run.limit_is)

whole_of_run : (limit : ℕ) (actions : List Action) → frames_of limit (stream_of actions) ≡ behind (frames_in (answers (fresh limit) actions)) (frames_of (reader_after (fresh limit) actions).limit (reader_after (fresh limit) actions).unread)
whole_of_run limit actions = run_whole limit (stream_of actions) (frames_in (answers (fresh limit) actions)) (reader_after (fresh limit) actions) (runs limit actions [] [] (fresh limit) (begun limit))

none_not_yet : (ws : List (List ℕ)) (b : Bool) → first_of ws b ≡ not_yet → ws ≡ []
none_not_yet [] b e = refl
none_not_yet (w ∷ ws) b e = absurd cc

none_bad : (ws : List (List ℕ)) (b : Bool) → first_of ws b ≡ bad_length → ws ≡ []
none_bad [] b e = refl
none_bad (w ∷ ws) b e = absurd cc

none_left : (r : Reader) → (next_of r ≡ not_yet) ⊎ (next_of r ≡ bad_length) → (frames_of r.limit r.unread).whole ≡ []
none_left r (inl e) = none_not_yet (frames_of r.limit r.unread).whole (frames_of r.limit r.unread).bad e
none_left r (inr e) = none_bad (frames_of r.limit r.unread).whole (frames_of r.limit r.unread).bad e

-- ---- a bad length field

is_bad_at : (r : Reader) → FirstFrame r.limit r.unread → next_of r ≡ bad_length → HasBadLength r.limit r.unread
is_bad_at r (partial p) e = absurd (let clash : not_yet ≡ bad_length = sym (first_of_nothing r p) ∙ e in cc)
is_bad_at r (bad b) e = b
is_bad_at r (whole bytes rest parts is) e = absurd (let clash : frame bytes ≡ bad_length = sym (first_of_frame r bytes rest parts is) ∙ e in cc)

bad_for_good : (r : Reader) (actions : List Action) → HasBadLength r.limit r.unread → AllByRecursion (λ answer. answer ≡ bad_length) (answers r actions) × (next_of (reader_after r actions) ≡ bad_length)
bad_for_good r [] b = (tt, first_of_bad r b)
bad_for_good r (feeds piece ∷ actions) b = bad_for_good (fed r piece) actions (stays_bad r.limit r.unread piece b)
bad_for_good r (polls ∷ actions) b =
    let e = first_of_bad r b in
    let more = bad_for_good r actions b in
    subst (λ (a : Answer). AllByRecursion (λ answer. answer ≡ bad_length) (a ∷ answers (after a r) actions) × (next_of (reader_after (after a r) actions) ≡ bad_length)) (sym e) ((refl, more.0), more.1)

pub pieces_do_not_matter : PiecesDoNotMatter
pieces_do_not_matter = record {
  front = λ limit actions. record { others = (frames_of (reader_after (fresh limit) actions).limit (reader_after (fresh limit) actions).unread).whole; whole = ap (λ (fs : Frames). fs.whole) (whole_of_run limit actions) };
  all = λ limit actions stop.
      let r = reader_after (fresh limit) actions in
      let given = frames_in (answers (fresh limit) actions) in
      ap (λ (fs : Frames). fs.whole) (whole_of_run limit actions) ∙ ap (λ (ws : List (List ℕ)). given ++ ws) (none_left r stop) ∙ append-nil given;
  for_good = λ r actions e. bad_for_good r actions (is_bad_at r (first_frame r.limit r.unread) e);
}

-- ---- each stream has its frames and no others

are_stopped : (limit : ℕ) (stream : List ℕ) (is_bad : Bool) → Ends limit stream is_bad → frames_of limit stream ≡ stops stream is_bad → AreFrames limit stream (frames_of limit stream)
are_stopped limit stream is_bad ends e =
    subst (λ (fs : Frames). AreFrames limit stream fs) (sym e) (record { parts = refl; each = tt; ends = ends })

are_one_more : (limit : ℕ) (stream bytes rest : List ℕ) (fs : Frames) → stream ≡ bytes ++ rest → IsFrame limit bytes → AreFrames limit rest fs → AreFrames limit stream (in_front bytes fs)
are_one_more limit stream bytes rest fs parts is others = record {
  parts = parts ∙ ap (λ (xs : List ℕ). bytes ++ xs) others.parts ∙ sym (append_assoc bytes (joined fs.whole) fs.rest);
  each = (is, others.each);
  ends = others.ends;
}

found_at : (limit : ℕ) (stream : List ℕ) → FirstFrame limit stream → ((rest : List ℕ) → length rest < length stream → AreFrames limit rest (frames_of limit rest)) → AreFrames limit stream (frames_of limit stream)
found_at limit stream (partial p) shorter = are_stopped limit stream false p (at_partial limit stream p)
found_at limit stream (bad b) shorter = are_stopped limit stream true b (at_bad limit stream b)
found_at limit stream (whole bytes rest parts is) shorter =
    let lengths : length stream ≡ length bytes + length rest = ap length parts ∙ length-append bytes rest in
    let others = shorter rest (omega (arith, frame_is_long limit bytes is, lengths)) in
    let e : frames_of limit stream ≡ in_front bytes (frames_of limit rest) = ap (frames_of limit) parts ∙ at_frame limit bytes rest is in
    subst (λ (fs : Frames). AreFrames limit stream fs) (sym e) (are_one_more limit stream bytes rest (frames_of limit rest) parts is others)

found_within : (n limit : ℕ) (stream : List ℕ) → length stream < n → AreFrames limit stream (frames_of limit stream)
found_within zero limit stream short = absurd (omega arith)
found_within (suc n) limit stream short = found_at limit stream (first_frame limit stream) (λ rest shorter. found_within n limit rest (omega arith))

only_these : (limit : ℕ) (ws : List (List ℕ)) (rest : List ℕ) (is_bad : Bool) → AllByRecursion (IsFrame limit) ws → Ends limit rest is_bad → behind ws (stops rest is_bad) ≡ frames_of limit (joined ws ++ rest)
only_these limit [] rest false each ends = sym (at_partial limit rest ends)
only_these limit [] rest true each ends = sym (at_bad limit rest ends)
only_these limit (w ∷ ws) rest is_bad each ends =
    ap (in_front w) (only_these limit ws rest is_bad each.1 ends) ∙ sym (at_frame limit w (joined ws ++ rest) each.0) ∙ ap (frames_of limit) (sym (append_assoc w (joined ws) rest))

pub streams_have_frames : StreamsHaveFrames
streams_have_frames = record {
  found = λ limit stream. found_within (suc (length stream)) limit stream (omega arith);
  only = λ limit stream frames are. ap (λ (ws : List (List ℕ)). record { whole = ws; rest = frames.rest; bad = frames.bad }) (sym (append-nil frames.whole)) ∙ only_these limit frames.whole frames.rest frames.bad are.each are.ends ∙ ap (frames_of limit) (sym are.parts);
}

-- ---- what a reader answers is the run's

pub answers_as_run : (next : Next) (old new : Reader) → Answers next old new → (answer_of next ≡ next_of old) × (new ≡ after (answer_of next) old)
answers_as_run (next.Frame bytes) old new a =
    let left : new.unread ≡ drop (length bytes) old.unread = sym (ap (drop (length bytes)) a.unread ∙ drop_at bytes new.unread (length bytes) refl) in
    (sym (next_at old (in_front bytes (frames_of new.limit new.unread)) a.frames), λ i. record { limit = a.limit i; unread = left i })
answers_as_run next.NotYet old new a = (sym (next_at old (stops old.unread false) a.frames), a.same)
answers_as_run next.BadLength old new a = (sym (next_at old (stops old.unread true) a.frames), a.same)
