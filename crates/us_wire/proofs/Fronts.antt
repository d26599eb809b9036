-- What stands at the front of a stream, and how its frames go on when more comes.
use Rattle.std.proofs.Common.{◌≡◌, ℕ, zero, suc, ◌+◌, ◌≤◌, Bool, true, false, cond, ltb, List, [], ◌∷◌, ◌++◌, length, take, drop, refl, sym, ap, ◌∙◌, arith, inl, inr}
use Rattle.std.proofs.lemmas.Bool.{ltb-true, ltb-false, lt-ltb, le-ltb}
use Rattle.std.proofs.lemmas.List.{take-append-le, take-append-drop, take_at, drop_at, length-append, length-take-le, length-drop}
use Rattle.std.specs.Int.{from_be_bytes, w32}
use Rattle.us_wire.specs.Frames.{Frames, length_field, is_bad_length, stops, in_front, frames_within, frames_of, IsFrame, HasBadLength, IsPartial}

-- one frame, and then the frames of what stands behind it
abbrev pub one_step : ℕ → List ℕ → Frames → Frames
one_step limit stream behind =
    cond (ltb (length stream) 4) (stops stream false)
    (cond (is_bad_length limit (length_field stream)) (stops stream true)
    (cond (ltb (length stream) (4 + length_field stream)) (stops stream false)
    (in_front (take (4 + length_field stream) stream) behind)))

-- fuel of the length of the stream or more is enough
pub enough_fuel : (fuel more limit : ℕ) (stream : List ℕ) → length stream ≤ fuel → length stream ≤ more → frames_within fuel limit stream ≡ frames_within more limit stream
enough_fuel zero zero limit stream p q = refl
enough_fuel zero (suc more) limit [] p q = refl
enough_fuel zero (suc more) limit (x ∷ xs) p q = absurd (omega arith)
enough_fuel (suc fuel) zero limit [] p q = refl
enough_fuel (suc fuel) zero limit (x ∷ xs) p q = absurd (omega arith)
enough_fuel (suc fuel) (suc more) limit stream p q =
    let behind = drop (4 + length_field stream) stream in
    let short : length behind ≤ fuel = omega (arith, length-drop (4 + length_field stream) stream) in
    let shorter : length behind ≤ more = omega (arith, length-drop (4 + length_field stream) stream) in
    ap (one_step limit stream) (enough_fuel fuel more limit behind short shorter)

pub frames_of-step : (limit : ℕ) (stream : List ℕ) → frames_of limit stream ≡ one_step limit stream (frames_of limit (drop (4 + length_field stream) stream))
unfolding frames_of
frames_of-step limit [] = refl
frames_of-step limit (x ∷ xs) =
    let stream : List ℕ = x ∷ xs in
    let behind = drop (4 + length_field stream) stream in
    let short : length behind ≤ length xs = omega (arith, length-drop (4 + length_field stream) stream) in
    ap (one_step limit stream) (enough_fuel (length xs) (length behind) limit behind short (omega arith))

-- ---- what stands at the front

pub at_partial : (limit : ℕ) (stream : List ℕ) → IsPartial limit stream → frames_of limit stream ≡ stops stream false
at_partial limit stream (inl short) =
    let t : ltb (length stream) 4 ≡ true = lt-ltb _ _ short in
    frames_of-step limit stream ∙ rw t refl
at_partial limit stream (inr cut) =
    on (ltb (length stream) 4) refl where
      good : is_bad_length limit (length_field stream) ≡ false
      good = cut.good

      on : (b : Bool) → ltb (length stream) 4 ≡ b → frames_of limit stream ≡ stops stream false
      on true e = frames_of-step limit stream ∙ rw e refl
      on false e =
          let t : ltb (length stream) (4 + length_field stream) ≡ true = lt-ltb _ _ cut.cut in
          frames_of-step limit stream ∙ rw (e, cut.good, t) refl

pub at_bad : (limit : ℕ) (stream : List ℕ) → HasBadLength limit stream → frames_of limit stream ≡ stops stream true
at_bad limit stream bad =
    let long : ltb (length stream) 4 ≡ false = le-ltb _ _ bad.field in
    frames_of-step limit stream ∙ rw (long, bad.bad) refl

length_field-append : (front more : List ℕ) → 4 ≤ length front → length_field (front ++ more) ≡ length_field front
length_field-append front more long = ap (from_be_bytes w32) (take-append-le 4 front more long)

pub at_frame : (limit : ℕ) (frame rest : List ℕ) → IsFrame limit frame → frames_of limit (frame ++ rest) ≡ in_front frame (frames_of limit rest)
at_frame limit frame rest is =
    let field : length_field (frame ++ rest) ≡ length_field frame = length_field-append frame rest is.field in
    let long : ltb (length (frame ++ rest)) 4 ≡ false = le-ltb _ _ (omega (arith, is.field, length-append frame rest)) in
    let enough : ltb (length (frame ++ rest)) (4 + length_field frame) ≡ false = le-ltb _ _ (omega (arith, is.whole, length-append frame rest)) in
    frames_of-step limit (frame ++ rest) ∙ rw (long, field, is.good, enough, take_at frame rest (4 + length_field frame) is.whole, drop_at frame rest (4 + length_field frame) is.whole) refl

pub stays_bad : (limit : ℕ) (stream more : List ℕ) → HasBadLength limit stream → HasBadLength limit (stream ++ more)
stays_bad limit stream more bad = record {
  field = omega (arith, bad.field, length-append stream more);
  bad = rw (length_field-append stream more bad.field) bad.bad;
}

-- a frame has six bytes at least
pub frame_is_long : (limit : ℕ) (frame : List ℕ) → IsFrame limit frame → 6 ≤ length frame
frame_is_long limit frame is = on (ltb (length_field frame) 2) refl where
  on : (b : Bool) → ltb (length_field frame) 2 ≡ b → 6 ≤ length frame
  on true e = absurd (let clash : true ≡ false = sym (rw e refl) ∙ is.good in cc)
  on false e = omega (arith, ltb-false _ _ e, is.whole)

-- the front of a stream with a good length field and all that it says
pub frame_at : (limit : ℕ) (stream : List ℕ) → 4 ≤ length stream → is_bad_length limit (length_field stream) ≡ false → 4 + length_field stream ≤ length stream → IsFrame limit (take (4 + length_field stream) stream)
frame_at limit stream long good enough =
    let n = 4 + length_field stream in
    let len : length (take n stream) ≡ n = length-take-le n stream enough in
    let parts : take n stream ++ drop n stream ≡ stream = take-append-drop n stream in
    let field : length_field (take n stream) ≡ length_field stream = sym (length_field-append (take n stream) (drop n stream) (omega (arith, len))) ∙ ap length_field parts in
    record { field = omega (arith, len); good = rw field good; whole = len ∙ ap (λ (k : ℕ). 4 + k) (sym field) }

-- the three ways in which a stream can begin
pub data FirstFrame (limit : ℕ) (stream : List ℕ) : Type 0 where
  partial : IsPartial limit stream → FirstFrame limit stream
  bad : HasBadLength limit stream → FirstFrame limit stream
  whole : (frame rest : List ℕ) → stream ≡ frame ++ rest → IsFrame limit frame → FirstFrame limit stream

pub first_frame : (limit : ℕ) (stream : List ℕ) → FirstFrame limit stream
first_frame limit stream = on (ltb (length stream) 4) refl where
  ends : (good : is_bad_length limit (length_field stream) ≡ false) → 4 ≤ length stream → (b : Bool) → ltb (length stream) (4 + length_field stream) ≡ b → FirstFrame limit stream
  ends good long true e = partial (inr (record { good = good; cut = ltb-true _ _ e }))
  ends good long false e =
      let n = 4 + length_field stream in
      whole (take n stream) (drop n stream) (sym (take-append-drop n stream)) (frame_at limit stream long good (ltb-false _ _ e))

  goes : 4 ≤ length stream → (b : Bool) → is_bad_length limit (length_field stream) ≡ b → FirstFrame limit stream
  goes long true e = bad (record { field = long; bad = e })
  goes long false e = ends e long (ltb (length stream) (4 + length_field stream)) refl

  on : (b : Bool) → ltb (length stream) 4 ≡ b → FirstFrame limit stream
  on true e = partial (inl (ltb-true _ _ e))
  on false e = goes (ltb-false _ _ e) (is_bad_length limit (length_field stream)) refl
