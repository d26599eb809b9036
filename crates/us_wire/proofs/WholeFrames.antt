-- A whole frame is what its fields are.
use Rattle.std.proofs.Common.{◌≡◌, ℕ, zero, suc, ◌+◌, ◌^◌, ◌<◌, ◌≤◌, ◌==◌, Bool, true, false, cond, List, [], ◌∷◌, ◌++◌, length, drop, Option, Some, None, refl, sym, ap, subst, ◌∙◌, arith, append-nil, append_assoc, length-append}
use Rattle.std.specs.Int.{w8, w32, byte_len, to_be_bytes}
use Rattle.std.proofs.lemmas.Bool.{eqb-true, eq-eqb, cond-true}
use Rattle.std.proofs.lemmas.List.{drop_at}
use Rattle.std.proofs.Math.Seq.{drop-length}
use Rattle.us_wire.specs.Fields.{StandsAt, AreBytes, number_at, ReadsNumbers}
use Rattle.us_wire.specs.Decoders.{Decoder, and_then, number_between_at, IsCodec, IsCodecWithin}
use Rattle.us_wire.specs.Whole.{frame_encoding, tag_at, sized, opened, ending, frame_of, IsFrameCodec, IsShort}
use Rattle.us_wire.proofs.Encoded.{Stands-then, Stands-first, some, wide32, reads_numbers}
use Rattle.us_wire.proofs.Combined.{on, reads, reads_then, reads_byte, refit, found_one, Stands-nothing}

-- a version, a tag and fields that depend on it
abbrev pub tagged_at : {A : Type 0} → (ℕ → Decoder A) → Decoder A
tagged_at fields input at = and_then (number_between_at w8 1 1 input at) (λ version at'. and_then (number_between_at w8 0 255 input at') (λ tag next. fields tag input next))

-- the version, the tag and the fields
pub reads_tagged : {A : Type 0} (tag : A → ℕ) (F : A → Type 0) (s : A → List ℕ) (fields : ℕ → Decoder A) → ((a : A) → tag a ≤ 255) → ((n : ℕ) → IsCodecWithin (λ a. (tag a ≡ n) × F a) s (fields n))
    → IsCodec F (λ a. 1 ∷ tag a ∷ s a) (tagged_at fields)
reads_tagged {A = A} tag F s fields small law =
    let IsTag : ℕ → Type 0 = λ n. (0 ≤ n) × (n ≤ 255) in
    let IsVersion : ℕ → Type 0 = λ n. (1 ≤ n) × (n ≤ 1) in
    let behind : Decoder A = λ input at. and_then (number_between_at w8 0 255 input at) (λ n next. fields n input next) in
    let body : IsCodec (λ a. IsTag (tag a) × F a) (λ a. (tag a ∷ []) ++ s a) behind =
    reads_then IsTag (λ n. n ∷ []) (number_between_at w8 0 255) tag F s fields (reads_byte 0 255 (omega arith)) (λ n f. law n) in
    let turned : (v : ℕ) → IsVersion v → IsCodec (λ a. (1 ≡ v) × F a) (λ a. tag a ∷ s a) behind = λ v is. refit _ _ _ _ behind body
    (λ a f. (omega (arith, is.0, is.1), f.1)) (λ a f. ((omega arith, small a), f.1)) (λ a f. refl) in
    let whole : IsCodec (λ a. IsVersion 1 × F a) (λ a. (1 ∷ []) ++ (tag a ∷ s a)) (tagged_at fields) =
    reads_then IsVersion (λ n. n ∷ []) (number_between_at w8 1 1) (λ a. 1) F (λ a. tag a ∷ s a) (λ v. behind) (reads_byte 1 1 (omega arith)) (λ v is. on _ _ _ (turned v is)) in
    refit _ F _ (λ a. 1 ∷ tag a ∷ s a) (tagged_at fields) whole (λ a f. f.1) (λ a f. ((omega arith, omega arith), f)) (λ a f. refl)

-- what stands at the front and reaches to the end is all
stands_whole : (text frame : List ℕ) (next : ℕ) → next ≡ length frame → StandsAt text frame 0 next → frame ≡ text
stands_whole text frame next e s = s.parts ∙ ap (λ (k : ℕ). text ++ drop k frame) e ∙ ap (λ (w : List ℕ). text ++ w) (drop-length frame) ∙ append-nil text

-- what begins a text stands at its front
stands_front : (text rest : List ℕ) → StandsAt text (text ++ rest) 0 (length text)
stands_front text rest = record {
  parts = ap (λ (w : List ℕ). text ++ w) (sym (drop_at text rest (length text) refl));
  next_is = omega arith;
  within = omega (arith, length-append text rest);
}

guarded : {A : Type 0} (b : Bool) (x : Option A) (y : A) → cond b x None ≡ Some y → (b ≡ true) × (x ≡ Some y)
guarded true x y e = (refl, e)
guarded false x y e = absurd (cc)

-- a frame's encoding begins with its length field, and the fields stand behind that
front_of_frame : (tag : ℕ) (fields x : List ℕ) → StandsAt (to_be_bytes w32 (length fields + 2)) (frame_encoding tag fields ++ x) 0 4 × StandsAt (1 ∷ tag ∷ fields) (frame_encoding tag fields ++ x) 4 (6 + length fields)
front_of_frame tag fields x =
    let whole = stands_front (frame_encoding tag fields) x in
    let parts = Stands-first (to_be_bytes w32 (length fields + 2)) (1 ∷ tag ∷ fields) (frame_encoding tag fields ++ x) 0 (length (frame_encoding tag fields)) whole in
    let end : length (frame_encoding tag fields) ≡ 6 + length fields = omega arith in
    (parts.0, subst (λ (k : ℕ). StandsAt (1 ∷ tag ∷ fields) (frame_encoding tag fields ++ x) 4 k) end parts.1)

pub reads_frames : {A : Type 0} (tag : A → ℕ) (F G : A → Type 0) (s : A → List ℕ) (fields : ℕ → Decoder A) → IsCodec F (λ a. 1 ∷ tag a ∷ s a) (tagged_at fields)
    → ((a : A) → IsShort (s a) → F a → G a) → ((a : A) → G a → F a × IsShort (s a)) → IsFrameCodec G (λ a. frame_encoding (tag a) (s a)) (frame_of fields)
unfolding frame_of opened
reads_frames {A = A} tag F G s fields law to back = record {
  found = λ frame a are e. on_length frame a are (number_at w32 frame 0) refl (sym (regrouped frame (number_at w32 frame 0)) ∙ e);
  again = λ a fits.
      let f = back a fits in
      let frame = frame_encoding (tag a) (s a) in
      let front = front_of_frame (tag a) (s a) [] in
      let same : frame ++ [] ≡ frame = append-nil frame in
      let length_field = subst (λ (w : List ℕ). StandsAt (to_be_bytes w32 (length (s a) + 2)) w 0 4) same front.0 in
      let rest = subst (λ (w : List ℕ). StandsAt (1 ∷ tag a ∷ s a) w 4 (6 + length (s a))) same front.1 in
      let n : number_at w32 frame 0 ≡ Some (length (s a) + 2, 4) = numbers.again frame 0 (length (s a) + 2) 4 (omega (arith, f.1.short)) length_field in
      let all : 4 + (length (s a) + 2) ≡ length frame = omega arith in
      let end : 6 + length (s a) ≡ length frame = omega arith in
      regrouped frame (number_at w32 frame 0) ∙ ap (sized frame (λ at. ending frame (tagged_at fields frame at))) n ∙ cond-true _ _ _ (eq-eqb _ _ all) ∙ ap (ending frame) (law.again frame 4 a (6 + length (s a)) f.0 rest) ∙ cond-true _ _ _ (eq-eqb _ _ end);
  none_begins_another = λ a b x y f g e.
      let p = front_of_frame (tag a) (s a) x in
      let q = front_of_frame (tag b) (s b) y in
      let input = frame_encoding (tag a) (s a) ++ x in
      let there : StandsAt (1 ∷ tag b ∷ s b) input 4 (6 + length (s b)) = subst (λ (w : List ℕ). StandsAt (1 ∷ tag b ∷ s b) w 4 (6 + length (s b))) (sym e) q.1 in
      let one = found_one a b (6 + length (s a)) (6 + length (s b)) (sym (law.again input 4 a (6 + length (s a)) (back a f).0 p.1) ∙ law.again input 4 b (6 + length (s b)) (back b g).0 there) in
      let long : length (frame_encoding (tag a) (s a)) ≡ 6 + length (s a) = omega arith in
      let long' : length (frame_encoding (tag b) (s b)) ≡ 6 + length (s a) = omega (arith, one.1) in
      (one.0, sym (drop_at (frame_encoding (tag a) (s a)) x (6 + length (s a)) long) ∙ ap (drop (6 + length (s a))) e ∙ drop_at (frame_encoding (tag b) (s b)) y (6 + length (s a)) long');
}
  where
    numbers : ReadsNumbers w32
    numbers = reads_numbers w32 wide32

    some_is : (x y : A) → ◌≡◌ {A = Option A} (Some x) (Some y) → x ≡ y
    some_is x y e = cc

    at_end : (frame : List ℕ) (a : A) → AreBytes frame → (rest : ℕ) → StandsAt (to_be_bytes w32 rest) frame 0 4 → rest < 2 ^ 32 → 4 + rest ≡ length frame → (o : Option (A × ℕ)) → tagged_at fields frame 4 ≡ o → ending frame o ≡ Some a
        → (frame ≡ frame_encoding (tag a) (s a)) × G a
    at_end frame a are rest front few all None is e = absurd (cc)
    at_end frame a are rest front few all (Some (c, next)) is e =
        let g = guarded (next == length frame) (Some c) a e in
        let same : c ≡ a = some_is c a g.1 in
        let end : next ≡ length frame = eqb-true next (length frame) g.0 in
        let f = law.found frame 4 c next are is in
        let long : rest ≡ length (s c) + 2 = omega (arith, f.0.next_is) in
        let whole = Stands-then (to_be_bytes w32 rest) (1 ∷ tag c ∷ s c) frame 0 4 next front f.0 in
        let encoded : frame ≡ frame_encoding (tag c) (s c) = stands_whole _ frame next end whole ∙ ap (λ (k : ℕ). to_be_bytes w32 k ++ (1 ∷ tag c ∷ s c)) long in
        let fits : G c = to c (record { short = omega arith }) f.1 in
        subst (λ (d : A). (frame ≡ frame_encoding (tag d) (s d)) × G d) same (encoded, fits)

    regrouped : (frame : List ℕ) (o : Option (ℕ × ℕ)) → ending frame (and_then (sized frame (λ at. tag_at frame at) o) (λ n at. fields n frame at)) ≡ sized frame (λ at. ending frame (tagged_at fields frame at)) o
    regrouped frame None = refl
    regrouped frame (Some (rest, at)) = tested (at + rest == length frame) (number_between_at w8 1 1 frame at)
      where
        tested : (b : Bool) (o : Option (ℕ × ℕ)) → ending frame (and_then (cond b (and_then o (λ version next. number_between_at w8 0 255 frame next)) None) (λ n at. fields n frame at))
            ≡ cond b (ending frame (and_then o (λ version at'. and_then (number_between_at w8 0 255 frame at') (λ n next. fields n frame next)))) None
        tested true None = refl
        tested true (Some (version, next)) = refl
        tested false o = refl

    on_length : (frame : List ℕ) (a : A) → AreBytes frame → (o : Option (ℕ × ℕ)) → number_at w32 frame 0 ≡ o → sized frame (λ at. ending frame (tagged_at fields frame at)) o ≡ Some a → (frame ≡ frame_encoding (tag a) (s a)) × G a
    on_length frame a are None is e = absurd (cc)
    on_length frame a are (Some (rest, at)) is e =
        let n = numbers.found frame 0 rest at are is in
        let four : at ≡ 4 = omega (arith, n.0.next_is) in
        let g = guarded (at + rest == length frame) (ending frame (tagged_at fields frame at)) a e in
        let all : 4 + rest ≡ length frame = omega (arith, eqb-true (at + rest) (length frame) g.0, four) in
        let front : StandsAt (to_be_bytes w32 rest) frame 0 4 = subst (λ (k : ℕ). StandsAt (to_be_bytes w32 rest) frame 0 k) four n.0 in
        at_end frame a are rest front (omega (arith, n.1)) all (tagged_at fields frame 4) refl (ap (λ (k : ℕ). ending frame (tagged_at fields frame k)) (sym four) ∙ g.1)
