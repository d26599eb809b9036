-- What a decoder's answer says of the bytes.
use Rattle.std.proofs.Common.{◌≡◌, ◌⊎◌, inl, inr, ℕ, List, Option, None, Some, Result, Ok, Err, IsOk, refl, sym, ap, ◌∙◌}
use Rattle.std.specs.Prelude.{IfOk}
use Rattle.us_wire.specs.Fields.{AreBytes}
use Rattle.us_wire.specs.Whole.{IsFrameCodec}
use Rattle.us_fields.specs.declared.fault.DecodeFault.{DecodeFault}
use Rattle.us_fields.specs.declared.fault.DecodeFault.TheVariants as fault
use Rattle.us_fields.specs.DecodeResult.{Tells}

abbrev some : {A : Type 0} → A → Option A
some x = Some x

none_some : {A : Type 0} (o : Option A) (x : A) → o ≡ None → o ≡ Some x → ⊥
none_some o x e f = cc

some_is : {A : Type 0} (o : Option A) (x y : A) → o ≡ Some x → o ≡ Some y → x ≡ y
some_is o x y e f = let both : some x ≡ some y = sym e ∙ f in cc

pub decoded : {A : Type 0} (read : Option A) (r : Result A DecodeFault) → Tells r read → IfOk r (λ a. read ≡ Some a)
decoded read (Ok a) t = t
decoded read (Err e) t = tt

pub malformed : {A : Type 0} (read : Option A) (r : Result A DecodeFault) → Tells r read → r ≡ Err fault.Malformed → read ≡ None
malformed read (Ok a) t e = absurd (cc)
malformed read (Err fault.Malformed) t e = t
malformed read (Err fault.Memory) t e = absurd (cc)

pub refused : {A : Type 0} (read : Option A) (r : Result A DecodeFault) → Tells r read → read ≡ None → IsOk r → ⊥
refused read (Ok a) t e ok = none_some read a e t
refused read (Err f) t e ok = absurd (cc)

pub is_encoding : {A : Type 0} (F : A → Type 0) (s : A → List ℕ) (of : List ℕ → Option A) (frame : List ℕ) → IsFrameCodec F s of → AreBytes frame → (r : Result A DecodeFault) → Tells r (of frame) → IfOk r (λ a. (frame ≡ s a) × F a)
is_encoding F s of frame law are (Ok a) t = law.found frame a are t
is_encoding F s of frame law are (Err f) t = tt

pub no_encoding : {A : Type 0} (F : A → Type 0) (s : A → List ℕ) (of : List ℕ → Option A) (frame : List ℕ) → IsFrameCodec F s of → (r : Result A DecodeFault) → Tells r (of frame) → r ≡ Err fault.Malformed → (a : A) → F a → frame ≡ s a → ⊥
no_encoding F s of frame law r t e a fits is = none_some (of frame) a (malformed (of frame) r t e) (ap of is ∙ law.again a fits)

pub encoding_is_read : {A : Type 0} (F : A → Type 0) (s : A → List ℕ) (of : List ℕ → Option A) (frame : List ℕ) → IsFrameCodec F s of → (r : Result A DecodeFault) → Tells r (of frame) → (a : A) → F a → frame ≡ s a
    → (r ≡ Ok a) ⊎ (r ≡ Err fault.Memory)
encoding_is_read F s of frame law (Ok b) t a fits is = inl (ap (λ c. Ok c) (some_is (of frame) b a t (ap of is ∙ law.again a fits)))
encoding_is_read F s of frame law (Err fault.Malformed) t a fits is = absurd (none_some (of frame) a t (ap of is ∙ law.again a fits))
encoding_is_read F s of frame law (Err fault.Memory) t a fits is = inr refl
