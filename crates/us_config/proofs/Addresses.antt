-- Ports.
use Rattle.std.proofs.Common.{◌≡◌, ℕ, ◌^◌, ◌<◌, ◌≤◌, Bool, true, false, leb, ltb, not, List, [], ◌∷◌, length, get_or, Result, Ok, Err, refl, sym, inl, inr, arith}
use Rattle.std.specs.Prelude.{◌==◌}
use Rattle.std.specs.Str.{all_ascii_digits}
use Rattle.std.specs.Str.Parse.{digits_value, ParsesUnsigned}
use Rattle.std.proofs.lemmas.Bool.{cases_lt, and_parts, ne_eqb, eq-eqb, le-leb, lt-leb, lt-ltb, le-ltb, leb-true}
use Rattle.std.proofs.lemmas.Str.Parse.{IsNumeralModel, numerals_by_value, tells_all_ascii_digits, parse_plain}
use Rattle.us_config.specs.Address.{is_port}

own : IsNumeralModel (λ ds. all_ascii_digits ds ≡ true) (digits_value 10)
own = numerals_by_value (λ ds. all_ascii_digits ds ≡ true) tells_all_ascii_digits

false_unless : (b : Bool) → (b ≡ true → ⊥) → b ≡ false
false_unless true h = absurd (h refl)
false_unless false h = refl

-- what a call of parse tells of a port
abbrev pub told : {E : Type 0} → Result ℕ E → Bool
told (Ok n) = ltb 0 n
told (Err e) = false

pub port_is : {E : Type 0} (port : List ℕ) (r : Result ℕ E) → (get_or port 0 0 ≡ 43 → ⊥) → (get_or port 0 0 ≡ 48 → ⊥) → (length port == 0) ≡ false → ParsesUnsigned 16 10 port r → told r ≡ is_port port
port_is {E = E} port (Ok n) plus zeros some h =
    let p = parse_plain own {E = E} 16 port (Ok n) h plus in
    let digits : all_ascii_digits port ≡ true = p.0.0 in
    let small : digits_value 10 port < 2 ^ 16 = p.0.2 in
    let is : n ≡ digits_value 10 port = p.1 in
    let z = ne_eqb (get_or port 0 0) 48 zeros in
    let top : leb (digits_value 10 port) 65535 ≡ true = le-leb (digits_value 10 port) 65535 (omega arith) in
    elim (cases_lt 0 n) [
      | inl lt ↦
          let l = lt-ltb 0 n lt in
          let b : leb 1 (digits_value 10 port) ≡ true = le-leb 1 (digits_value 10 port) (omega arith) in
          rw (l, digits, z, b, top) refl
      | inr le ↦
          let l = le-ltb 0 n le in
          let b : leb 1 (digits_value 10 port) ≡ false = lt-leb 1 (digits_value 10 port) (omega arith) in
          rw (l, digits, z, b) refl
    ]
port_is {E = E} port (Err e) plus zeros some h =
    let p = parse_plain own {E = E} 16 port (Err e) h plus in
    let long : 0 < length port = elim (cases_lt 0 (length port)) [ inl lt ↦ lt | inr le ↦ absurd (let t = eq-eqb (length port) 0 (omega arith) in cc) ] in
    sym (false_unless (is_port port) (λ t.
    let a = and_parts (all_ascii_digits port) _ t in
    let b = and_parts (not (get_or port 0 0 == 48)) _ a.1 in
    let c = and_parts (leb 1 (digits_value 10 port)) (leb (digits_value 10 port) 65535) b.1 in
    let top : digits_value 10 port ≤ 65535 = leb-true _ _ c.1 in
    p (a.0, long, omega arith)))
