-- Who owns a ballot, and numbers that pass.
use Rattle.std.proofs.Common.{◌≡◌, ⊎_elim, ℕ, zero, suc, ◌+◌, ◌-◌, ◌*◌, ◌/◌, ◌%◌, ◌<◌, ◌≤◌, Bool, true, false, refl, sym, ap, ◌∙◌, arith}
use Rattle.std.specs.Prelude.{if◌then◌else◌}
use Rattle.std.proofs.Math.Nat.{add-mod-mod, mod-eq_of_lt, mod-add-mod, add-mod_right, div-add-mod}
use Rattle.std.proofs.lemmas.Nat.{mod-mul-add, mod_below}
use Rattle.std.proofs.lemmas.Bool.{cases_lt}
use Rattle.us_ballot_model.specs.Ballots.{owner, next_ballot, most}

-- b and up to the next multiple of d, and s - 1 more
turn : (d b s : ℕ) → 0 < d → 1 ≤ s → s ≤ d → (b + (d - 1 + s - b % d) % d) % d ≡ s - 1
turn d b s some first last =
    let r = b % d in
    let q = b / d in
    let low : b % d < d = mod_below b d some in
    let whole : d * (b / d) + b % d ≡ b = div-add-mod b d in
    let m = d - 1 + s - b % d in
    let sum : b + (d - 1 + s - b % d) ≡ d * (b / d) + (d - 1 + s) = omega arith in
    let split : d * (b / d) + (d - 1 + s) ≡ (b / d + 1) * d + (s - 1) = grind arith in
    add-mod-mod b (d - 1 + s - b % d) d ∙ ap (λ x. x % d) (sum ∙ split) ∙ mod-mul-add (b / d + 1) d (s - 1) (omega arith)

pub owner_next : (f s b : ℕ) → 1 ≤ s → s ≤ 2 * f + 1 → owner f (next_ballot f s b) ≡ s
unfolding owner next_ballot
owner_next f s b first last =
    let d = 2 * f + 1 in
    let t = turn d b s (omega arith) first last in
    let less : 2 * f + s ≡ d - 1 + s = omega arith in
    let shift : b + 1 + (2 * f + s - b % d) % d - 1 ≡ b + (2 * f + s - b % d) % d = omega arith in
    let e : (b + 1 + (2 * f + s - b % d) % d - 1) % d ≡ s - 1 = ap (λ x. x % d) shift ∙ ap (λ x. (b + (x - b % d) % d) % d) less ∙ t in
    omega arith

pub next_above : (f s b : ℕ) → b < next_ballot f s b
unfolding next_ballot
next_above f s b = omega arith

pub most_fits : (p : ℕ → Bool) (n : ℕ) → most p n ≤ n
most_fits p zero = omega arith
most_fits p (suc n) = on (p (suc n)) (most_fits p n)
  where
    on : (b : Bool) → most p n ≤ n → (if b then suc n else most p n) ≤ suc n
    on true l = omega arith
    on false l = omega arith

pub most_passes : (p : ℕ → Bool) (n : ℕ) → 0 < most p n → p (most p n) ≡ true
most_passes p zero l = absurd (omega arith)
most_passes p (suc n) l = on (p (suc n)) refl l (most_passes p n)
  where
    on : (b : Bool) → p (suc n) ≡ b → 0 < (if b then suc n else most p n) → (0 < most p n → p (most p n) ≡ true) → p (if b then suc n else most p n) ≡ true
    on true e l h = e
    on false e l h = h l

-- two numbers less than d apart have different remainders
mod_apart : (d x k : ℕ) → 0 < k → k < d → x % d ≡ (x + k) % d → ⊥
mod_apart d x k some less e = ⊎_elim
    (λ (l : x % d + k < d). let small : (x % d + k) % d ≡ x % d + k = mod-eq_of_lt l in let a = e ∙ sym (mod-add-mod x d k) ∙ small in omega arith)
    (λ (l : d ≤ x % d + k).
    let low : x % d < d = mod_below x d (omega arith) in
    let rest = x % d + k - d in
    let shift : x % d + k ≡ x % d + k - d + d = omega arith in
    let below : x % d + k - d < d = omega arith in
    let small : (x % d + k - d) % d ≡ x % d + k - d = mod-eq_of_lt below in
    let a = e ∙ sym (mod-add-mod x d k) ∙ ap (λ y. y % d) shift ∙ add-mod_right (x % d + k - d) d ∙ small in omega arith)
    (cases_lt (x % d + k) d)

pub next_least : (f s b c : ℕ) → 1 ≤ s → s ≤ 2 * f + 1 → b < c → c < next_ballot f s b → owner f c ≡ s → ⊥
unfolding owner next_ballot
next_least f s b c first last above below own =
    let d = 2 * f + 1 in
    let t = (2 * f + s - b % d) % d in
    let low : (2 * f + s - b % (2 * f + 1)) % (2 * f + 1) < 2 * f + 1 = mod_below (2 * f + s - b % d) d (omega arith) in
    let k = b + 1 + t - c in
    let e = owner_next f s b first last in
    let place : c - 1 + (b + 1 + (2 * f + s - b % (2 * f + 1)) % (2 * f + 1) - c) ≡ b + 1 + (2 * f + s - b % (2 * f + 1)) % (2 * f + 1) - 1 = omega arith in
    let same : (c - 1) % d ≡ (b + 1 + (2 * f + s - b % (2 * f + 1)) % (2 * f + 1) - 1) % d = omega arith in
    mod_apart d (c - 1) k (omega arith) (omega arith) (same ∙ ap (λ y. y % d) (sym place))
