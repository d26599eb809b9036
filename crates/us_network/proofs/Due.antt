-- The least undelivered packet between two sites is the first of their places that isn't delivered.
use Rattle.std.proofs.Common.{◌≡◌, ◌∙◌, ℕ, zero, suc, ◌+◌, ◌<◌, ◌≤◌, List, [], ◌∷◌, map, Bool, true, false, cond}
use Rattle.std.proofs.Common.{Option, Some, None, refl, sym, ap, subst, arith, length}
use Rattle.std.specs.Prelude.{◌&&◌, ◌==◌, not, slice_get, IfSome}
use Rattle.std.proofs.lemmas.Bool.{cond-true, cond-false}
use Rattle.us_model.specs.Worlds.{is_delivered, least_due}
use Rattle.us_index.specs.Places.{places_of}
use Rattle.us_network.specs.declared.sent.Sent.{Sent}
use Rattle.us_network.specs.declared.sent.Pair.{Pair}
use Rattle.us_network.specs.Packets.{packet_of, is_marked_at, number_of, IsLeastDue, pair_of, pair_eq, pairs_of, places_between, is_passed, AllPassed}

-- the first place without a mark
abbrev first_open : (ℕ → Bool) → List ℕ → Option ℕ
first_open m [] = None
first_open m (p ∷ ps) = cond (m p) (first_open m ps) (Some p)

-- it stands behind those that were passed
stops-there : (sent : List Sent) (n : ℕ) (places : List ℕ) → AllPassed sent n places → is_passed sent (slice_get places n) ≡ false
    → first_open (is_marked_at sent) places ≡ slice_get places n
stops-there sent zero [] all stops = refl
stops-there sent zero (p ∷ ps) all stops = cond-false _ _ _ stops
stops-there sent (suc n) [] all stops = absurd all
stops-there sent (suc n) (p ∷ ps) all stops = cond-true _ _ _ all.0 ∙ stops-there sent n ps all.1 stops

-- of the packets behind so many
first-due : (from to : ℕ) (numbers : List ℕ) (m : ℕ → Bool) → ((i : ℕ) → is_delivered numbers (i + 1) ≡ m i) → (k : ℕ) (sent : List Sent)
    → least_due from to numbers (k + 1) (map packet_of sent)
    ≡ number_of (first_open m (places_of (λ q. pair_eq q (record { from = from; to = to })) k (pairs_of sent)))
first-due from to numbers m marks k [] = refl
first-due from to numbers m marks k (s ∷ ss) =
    on (s.packet.from.site == from) (s.packet.to.site == to) (is_delivered numbers (k + 1)) _ _ (marks k) (first-due from to numbers m marks (k + 1) ss)
  where
    on : (a b d : Bool) (rest : Option ℕ) (places : List ℕ) → d ≡ m k → rest ≡ number_of (first_open m places)
        → cond (a && (b && not d)) (Some (k + 1)) rest ≡ number_of (first_open m (cond (a && b) (k ∷ places) places))
    on true true true rest places is e = e ∙ ap number_of (sym (cond-true _ _ _ (sym is)))
    on true true false rest places is e = ap number_of (sym (cond-false _ _ _ (sym is)))
    on true false d rest places is e = e
    on false b d rest places is e = e

pub least_due_is : (from to : ℕ) (sent : List Sent) (places : List ℕ) (n : ℕ) (due : Option ℕ)
    → places ≡ places_between (record { from = from; to = to }) sent → AllPassed sent n places
    → is_passed sent (slice_get places n) ≡ false → due ≡ slice_get places n → IsLeastDue from to sent due
least_due_is from to sent places n due are all stops is numbers marks =
    first-due from to numbers (is_marked_at sent) marks 0 sent
    ∙ ap (λ ps. number_of (first_open (is_marked_at sent) ps)) (sym are)
    ∙ ap number_of (stops-there sent n places all stops ∙ sym is)

-- and it is one of the packets
pub place_within : (q : Pair) (sent : List Sent) (places : List ℕ) (n : ℕ) (due : Option ℕ) → places ≡ places_between q sent → due ≡ slice_get places n
    → IfSome due (λ place. place < length sent)
place_within q sent places n due are is =
    subst (λ (o : Option ℕ). IfSome o (λ place. place < length sent)) (sym (is ∙ ap (λ ps. slice_get ps n) are)) (walk 0 sent n (length sent) (omega arith))
  where
    walk : (k : ℕ) (ss : List Sent) (n end : ℕ) → k + length ss ≤ end
        → IfSome (slice_get (places_of (λ j. pair_eq j q) k (pairs_of ss)) n) (λ place. place < end)
    walk k [] n end h = tt
    walk k (s ∷ ss) n end h = on (pair_eq (pair_of s.packet) q) n (λ m. walk (k + 1) ss m end (omega arith))
      where
        on : (t : Bool) (n : ℕ) → ((m : ℕ) → IfSome (slice_get (places_of (λ j. pair_eq j q) (k + 1) (pairs_of ss)) m) (λ place. place < end))
            → IfSome (slice_get (cond t (k ∷ places_of (λ j. pair_eq j q) (k + 1) (pairs_of ss)) (places_of (λ j. pair_eq j q) (k + 1) (pairs_of ss))) n)
            (λ place. place < end)
        on true zero rest = omega (arith, h)
        on true (suc n) rest = rest n
        on false n rest = rest n
