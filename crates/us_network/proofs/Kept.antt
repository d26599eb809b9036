-- What is kept of the pairs goes along with the packets.
use Rattle.std.proofs.Common.{◌≡◌, ◌∙◌, ℕ, zero, suc, ◌+◌, ◌<◌, List, [], ◌∷◌, ◌++◌, length, Bool, true, false, cond}
use Rattle.std.proofs.Common.{Some, refl, sym, ap, subst, arith, get_or, add-one}
use Rattle.std.proofs.lemmas.Bool.Decides.{nat_tests}
use Rattle.std.specs.Prelude.{◌&&◌, ◌==◌, slice_get, slice_set, slice_index_or}
use Rattle.std.proofs.lemmas.Option.{slice_get-get_or}
use Rattle.std.proofs.lemmas.List.{map-append}
use Rattle.us_peer_wire.specs.declared.message.Packet.{Packet}
use Rattle.us_index.specs.Places.{places_of}
use Rattle.us_network.specs.declared.sent.Sent.{Sent}
use Rattle.us_network.specs.declared.sent.Pair.{Pair}
use Rattle.us_network.specs.declared.fronts.Front.{Front}
use Rattle.us_network.specs.Packets.{packet_of, is_marked_at, IsDelivered, pair_of, pair_eq, pairs_of, places_between, is_passed}
use Rattle.us_network.specs.Packets.{AllPassed, IsFront, AreFronts, IsIndexed}

-- ONE MORE WAS PASSED
pub passed_more : (sent : List Sent) (n : ℕ) (places : List ℕ) → AllPassed sent n places → is_passed sent (slice_get places n) ≡ true
    → AllPassed sent (n + 1) places
passed_more sent n places all here = rw add-one (next n places all here)
  where
    next : (n : ℕ) (places : List ℕ) → AllPassed sent n places → is_passed sent (slice_get places n) ≡ true → AllPassed sent (suc n) places
    next zero [] all here = absurd (cc)
    next zero (p ∷ ps) all here = (here, tt)
    next (suc n) [] all here = absurd all
    next (suc n) (p ∷ ps) all here = (all.0, next n ps all.1 here)

-- ONE MORE WAS SENT, or one is marked: what was passed stays so
passed-kept : (old new : List Sent) → ((place : ℕ) → is_marked_at old place ≡ true → is_marked_at new place ≡ true) → (n : ℕ) (ps qs : List ℕ)
    → AllPassed old n ps → AllPassed new n (ps ++ qs)
passed-kept old new keeps zero ps qs all = tt
passed-kept old new keeps (suc n) [] qs all = absurd all
passed-kept old new keeps (suc n) (p ∷ ps) qs all = (keeps p all.0, passed-kept old new keeps n ps qs all.1)

passed-same : (old new : List Sent) → ((place : ℕ) → is_marked_at old place ≡ true → is_marked_at new place ≡ true) → (n : ℕ) (ps : List ℕ)
    → AllPassed old n ps → AllPassed new n ps
passed-same old new keeps zero ps all = tt
passed-same old new keeps (suc n) [] all = absurd all
passed-same old new keeps (suc n) (p ∷ ps) all = (keeps p all.0, passed-same old new keeps n ps all.1)

places-append : (p : Pair → Bool) (k : ℕ) (xs ys : List Pair) → places_of p k (xs ++ ys) ≡ places_of p k xs ++ places_of p (k + length xs) ys
places-append p k [] ys =
    let same : k ≡ k + 0 = omega arith in
    ap (λ j. places_of p j ys) same
places-append p k (x ∷ xs) ys =
    let same : k + 1 + length xs ≡ k + length (x ∷ xs) = omega arith in
    on (p x) (places-append p (k + 1) xs ys ∙ ap (λ j. places_of p (k + 1) xs ++ places_of p j ys) same)
  where
    on : (t : Bool) → places_of p (k + 1) (xs ++ ys) ≡ places_of p (k + 1) xs ++ places_of p (k + length (x ∷ xs)) ys
        → cond t (k ∷ places_of p (k + 1) (xs ++ ys)) (places_of p (k + 1) (xs ++ ys))
        ≡ cond t (k ∷ places_of p (k + 1) xs) (places_of p (k + 1) xs) ++ places_of p (k + length (x ∷ xs)) ys
    on true rest = ap (λ ps. k ∷ ps) rest
    on false rest = rest

places-more : (q : Pair) (sent more : List Sent) → places_between q (sent ++ more)
    ≡ places_between q sent ++ places_of (λ k. pair_eq k q) (0 + length (pairs_of sent)) (pairs_of more)
places-more q sent more =
    ap (places_of (λ k. pair_eq k q) 0) (map-append (λ (s : Sent). pair_of s.packet) sent more)
    ∙ places-append (λ k. pair_eq k q) 0 (pairs_of sent) (pairs_of more)

marked-more : (sent more : List Sent) (place : ℕ) → is_marked_at sent place ≡ true → is_marked_at (sent ++ more) place ≡ true
marked-more [] more place h = absurd (cc)
marked-more (s ∷ ss) more zero h = h
marked-more (s ∷ ss) more (suc place) h = marked-more ss more place h

fronts-more : (sent more : List Sent) (fronts : List Front) → AreFronts sent fronts → AreFronts (sent ++ more) fronts
fronts-more sent more [] h = tt
fronts-more sent more (f ∷ fs) h = (
  subst (λ ps. AllPassed (sent ++ more) f.passed ps) (sym (places-more f.pair sent more))
      (passed-kept sent (sent ++ more) (marked-more sent more) f.passed (places_between f.pair sent)
      (places_of (λ k. pair_eq k f.pair) (0 + length (pairs_of sent)) (pairs_of more)) h.0),
  fronts-more sent more fs h.1,
)

pub indexed_more : (sent next : List Sent) (keys more : List Pair) (fronts : List Front) (s : Sent) → IsIndexed sent keys fronts → next ≡ sent ++ s ∷ []
    → more ≡ keys ++ pair_of s.packet ∷ [] → IsIndexed next more fronts
indexed_more sent next keys more fronts s h one key =
    subst (λ xs. IsIndexed xs more fronts) (sym one) (record {
      pairs = key ∙ ap (λ ks. ks ++ pair_of s.packet ∷ []) h.pairs ∙ sym (map-append (λ (t : Sent). pair_of t.packet) sent (s ∷ []));
      passed = fronts-more sent (s ∷ []) fronts h.passed;
    })

-- A MARK
pairs-set : (sent : List Sent) (place : ℕ) (s t : Sent) → slice_get sent place ≡ Some s → t.packet ≡ s.packet
    → pairs_of (slice_set sent place t) ≡ pairs_of sent
pairs-set [] place s t e same = refl
pairs-set (u ∷ us) zero s t e same =
    let is : u ≡ s = cc in
    ap (λ p. pair_of p ∷ pairs_of us) (same ∙ ap packet_of (sym is))
pairs-set (u ∷ us) (suc place) s t e same = ap (λ ps. pair_of u.packet ∷ ps) (pairs-set us place s t e same)

marked-set : (sent : List Sent) (at : ℕ) (t : Sent) → t.delivered ≡ true → (place : ℕ) → is_marked_at sent place ≡ true
    → is_marked_at (slice_set sent at t) place ≡ true
marked-set [] at t d place h = h
marked-set (u ∷ us) zero t d zero h = d
marked-set (u ∷ us) zero t d (suc place) h = h
marked-set (u ∷ us) (suc at) t d zero h = h
marked-set (u ∷ us) (suc at) t d (suc place) h = marked-set us at t d place h

fronts-set : (old new : List Sent) → pairs_of new ≡ pairs_of old → ((place : ℕ) → is_marked_at old place ≡ true → is_marked_at new place ≡ true)
    → (fronts : List Front) → AreFronts old fronts → AreFronts new fronts
fronts-set old new same keeps [] h = tt
fronts-set old new same keeps (f ∷ fs) h = (
  subst (λ ks. AllPassed new f.passed (places_of (λ k. pair_eq k f.pair) 0 ks)) (sym same)
      (passed-same old new keeps f.passed (places_between f.pair old) h.0),
  fronts-set old new same keeps fs h.1,
)

pub indexed_marked : (old new : List Sent) (keys : List Pair) (fronts : List Front) (place : ℕ) (s t : Sent) → IsIndexed old keys fronts
    → slice_get old place ≡ Some s → t.packet ≡ s.packet → t.delivered ≡ true → new ≡ slice_set old place t → IsIndexed new keys fronts
indexed_marked old new keys fronts place s t h at same done is =
    subst (λ xs. IsIndexed xs keys fronts) (sym is) (record {
      pairs = h.pairs ∙ sym (pairs-set old place s t at same);
      passed = fronts-set old (slice_set old place t) (pairs-set old place s t at same) (marked-set old place t done) fronts h.passed;
    })

pub delivered_is : (old : List Sent) (place : ℕ) (r m : Sent) (packet : Packet) → place < length old → r ≡ get_or old place r → m ≡ get_or old place m
    → packet ≡ r.packet
    → IsDelivered place old (slice_set old place (record { packet = m.packet; delivered = true })) packet
delivered_is old place r m packet within here there is =
    let first : slice_get old place ≡ Some r = slice_get-get_or old place r within ∙ ap Some (sym here) in
    let second : slice_get old place ≡ Some m = slice_get-get_or old place m within ∙ ap Some (sym there) in
    let same : r ≡ m = cc in
    record { sent = m; at = second; is = is ∙ ap packet_of same; marked = refl }

-- A FRONT IS READ AND SET
pub front_at : (sent : List Sent) (fronts : List Front) (i : ℕ) (f : Front) → i < length fronts → AreFronts sent fronts
    → IsFront sent (slice_index_or fronts i f)
front_at sent [] i f within h = absurd (omega arith)
front_at sent (g ∷ gs) zero f within h = h.0
front_at sent (g ∷ gs) (suc i) f within h = front_at sent gs i f (omega arith) h.1

pub front_set : (sent : List Sent) (fronts : List Front) (i : ℕ) (f : Front) → IsFront sent f → AreFronts sent fronts → AreFronts sent (slice_set fronts i f)
front_set sent [] i f is h = tt
front_set sent (g ∷ gs) zero f is h = (is, h.1)
front_set sent (g ∷ gs) (suc i) f is h = (h.0, front_set sent gs i f is h.1)

pub known_front : (sent : List Sent) (fronts : List Front) (i : ℕ) (f : Front) (q : Pair) → i < length fronts → AreFronts sent fronts
    → pair_eq (slice_index_or fronts i f).pair q ≡ true
    → AllPassed sent (slice_index_or fronts i f).passed (places_between q sent)
known_front sent fronts i f q within h t =
    subst (λ (p : Pair). AllPassed sent (slice_index_or fronts i f).passed (places_between p sent)) (pair_same (slice_index_or fronts i f).pair q t)
    (front_at sent fronts i f within h)
  where
    pair_same : (a b : Pair) → pair_eq a b ≡ true → a ≡ b
    pair_same a b t = on (a.from == b.from) refl (a.to == b.to) refl t
      where
        on : (x : Bool) → (a.from == b.from) ≡ x → (y : Bool) → (a.to == b.to) ≡ y → (x && y) ≡ true → a ≡ b
        on true e true f t =
            let from : a.from ≡ b.from = grind (arith, nat_tests) in
            let to : a.to ≡ b.to = grind (arith, nat_tests) in
            λ i. record { from = from i; to = to i }
        on true e false f t = absurd (cc)
        on false e y f t = absurd (cc)
