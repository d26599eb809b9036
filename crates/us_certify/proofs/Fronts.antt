-- A log's decisions go on from those of its front.
use Rattle.std.proofs.Common.{◌≡◌, ◌↔◌, ℕ, zero, suc, ◌+◌, ◌-◌, ◌<◌, List, [], ◌∷◌, ◌++◌, length, get_or, take, drop, slice_get}
use Rattle.std.proofs.Common.{Option, Some, None, refl, sym, ap, ◌∙◌, subst, arith, append_assoc, drop-cons}
use Rattle.std.proofs.lemmas.List.{append-nil, length-append, length-take-le, map-append, take-append-drop}
use Rattle.std.proofs.lemmas.Option.{slice_get_within}
use Rattle.std.proofs.Math.Seq.{take-append_seam}
use Rattle.us_value.specs.declared.operation.Class.{Class}
use Rattle.us_peer_wire.specs.declared.message.LogEntry.{LogEntry}
use Rattle.us_certify.specs.declared.decision.Decision.{Decision}
use Rattle.us_certify.specs.Certification.{AreAsCertified, certified, certified_after, decision_after, decision_in, entries_of, slot_of, verdict_after}

-- LISTS
pub get-front : {X : Type 0} (xs ys : List X) (k : ℕ) → k < length xs → slice_get (xs ++ ys) k ≡ slice_get xs k
get-front [] ys k within = absurd (omega (arith, within))
get-front (x ∷ xs) ys zero within = refl
get-front (x ∷ xs) ys (suc k) within = get-front xs ys k (omega (arith, within))

pub get-seam : {X : Type 0} (xs : List X) (y : X) (ys : List X) (k : ℕ) → k ≡ length xs → slice_get (xs ++ y ∷ ys) k ≡ Some y
get-seam [] y ys k at = subst (λ n. slice_get (y ∷ ys) n ≡ Some y) (sym at) refl
get-seam (x ∷ xs) y ys zero at = absurd (omega (arith, at))
get-seam (x ∷ xs) y ys (suc k) at = get-seam xs y ys k (omega (arith, at))

-- DECISIONS
module _ (pairs : List (ℕ × Class × Class)) where
  -- entries in two parts
  pub certified-append : (ds : List Decision) (es more : List LogEntry)
      → certified_after pairs ds (es ++ more) ≡ certified_after pairs (certified_after pairs ds es) more
  certified-append ds [] more = refl
  certified-append ds (e ∷ es) more = certified-append (ds ++ decision_after pairs ds e ∷ []) es more

  -- one more entry, which is decided after all
  pub as_certified-push : (ds : List Decision) (e : LogEntry) → AreAsCertified pairs ds → AreAsCertified pairs (ds ++ decision_after pairs ds e ∷ [])
  as_certified-push ds e kept =
      ap (λ (front : List Decision). front ++ decision_after pairs front e ∷ []) kept
      ∙ sym (certified-append [] (entries_of ds) (e ∷ []))
      ∙ ap (certified_after pairs []) (sym (map-append (λ (d : Decision). d.entry) ds (decision_after pairs ds e ∷ [])))

  pub length-certified : (ds : List Decision) (es : List LogEntry) → length (certified_after pairs ds es) ≡ length ds + length es
  length-certified ds [] = omega arith
  length-certified ds (e ∷ es) =
      let more = length-certified (ds ++ decision_after pairs ds e ∷ []) es in
      let one = length-append ds (decision_after pairs ds e ∷ []) in
      omega (arith, more, one)

  pub length-whole : (es : List LogEntry) → length (certified pairs es) ≡ length es
  length-whole es = let all = length-certified [] es in omega (arith, all)

  pub entries-certified : (ds : List Decision) (es : List LogEntry) → entries_of (certified_after pairs ds es) ≡ entries_of ds ++ es
  entries-certified ds [] = sym (append-nil (entries_of ds))
  entries-certified ds (e ∷ es) =
      entries-certified (ds ++ decision_after pairs ds e ∷ []) es
      ∙ ap (λ (front : List LogEntry). front ++ es) (map-append (λ (d : Decision). d.entry) ds (decision_after pairs ds e ∷ []))
      ∙ append_assoc (entries_of ds) (e ∷ []) es

  -- what was decided stays in front
  record Grown (ds all : List Decision) : Type 0 where
    rest : List Decision
    is : all ≡ ds ++ rest

  grown : (ds : List Decision) (es : List LogEntry) → Grown ds (certified_after pairs ds es)
  grown ds [] = record { rest = []; is = sym (append-nil ds) }
  grown ds (e ∷ es) =
      let d = decision_after pairs ds e in
      let h = grown (ds ++ d ∷ []) es in
      record { rest = d ∷ h.rest; is = h.is ∙ append_assoc ds (d ∷ []) h.rest }

  pub front-stays : (es more : List LogEntry) → take (length es) (certified pairs (es ++ more)) ≡ certified pairs es
  front-stays es more =
      let front = certified pairs es in
      let h = grown front more in
      let long : length front ≡ length es = length-whole es in
      ap (take (length es)) (certified-append [] es more ∙ h.is)
      ∙ ap (λ n. take n (front ++ h.rest)) (sym long)
      ∙ take-append_seam front h.rest

  -- the decision at a place is of the entry there, after those before it
  pub record Decided (es : List LogEntry) (k : ℕ) (d : Decision) : Type 0 where
    pub verdict : d.verdict ≡ verdict_after pairs (certified pairs (take k es)) d.entry
    pub long : length (certified pairs (take k es)) ≡ k
    pub front : (j : ℕ) → j < k → slice_get (certified pairs es) j ≡ slice_get (certified pairs (take k es)) j

  pub decided : (es : List LogEntry) (k : ℕ) (d : Decision) → slice_get (certified pairs es) k ≡ Some d → Decided es k d
  decided es k d at =
      let front = certified pairs (take k es) in
      let within : k < length es = let w = slice_get_within (certified pairs es) k d at in let l = length-whole es in omega (arith, w, l) in
      let long : length front ≡ k = length-whole (take k es) ∙ length-take-le k es (omega (arith, within)) in
      let e = get_or es k d.entry in
      let parts : es ≡ take k es ++ e ∷ drop (suc k) es =
      sym (take-append-drop k es) ∙ ap (λ (rest : List LogEntry). take k es ++ rest) (drop-cons es k d.entry within) in
      let own = decision_after pairs front e in
      let h = grown (front ++ own ∷ []) (drop (suc k) es) in
      let whole : certified pairs es ≡ front ++ own ∷ h.rest =
      ap (certified pairs) parts ∙ certified-append [] (take k es) (e ∷ drop (suc k) es) ∙ h.is ∙ append_assoc front (own ∷ []) h.rest in
      let found : slice_get (certified pairs es) k ≡ Some own = ap (λ (ds : List Decision). slice_get ds k) whole ∙ get-seam front own h.rest k (sym long) in
      let same : own ≡ d = let both = sym found ∙ at in cc in
      record {
        verdict = subst (λ (x : Decision). x.verdict ≡ verdict_after pairs front x.entry) same refl;
        long = long;
        front = λ j below. ap (λ (ds : List Decision). slice_get ds j) whole ∙ get-front front (own ∷ h.rest) j (omega (arith, below, long));
      }

  pub verdict-of_prefix : (es : List LogEntry) (slot : ℕ) (d : Decision) → decision_in (certified pairs es) slot ≡ Some d
      → d.verdict ≡ verdict_after pairs (certified pairs (take (slot - 1) es)) d.entry
  verdict-of_prefix es zero d here = absurd (cc)
  verdict-of_prefix es (suc k) d here =
      let before : k ≡ suc k - 1 = omega arith in
      subst (λ n. d.verdict ≡ verdict_after pairs (certified pairs (take n es)) d.entry) before (decided es k d here).verdict

pub slot_of-none : (place : Option ℕ) → (slot_of place ≡ None) ↔ (place ≡ None)
slot_of-none None = ((λ e. refl), (λ e. refl))
slot_of-none (Some place) = ((λ e. absurd (cc)), (λ e. absurd (cc)))
