-- Writing the texts of a list, one after another.
use Rattle.std.proofs.Common.{◌≡◌, ℕ, ◌+◌, ◌<◌, List, [], ◌∷◌, ◌++◌, Option, length, take, drop, get_or, sym, ap, subst, ◌∙◌}
use Rattle.std.specs.List.{flat_map}
use Rattle.std.proofs.lemmas.List.{take-append-drop, take_more, flat_map_more}
use Rattle.std.proofs.lemmas.List.Concat.{flat_map-append}
use Rattle.us_edge.specs.Streams.{Appends, AppendsPrefix}
use Rattle.us_edge.proofs.Appending.{AppendsPrefix-more, AppendsPrefix-then}

-- the texts of a list: those of the first items, of the next, and of the rest
flat_map-at : {X : Type 0} (f : X → List ℕ) (xs : List X) (i : ℕ) (x : X) → i < length xs → x ≡ get_or xs i x
    → (flat_map f (take i xs) ++ f x) ++ flat_map f (drop (i + 1) xs) ≡ flat_map f xs
flat_map-at {X = X} f xs i x lt is =
    let next : take (i + 1) xs ≡ take i xs ++ x ∷ [] = take_more xs i x lt ∙ ap (λ (y : X). take i xs ++ y ∷ []) (sym is) in
    ap (λ (ys : List ℕ). ys ++ flat_map f (drop (i + 1) xs)) (flat_map_more f [] (take i xs) x ∙ ap (flat_map f) (sym next))
    ∙ sym (flat_map-append f (take (i + 1) xs) (drop (i + 1) xs)) ∙ ap (flat_map f) (take-append-drop (i + 1) xs)

-- the first texts were written, and a prefix of the next
pub stops_at : {X : Type 0} (f : X → List ℕ) (before now after : Option (List ℕ)) (xs : List X) (i : ℕ) (x : X) → i < length xs → x ≡ get_or xs i x
    → Appends before now (flat_map f (take i xs)) → AppendsPrefix now after (f x) → AppendsPrefix before after (flat_map f xs)
stops_at f before now after xs i x lt is written part =
    subst (AppendsPrefix before after) (flat_map-at f xs i x lt is)
    (AppendsPrefix-more before after (flat_map f (take i xs) ++ f x) (flat_map f (drop (i + 1) xs))
    (AppendsPrefix-then before now after (flat_map f (take i xs)) (f x) written part))
