-- Membership, equality and orders of lists, bytes and identities.
use Rattle.std.specs.Prelude.{◌≡◌, ℕ, List, [], ◌∷◌, Bool, true, false, ◌&&◌, ◌||◌, ◌⊎◌, ◌==◌, nat_lt, Option, Some, None, if◌then◌else◌}
use Rattle.us_kind.specs.declared.identity.Tid.{Tid}
use Rattle.us_kind.specs.declared.identity.Tag.{Tag}
use Rattle.us_kind.specs.declared.identity.Stamp.{Stamp}

-- x is one of these
abbrev pub In : {X : Type 0} → X → List X → Type 0
In x [] = ⊥
In x (y ∷ ys) = (y ≡ x) ⊎ In x ys

-- the last of a list
abbrev pub last_of : {X : Type 0} → List X → Option X
last_of [] = None
last_of (x ∷ []) = Some x
last_of (x ∷ y ∷ xs) = last_of (y ∷ xs)

-- the same bytes
abbrev pub bytes_eq : List ℕ → List ℕ → Bool
bytes_eq [] [] = true
bytes_eq [] (y ∷ ys) = false
bytes_eq (x ∷ xs) [] = false
bytes_eq (x ∷ xs) (y ∷ ys) = (x == y) && bytes_eq xs ys

-- a stands before b, or they are equal and the rest decides
abbrev pub lex : ℕ → ℕ → Bool → Bool
lex a b rest = nat_lt a b || ((a == b) && rest)

-- the first bytes stand before the second, as texts in a dictionary
abbrev pub bytes_less : List ℕ → List ℕ → Bool
bytes_less xs [] = false
bytes_less [] (y ∷ ys) = true
bytes_less (x ∷ xs) (y ∷ ys) = lex x y (bytes_less xs ys)

-- the same transaction
abbrev pub tid_eq : Tid → Tid → Bool
tid_eq a b = (a.site == b.site) && ((a.coord == b.coord) && (a.seq == b.seq))

-- by site, coordinator and number
abbrev pub tid_less : Tid → Tid → Bool
tid_less a b = lex a.site b.site (lex a.coord b.coord (nat_lt a.seq b.seq))

-- the update that a stamp is of
abbrev pub tag_of : Stamp → Tag
tag_of s = record { tid = s.tid; place = s.place }

-- the first stamp stands before the second, or they are equal and the rest decides
abbrev pub stamp_lex : Stamp → Stamp → Bool → Bool
stamp_lex a b rest =
    lex a.sum b.sum (lex a.tid.site b.tid.site (lex a.tid.coord b.tid.coord (lex a.tid.seq b.tid.seq (lex a.place b.place rest))))

-- the arbitration order: by sum, transaction and place
abbrev pub stamp_less : Stamp → Stamp → Bool
stamp_less a b = stamp_lex a b false

-- with x in its place, unless it is there
abbrev pub put_bytes : List ℕ → List (List ℕ) → List (List ℕ)
put_bytes x [] = x ∷ []
put_bytes x (y ∷ ys) = if bytes_less x y then x ∷ y ∷ ys else (if bytes_less y x then y ∷ put_bytes x ys else y ∷ ys)

-- these, ascending by bytes, each once
abbrev pub ascending : List (List ℕ) → List (List ℕ)
ascending [] = []
ascending (x ∷ xs) = put_bytes x (ascending xs)
