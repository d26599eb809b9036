-- What is read is encoded so, and what is encoded so is read.
use Rattle.std.proofs.Common.{◌≡◌, ℕ, zero, suc, ◌+◌, ◌-◌, ◌*◌, ◌^◌, ◌<◌, ◌≤◌, ◌⊎◌, inl, inr, List, [], ◌∷◌, ◌++◌, length, take, drop, get_or, Option, None, Some, refl, sym, ap, subst, ◌∙◌, arith}
use Rattle.std.specs.Int.{w8, w64, to_be_bytes}
use Rattle.std.specs.List.{AllByRecursion}
use Rattle.std.proofs.lemmas.Bool.{cases_lt}
use Rattle.std.proofs.lemmas.List.{take-append-drop, length-take-le, length-append, length-drop, get_or-take, get_or-drop, get_or_past, get_or_append_left, get_or-append-add, take_at}
use Rattle.us_kind.specs.declared.identity.Tid.{Tid}
use Rattle.us_base.specs.declared.shape.Shape.{Shape}
use Rattle.us_base.specs.Shape.{sites_of, IsShape}
use Rattle.us_base.specs.Vector.{entry, zero as zeros}
use Rattle.us_base.proofs.Lattice.{same_entries}
use Rattle.us_wire.specs.Decoders.{Decoder, and_then, many_at, many_encoding, number_between_at, largest_number, IsCodec, IsCodecWithin, IsBetween}
use Rattle.std.specs.Prelude.{IfSome}
use Rattle.us_wire.specs.Fields.{StandsAt, AreBytes}
use Rattle.us_wire.proofs.Encoded.{wide64}
use Rattle.us_wire.proofs.Combined.{on, reads_then, reads_made, reads_some, reads_between, reads_byte, refit}
use Rattle.us_migrate.specs.declared.token.Token.{Token}
use Rattle.us_migrate.specs.Encodings.{tid_encoding, vector_encoding, token_encoding, IsOneOf, TidFits, VectorFits, TokenFits}
use Rattle.us_migrate.specs.Decoders.{tid_at, filled, vector_at, token_at, ReadsTids, ReadsVectors, ReadsTokens}

-- ---- bytes and numbers

one_of : (most : ℕ) → most < 256 → IsCodec (IsOneOf most) (λ n. n ∷ []) (number_between_at w8 1 most)
one_of most small = refit (λ n. (1 ≤ n) × (n ≤ most)) (IsOneOf most) (λ n. n ∷ []) (λ n. n ∷ []) (number_between_at w8 1 most) (reads_byte 1 most small)
    (λ n f. record { first = f.0; last = f.1 }) (λ n f. (f.first, f.last)) (λ n f. refl)

positive : IsCodec (IsOneOf largest_number) (to_be_bytes w64) (number_between_at w64 1 largest_number)
positive = refit (IsBetween (256 ^ 8) 1 largest_number) (IsOneOf largest_number) (to_be_bytes w64) (to_be_bytes w64) (number_between_at w64 1 largest_number) (reads_between w64 wide64 1 largest_number)
    (λ n f. record { first = f.enough; last = f.not_more }) (λ n f. record { fits = omega (arith, f.last); enough = f.first; not_more = f.last }) (λ n f. refl)

number : IsCodec (λ n. n ≤ largest_number) (to_be_bytes w64) (number_between_at w64 0 largest_number)
number = refit (IsBetween (256 ^ 8) 0 largest_number) (λ n. n ≤ largest_number) (to_be_bytes w64) (to_be_bytes w64) (number_between_at w64 0 largest_number) (reads_between w64 wide64 0 largest_number)
    (λ n f. f.not_more) (λ n f. record { fits = omega (arith, f); enough = omega arith; not_more = f }) (λ n f. refl)

few_sites : (shape : Shape) → IsShape shape → sites_of shape < 256
few_sites shape h = omega (arith, h.few_sites)

few_parts : (shape : Shape) → IsShape shape → shape.parts < 256
few_parts shape h = omega (arith, h.few_partitions)

-- ---- transactions

pub reads_tids : ReadsTids
unfolding tid_at
reads_tids shape h =
    let Site : ℕ → Type 0 = IsOneOf (sites_of shape) in
    let Coord : ℕ → Type 0 = IsOneOf shape.parts in
    let Seq : ℕ → Type 0 = IsOneOf largest_number in
    let seq_read : ℕ → ℕ → Decoder Tid = λ site coord input at. and_then (number_between_at w64 1 largest_number input at) (λ seq next. Some (record { site = site; coord = coord; seq = seq }, next)) in
    let coord_read : ℕ → Decoder Tid = λ site input at. and_then (number_between_at w8 1 shape.parts input at) (λ coord next. seq_read site coord input next) in
    let last : (site coord : ℕ) → IsCodec (λ (t : Tid). (t.coord ≡ coord) × ((t.site ≡ site) × Seq t.seq)) (λ t. to_be_bytes w64 t.seq) (seq_read site coord) =
    λ site coord. reads_made Seq (to_be_bytes w64) (number_between_at w64 1 largest_number) (λ seq. record { site = site; coord = coord; seq = seq })
    (λ (t : Tid). (t.coord ≡ coord) × ((t.site ≡ site) × Seq t.seq)) (λ t. to_be_bytes w64 t.seq) positive
    (λ n f. (refl, (refl, f))) (λ n f. refl)
    (λ t g. (t.seq, (λ i. record { site = sym g.1.0 i; coord = sym g.0 i; seq = t.seq }), g.1.1)) in
    let middle : (site : ℕ) → IsCodec (λ (t : Tid). Coord t.coord × ((t.site ≡ site) × Seq t.seq)) (λ t. (t.coord ∷ []) ++ to_be_bytes w64 t.seq) (coord_read site) =
    λ site. reads_then Coord (λ n. n ∷ []) (number_between_at w8 1 shape.parts) (λ (t : Tid). t.coord) (λ (t : Tid). (t.site ≡ site) × Seq t.seq) (λ t. to_be_bytes w64 t.seq) (seq_read site)
    (one_of shape.parts (few_parts shape h)) (λ coord f. on _ _ _ (last site coord)) in
    let turned : (site : ℕ) → IsCodec (λ (t : Tid). (t.site ≡ site) × (Coord t.coord × Seq t.seq)) (λ t. t.coord ∷ to_be_bytes w64 t.seq) (coord_read site) =
    λ site. refit _ _ _ _ (coord_read site) (middle site) (λ t f. (f.1.0, (f.0, f.1.1))) (λ t f. (f.1.0, (f.0, f.1.1))) (λ t f. refl) in
    let whole = reads_then Site (λ n. n ∷ []) (number_between_at w8 1 (sites_of shape)) (λ (t : Tid). t.site) (λ (t : Tid). Coord t.coord × Seq t.seq) (λ t. t.coord ∷ to_be_bytes w64 t.seq) coord_read
    (one_of (sites_of shape) (few_sites shape h)) (λ site f. on _ _ _ (turned site)) in
    refit (λ (t : Tid). Site t.site × (Coord t.coord × Seq t.seq)) (TidFits shape) (λ (t : Tid). (t.site ∷ []) ++ (t.coord ∷ to_be_bytes w64 t.seq)) tid_encoding (tid_at shape) whole
    (λ t f. record { site = f.0; coord = f.1.0; seq = f.1.1 }) (λ t f. (f.site, (f.coord, f.seq))) (λ t f. refl)

-- ---- vectors

all_entries : (xs : List ℕ) → ((i : ℕ) → entry xs i ≤ largest_number) → AllByRecursion (λ n. n ≤ largest_number) xs
all_entries [] h = tt
all_entries (x ∷ xs) h = (h zero, all_entries xs (λ i. h (suc i)))

each_entry : (xs : List ℕ) → AllByRecursion (λ n. n ≤ largest_number) xs → (i : ℕ) → entry xs i ≤ largest_number
each_entry [] all i = omega arith
each_entry (x ∷ xs) all zero = all.0
each_entry (x ∷ xs) all (suc i) = each_entry xs all.1 i

zeros-entry : (i : ℕ) → entry zeros i ≡ 0
zeros-entry zero = refl
zeros-entry (suc zero) = refl
zeros-entry (suc (suc zero)) = refl
zeros-entry (suc (suc (suc zero))) = refl
zeros-entry (suc (suc (suc (suc zero)))) = refl
zeros-entry (suc (suc (suc (suc (suc zero))))) = refl
zeros-entry (suc (suc (suc (suc (suc (suc zero)))))) = refl
zeros-entry (suc (suc (suc (suc (suc (suc (suc zero))))))) = refl
zeros-entry (suc (suc (suc (suc (suc (suc (suc (suc zero)))))))) = refl
zeros-entry (suc (suc (suc (suc (suc (suc (suc (suc (suc zero))))))))) = refl
zeros-entry (suc (suc (suc (suc (suc (suc (suc (suc (suc (suc i)))))))))) = refl

filled-length : (xs : List ℕ) → length xs ≤ 10 → length (filled xs) ≡ 10
filled-length xs few = length-append xs (drop (length xs) zeros) ∙ omega (arith, length-drop (length xs) zeros)

filled-before : (xs : List ℕ) (i : ℕ) → i < length xs → entry (filled xs) i ≡ entry xs i
filled-before xs i lt = get_or_append_left xs (drop (length xs) zeros) 0 i lt

filled-behind : (xs : List ℕ) (i : ℕ) → length xs ≤ i → entry (filled xs) i ≡ 0
filled-behind xs i le =
    let split : i ≡ length xs + (i - length xs) = omega arith in
    ap (entry (filled xs)) split ∙ get_or-append-add xs (drop (length xs) zeros) (i - length xs) 0 ∙ get_or-drop (length xs) zeros (i - length xs) 0 ∙ zeros-entry (length xs + (i - length xs))

-- the entries of the shape's sites, filled up
filled-take : (n : ℕ) (v : List ℕ) → n ≤ 10 → length v ≡ 10 → ((i : ℕ) → n ≤ i → entry v i ≡ 0) → filled (take n v) ≡ v
filled-take n v few ten spare =
    let len : length (take n v) ≡ n = length-take-le n v (omega arith) in
    same_entries (filled (take n v)) v (filled-length (take n v) (omega arith) ∙ sym ten)
    (λ i. elim (cases_lt i n) [
      | inl lt ↦ filled-before (take n v) i (omega arith) ∙ get_or-take n v i 0 lt
      | inr le ↦ filled-behind (take n v) i (omega arith) ∙ sym (spare i le)
    ])

take-filled : (n : ℕ) (xs : List ℕ) → length xs ≡ n → take n (filled xs) ≡ xs
take-filled n xs e = take_at xs (drop (length xs) zeros) n e

pub reads_vectors : ReadsVectors
unfolding vector_at
reads_vectors shape h =
    let n = suc (sites_of shape) in
    let few : n ≤ 10 = omega (arith, h.few_sites) in
    let Numbers : List ℕ → Type 0 = λ xs. (length xs ≡ n) × AllByRecursion (λ k. k ≤ largest_number) xs in
    let numbers : IsCodec Numbers (many_encoding (to_be_bytes w64)) (many_at (number_between_at w64 0 largest_number) n) = reads_some (λ k. k ≤ largest_number) (to_be_bytes w64) (number_between_at w64 0 largest_number) number (sites_of shape) in
    reads_made Numbers (many_encoding (to_be_bytes w64)) (many_at (number_between_at w64 0 largest_number) n) filled (VectorFits shape) (vector_encoding shape) numbers
    (λ xs f. fits xs f.0 f.1)
    (λ xs f. ap (many_encoding (to_be_bytes w64)) (sym (take-filled n xs f.0)))
    (λ v f. (take n v, filled-take n v few f.ten (λ i le. f.spare i (omega arith)), (length-take-le n v (omega (arith, f.ten)), all_entries (take n v) (λ i. within v f i (cases_lt i n)))))
  where
    fits : (xs : List ℕ) → length xs ≡ suc (sites_of shape) → AllByRecursion (λ k. k ≤ largest_number) xs → VectorFits shape (filled xs)
    fits xs len all = record {
      ten = filled-length xs (omega (arith, h.few_sites));
      small = λ i. elim (cases_lt i (length xs)) [
        | inl lt ↦ rw (filled-before xs i lt) (each_entry xs all i)
        | inr le ↦ rw (filled-behind xs i le) (omega arith)
      ];
      spare = λ i lt. filled-behind xs i (omega arith);
    }

    within : (v : List ℕ) → VectorFits shape v → (i : ℕ) → ((i < suc (sites_of shape)) ⊎ (suc (sites_of shape) ≤ i)) → entry (take (suc (sites_of shape)) v) i ≤ largest_number
    within v f i (inl lt) = rw (get_or-take (suc (sites_of shape)) v i 0 lt) (f.small i)
    within v f i (inr le) = rw (get_or_past (take (suc (sites_of shape)) v) i 0 (omega (arith, length-take-le (suc (sites_of shape)) v (omega (arith, f.ten, h.few_sites))))) (omega arith)

-- ---- tokens

pub reads_tokens : ReadsTokens
unfolding token_at
reads_tokens shape h =
    let Site : ℕ → Type 0 = IsOneOf (sites_of shape) in
    let Coord : ℕ → Type 0 = IsOneOf shape.parts in
    let Positive : ℕ → Type 0 = IsOneOf largest_number in
    let Small : ℕ → Type 0 = λ n. n ≤ largest_number in
    let IsVector : List ℕ → Type 0 = VectorFits shape in
    let token : ℕ → ℕ → ℕ → ℕ → List ℕ → Token = λ site coord session count vector. record { site = site; coord = coord; session = session; count = count; vector = vector } in
    let read5 : ℕ → ℕ → ℕ → ℕ → Decoder Token = λ site coord session count input at. and_then (vector_at shape input at) (λ vector next. Some (token site coord session count vector, next)) in
    let read4 : ℕ → ℕ → ℕ → Decoder Token = λ site coord session input at. and_then (number_between_at w64 0 largest_number input at) (λ count next. read5 site coord session count input next) in
    let read3 : ℕ → ℕ → Decoder Token = λ site coord input at. and_then (number_between_at w64 1 largest_number input at) (λ session next. read4 site coord session input next) in
    let read2 : ℕ → Decoder Token = λ site input at. and_then (number_between_at w8 1 shape.parts input at) (λ coord next. read3 site coord input next) in
    let spell5 : Token → List ℕ = λ t. vector_encoding shape t.vector in
    let spell4 : Token → List ℕ = λ t. to_be_bytes w64 t.count ++ spell5 t in
    let spell3 : Token → List ℕ = λ t. to_be_bytes w64 t.session ++ spell4 t in
    let spell2 : Token → List ℕ = λ t. t.coord ∷ spell3 t in
    let law5 : (site coord session count : ℕ) → IsCodec (λ (t : Token). (t.count ≡ count) × ((t.session ≡ session) × ((t.coord ≡ coord) × ((t.site ≡ site) × IsVector t.vector)))) spell5 (read5 site coord session count) =
    λ site coord session count. reads_made IsVector (vector_encoding shape) (vector_at shape) (token site coord session count)
    (λ (t : Token). (t.count ≡ count) × ((t.session ≡ session) × ((t.coord ≡ coord) × ((t.site ≡ site) × IsVector t.vector)))) spell5 (reads_vectors shape h)
    (λ v f. (refl, (refl, (refl, (refl, f))))) (λ v f. refl)
    (λ t g. (t.vector, (λ i. record { site = sym g.1.1.1.0 i; coord = sym g.1.1.0 i; session = sym g.1.0 i; count = sym g.0 i; vector = t.vector }), g.1.1.1.1)) in
    let law4 : (site coord session : ℕ) → IsCodec (λ (t : Token). Small t.count × ((t.session ≡ session) × ((t.coord ≡ coord) × ((t.site ≡ site) × IsVector t.vector)))) spell4 (read4 site coord session) =
    λ site coord session. reads_then Small (to_be_bytes w64) (number_between_at w64 0 largest_number) (λ (t : Token). t.count)
    (λ (t : Token). (t.session ≡ session) × ((t.coord ≡ coord) × ((t.site ≡ site) × IsVector t.vector))) spell5 (read5 site coord session)
    number (λ count f. on _ _ _ (law5 site coord session count)) in
    let turned4 : (site coord session : ℕ) → IsCodec (λ (t : Token). (t.session ≡ session) × ((t.coord ≡ coord) × ((t.site ≡ site) × (Small t.count × IsVector t.vector)))) spell4 (read4 site coord session) =
    λ site coord session. refit _ _ _ _ (read4 site coord session) (law4 site coord session) (λ t f. (f.1.0, (f.1.1.0, (f.1.1.1.0, (f.0, f.1.1.1.1))))) (λ t f. (f.1.1.1.0, (f.0, (f.1.0, (f.1.1.0, f.1.1.1.1))))) (λ t f. refl) in
    let law3 : (site coord : ℕ) → IsCodec (λ (t : Token). Positive t.session × ((t.coord ≡ coord) × ((t.site ≡ site) × (Small t.count × IsVector t.vector)))) spell3 (read3 site coord) =
    λ site coord. reads_then Positive (to_be_bytes w64) (number_between_at w64 1 largest_number) (λ (t : Token). t.session)
    (λ (t : Token). (t.coord ≡ coord) × ((t.site ≡ site) × (Small t.count × IsVector t.vector))) spell4 (read4 site coord)
    positive (λ session f. on _ _ _ (turned4 site coord session)) in
    let turned3 : (site coord : ℕ) → IsCodec (λ (t : Token). (t.coord ≡ coord) × ((t.site ≡ site) × (Positive t.session × (Small t.count × IsVector t.vector)))) spell3 (read3 site coord) =
    λ site coord. refit _ _ _ _ (read3 site coord) (law3 site coord) (λ t f. (f.1.0, (f.1.1.0, (f.0, f.1.1.1)))) (λ t f. (f.1.1.0, (f.0, (f.1.0, f.1.1.1)))) (λ t f. refl) in
    let law2 : (site : ℕ) → IsCodec (λ (t : Token). Coord t.coord × ((t.site ≡ site) × (Positive t.session × (Small t.count × IsVector t.vector)))) (λ t. (t.coord ∷ []) ++ spell3 t) (read2 site) =
    λ site. reads_then Coord (λ n. n ∷ []) (number_between_at w8 1 shape.parts) (λ (t : Token). t.coord)
    (λ (t : Token). (t.site ≡ site) × (Positive t.session × (Small t.count × IsVector t.vector))) spell3 (read3 site)
    (one_of shape.parts (few_parts shape h)) (λ coord f. on _ _ _ (turned3 site coord)) in
    let turned2 : (site : ℕ) → IsCodec (λ (t : Token). (t.site ≡ site) × (Coord t.coord × (Positive t.session × (Small t.count × IsVector t.vector)))) spell2 (read2 site) =
    λ site. refit _ _ _ _ (read2 site) (law2 site) (λ t f. (f.1.0, (f.0, f.1.1))) (λ t f. (f.1.0, (f.0, f.1.1))) (λ t f. refl) in
    let whole = reads_then Site (λ n. n ∷ []) (number_between_at w8 1 (sites_of shape)) (λ (t : Token). t.site)
    (λ (t : Token). Coord t.coord × (Positive t.session × (Small t.count × IsVector t.vector))) spell2 read2
    (one_of (sites_of shape) (few_sites shape h)) (λ site f. on _ _ _ (turned2 site)) in
    refit _ (TokenFits shape) _ (token_encoding shape) (token_at shape) whole
    (λ t f. record { site = f.0; coord = f.1.0; session = f.1.1.0; count = f.1.1.1.0; vector = f.1.1.1.1 })
    (λ t f. (f.site, (f.coord, (f.session, (f.count, f.vector))))) (λ t f. refl)

pub token_found : (shape : Shape) (input : List ℕ) (at : ℕ) → IsShape shape → AreBytes input → (o : Option (Token × ℕ)) → o ≡ token_at shape input at → IfSome o (λ read. StandsAt (token_encoding shape read.0) input at read.1 × TokenFits shape read.0)
token_found shape input at h are None e = tt
token_found shape input at h are (Some read) e = (reads_tokens shape h).found input at read.0 read.1 are (sym e)

numbers-length : (xs : List ℕ) → length (many_encoding (to_be_bytes w64) xs) ≡ 8 * length xs
unfolding many_encoding
numbers-length [] = refl
numbers-length (x ∷ xs) = omega (arith, numbers-length xs)

-- a token takes at most 98 bytes
pub token_encoding-short : (shape : Shape) (token : Token) → IsShape shape → TokenFits shape token → length (token_encoding shape token) ≤ 98
token_encoding-short shape token h f =
    let n = suc (sites_of shape) in
    let few : length (take n token.vector) ≡ n = length-take-le n token.vector (omega (arith, f.vector.ten, h.few_sites)) in
    omega (arith, numbers-length (take n token.vector), h.few_sites, few)
