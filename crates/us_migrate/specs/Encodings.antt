-- How transactions, vectors and tokens are encoded, and which have an encoding in a store of a shape.
use Rattle.std.specs.Prelude.{◌≡◌, ℕ, suc, ◌≤◌, ◌<◌, List, ◌∷◌, ◌++◌, length, take}
use Rattle.std.specs.Int.{to_be_bytes, w64}
use Rattle.us_kind.specs.declared.identity.Tid.{Tid}
use Rattle.us_base.specs.declared.shape.Shape.{Shape}
use Rattle.us_base.specs.Shape.{sites_of}
use Rattle.us_base.specs.Vector.{entry}
use Rattle.us_wire.specs.Decoders.{many_encoding, largest_number}
use Rattle.us_migrate.specs.declared.token.Token.{Token}

-- the site, the coordinator, the number
abbrev pub tid_encoding : Tid → List ℕ
tid_encoding tid = tid.site ∷ tid.coord ∷ to_be_bytes w64 tid.seq

-- strong, then each site of the shape
abbrev pub vector_encoding : Shape → List ℕ → List ℕ
vector_encoding shape v = many_encoding (to_be_bytes w64) (take (suc (sites_of shape)) v)

-- the session by its site, coordinator and number, how many of its transactions are committed, the vector
abbrev pub token_encoding : Shape → Token → List ℕ
token_encoding shape token = token.site ∷ token.coord ∷ (to_be_bytes w64 token.session
    ++ (to_be_bytes w64 token.count ++ vector_encoding shape token.vector))

-- ---- what has an encoding

-- one of so many, counted from 1
pub record IsOneOf (most n : ℕ) : Type 0 where
  pub first : 1 ≤ n
  pub last : n ≤ most

pub record TidFits (shape : Shape) (tid : Tid) : Type 0 where
  pub site : IsOneOf (sites_of shape) tid.site
  pub coord : IsOneOf shape.parts tid.coord
  pub seq : IsOneOf largest_number tid.seq

-- ten entries, none too large, and nothing for sites that the shape doesn't have
pub record VectorFits (shape : Shape) (v : List ℕ) : Type 0 where
  pub ten : length v ≡ 10
  pub small : (i : ℕ) → entry v i ≤ largest_number
  pub spare : (i : ℕ) → sites_of shape < i → entry v i ≡ 0

pub record TokenFits (shape : Shape) (token : Token) : Type 0 where
  pub site : IsOneOf (sites_of shape) token.site
  pub coord : IsOneOf shape.parts token.coord
  pub session : IsOneOf largest_number token.session
  pub count : token.count ≤ largest_number
  pub vector : VectorFits shape token.vector
