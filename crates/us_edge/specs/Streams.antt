-- What a source has left and what a sink has taken, where these are told.
use Rattle.std.specs.Prelude.{◌≡◌, ◌<◌, ℕ, length, List, [], ◌++◌, Option, None, Some}

-- what was written, and then the text; what isn't told stays untold
abbrev pub appended : Option (List ℕ) → List ℕ → Option (List ℕ)
appended None text = None
appended (Some written) text = Some (written ++ text)

-- the text, and then what is left; what isn't told stays untold
abbrev pub prepended : List ℕ → Option (List ℕ) → Option (List ℕ)
prepended text None = None
prepended text (Some left) = Some (text ++ left)

-- exactly the text was written, where the sink tells; whether it tells stays
abbrev pub Appends : Option (List ℕ) → Option (List ℕ) → List ℕ → Type 0
Appends before after text = after ≡ appended before text

-- a prefix of the text was written, where the sink tells; whether it tells stays
pub record AppendsPrefix (before after : Option (List ℕ)) (text : List ℕ) : Type 0 where
  pub prefix : List ℕ
  pub rest : List ℕ
  pub whole : text ≡ prefix ++ rest
  pub written : Appends before after prefix

-- the source gave exactly the text, where it tells; whether it tells stays
abbrev pub Gives : Option (List ℕ) → Option (List ℕ) → List ℕ → Type 0
Gives before after text = before ≡ prepended text after

-- the source gave some bytes, or none
pub record GivesSome (before after : Option (List ℕ)) : Type 0 where
  pub came : List ℕ
  pub given : Gives before after came

-- the source gave more bytes than the limit
pub record GivesMoreThan (limit : ℕ) (before after : Option (List ℕ)) : Type 0 where
  pub came : List ℕ
  pub more : limit < length came
  pub given : Gives before after came

-- nothing is left, where the source tells
abbrev pub IsAtEnd : Option (List ℕ) → Type 0
IsAtEnd None = Unit {0}
IsAtEnd (Some left) = left ≡ []
