-- Up to where each other site was sent each origin's transactions.
use Rattle.std.specs.Prelude.{◌≡◌, ℕ, ◌-◌, List, length, replicate, Option, Some, None, slice_get, slice_set}
use Rattle.us_base.specs.Shape.{IsShape, sites_of}
use Rattle.us_base.specs.Vector.{join, with_entry, zero}
use Rattle.us_base.specs.declared.shape.Shape.{Shape}

-- for each site, from 1: up to where it was sent each origin's transactions, and what it said that it knows
pub record SentState : Type 0 where
  pub shape : Shape
  pub sent : List (List ℕ)
  pub heard : List (List ℕ)

-- there is a place for each site
pub record IsWhole (s : SentState) : Type 0 where
  pub shape : IsShape s.shape
  pub sent : length s.sent ≡ sites_of s.shape
  pub heard : length s.heard ≡ sites_of s.shape

abbrev pub nothing_sent : Shape → SentState
nothing_sent shape = record { shape = shape; sent = replicate (sites_of shape) zero; heard = replicate (sites_of shape) zero }

abbrev pub or_zero : Option (List ℕ) → List ℕ
or_zero None = zero
or_zero (Some v) = v

-- the vector of the site of this number in such a table
abbrev pub row : List (List ℕ) → ℕ → List ℕ
row table site = or_zero (slice_get table (site - 1))

abbrev pub sent_to : SentState → ℕ → List ℕ
sent_to s site = row s.sent site

-- a site was sent an origin's transactions up to this entry
abbrev pub with_sent : SentState → ℕ → ℕ → ℕ → SentState
with_sent s site origin hi = record s { sent = slice_set s.sent (site - 1) (with_entry (sent_to s site) origin hi) }

-- a site says what it knows: it is sent again from what it ever said
abbrev pub with_heard : SentState → ℕ → List ℕ → SentState
with_heard s site known =
    record s {
      heard = slice_set s.heard (site - 1) (join (row s.heard site) known);
      sent = slice_set s.sent (site - 1) (join (row s.heard site) known);
    }
