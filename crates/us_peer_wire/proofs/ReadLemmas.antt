-- What a reader knows of what it found.
use Rattle.std.proofs.Common.{◌≡◌, ℕ, ◌<◌, List, Option, None, Some, sym, arith}
use Rattle.std.specs.Prelude.{IfSome}
use Rattle.std.specs.Int.{w8}
use Rattle.us_base.specs.declared.shape.Shape.{Shape}
use Rattle.us_base.specs.Shape.{IsShape, sites_of}
use Rattle.us_wire.specs.Fields.{AreBytes}
use Rattle.us_wire.specs.Decoders.{number_between_at}
use Rattle.us_peer_wire.proofs.PartLaws.{reads_sites}

-- a site is the place of an entry
pub site_is_entry : (shape : Shape) → IsShape shape → (input : List ℕ) (at : ℕ) → AreBytes input → (o : Option (ℕ × ℕ)) → o ≡ number_between_at w8 1 (sites_of shape) input at → IfSome o (λ read. read.0 < 10)
site_is_entry shape is input at are None e = tt
site_is_entry shape is input at are (Some read) e =
    let f = (reads_sites shape is).found input at read.0 read.1 are (sym e) in
    omega (arith, f.1.last, is.few_sites)
