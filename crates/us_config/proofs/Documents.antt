-- Texts that are TOML.
use Rattle.std.proofs.Common.{◌≡◌, ℕ, cond, List, Some, None, Ok, Err, refl, inl, inr}
use Rattle.std.specs.Str.{is_utf8, IsUtf8}
use Rattle.std.proofs.lemmas.Bool.{cases_Bool}
use Rattle.std.proofs.lemmas.Str.{IsUtf8-from_is_utf8, is_utf8-from_IsUtf8}
use Rattle.toml.specs.Data.{Members}
use Rattle.toml.specs.Parse.{parse_document}
use Rattle.us_config.specs.declared.fault.Key.TheVariants.{Top}
use Rattle.us_config.specs.declared.fault.ConfigFault.TheVariants.{NotToml}
use Rattle.us_config.specs.declared.fault.ReadFault.TheVariants as read
use Rattle.us_config.specs.Document.{or_not_toml}
use Rattle.us_config.specs.Meaning.{document_of}

pub is_document : (text : List ℕ) (ms : Members) → IsUtf8 text → parse_document text ≡ Some ms → or_not_toml (document_of text) ≡ Ok ms
is_document text ms utf8 is = let e = is_utf8-from_IsUtf8 text utf8 in rw (e, is) refl

pub no_document : (text : List ℕ) → (IsUtf8 text → parse_document text ≡ None) → or_not_toml (document_of text) ≡ Err (read.Refused Top NotToml)
no_document text none =
    elim (cases_Bool (is_utf8 text)) [
      | inl e ↦ let f = none (IsUtf8-from_is_utf8 text e) in rw (e, f) refl
      | inr e ↦ rw e refl
    ]
