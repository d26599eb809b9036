-- Writing one text after another.
use Rattle.std.proofs.Common.{◌≡◌, ℕ, List, [], ◌++◌, Option, None, Some, refl, sym, ap, ◌∙◌, append_assoc}
use Rattle.std.proofs.lemmas.List.{append-nil}
use Rattle.us_edge.specs.Streams.{appended, prepended, Appends, AppendsPrefix, Gives}

pub appended-nil : (written : Option (List ℕ)) → appended written [] ≡ written
appended-nil None = refl
appended-nil (Some written) = ap Some (append-nil written)

pub appended-appended : (written : Option (List ℕ)) (prefix back : List ℕ) → appended (appended written prefix) back ≡ appended written (prefix ++ back)
appended-appended None prefix back = refl
appended-appended (Some written) prefix back = ap Some (append_assoc written prefix back)

pub prepended-prepended : (left : Option (List ℕ)) (prefix back : List ℕ) → prepended prefix (prepended back left) ≡ prepended (prefix ++ back) left
prepended-prepended None prefix back = refl
prepended-prepended (Some left) prefix back = ap Some (sym (append_assoc prefix back left))

pub prepended-nil : (left : Option (List ℕ)) → left ≡ prepended [] left
prepended-nil None = refl
prepended-nil (Some left) = refl

-- nothing was written
pub Appends-nothing : (written : Option (List ℕ)) → Appends written written []
Appends-nothing written = sym (appended-nil written)

-- one text and then the other
pub Appends-then : (before between after : Option (List ℕ)) (prefix back : List ℕ) → Appends before between prefix → Appends between after back → Appends before after (prefix ++ back)
Appends-then before between after prefix back one other =
    other ∙ ap (λ (written : Option (List ℕ)). appended written back) one ∙ appended-appended before prefix back

-- the source gave one text and then the other
pub Gives-then : (before between after : Option (List ℕ)) (prefix back : List ℕ) → Gives before between prefix → Gives between after back → Gives before after (prefix ++ back)
Gives-then before between after prefix back one other =
    one ∙ ap (λ (left : Option (List ℕ)). prepended prefix left) other ∙ prepended-prepended after prefix back

-- a prefix of a text is a prefix of one that goes on
pub AppendsPrefix-more : (before after : Option (List ℕ)) (text more : List ℕ) → AppendsPrefix before after text → AppendsPrefix before after (text ++ more)
AppendsPrefix-more before after text more part = record {
  prefix = part.prefix;
  rest = part.rest ++ more;
  whole = ap (λ (xs : List ℕ). xs ++ more) part.whole ∙ append_assoc part.prefix part.rest more;
  written = part.written;
}

-- one text whole, and a prefix of the next
pub AppendsPrefix-then : (before between after : Option (List ℕ)) (text next : List ℕ) → Appends before between text → AppendsPrefix between after next → AppendsPrefix before after (text ++ next)
AppendsPrefix-then before between after text next written part = record {
  prefix = text ++ part.prefix;
  rest = part.rest;
  whole = ap (λ (xs : List ℕ). text ++ xs) part.whole ∙ sym (append_assoc text part.prefix part.rest);
  written = Appends-then before between after text part.prefix written part.written;
}

-- the source gave nothing
pub Gives-nothing : (left : Option (List ℕ)) → Gives left left []
Gives-nothing left = prepended-nil left
