-- The loops that write all and read all.
use Rattle.std.proofs.Common.{◌≡◌, ℕ, ◌+◌, ◌-◌, ◌<◌, ◌≤◌, List, [], ◌++◌, Option, take, drop, length, refl, sym, ap, subst, ◌∙◌, append_assoc, arith}
use Rattle.std.proofs.lemmas.List.{append-nil, take-append-drop, nil_from_length, length-append, length-take-le}
use Rattle.std.proofs.lemmas.Slice.{between_to_end}
use Rattle.us_edge.specs.Faults.{Rose}
use Rattle.us_edge.specs.Streams.{Appends, AppendsPrefix, Gives, GivesMoreThan, GivesSome}
use Rattle.us_edge.proofs.Appending.{Appends-nothing, Appends-then, Gives-then}

-- a prefix of the bytes was written, and the rest is still to be
pub record IsWrittenUpTo (before now : Option (List ℕ)) (bytes rest : List ℕ) : Type 0 where
  pub prefix : List ℕ
  pub whole : bytes ≡ prefix ++ rest
  pub written : Appends before now prefix

pub begins : (before : Option (List ℕ)) (bytes : List ℕ) → IsWrittenUpTo before before bytes bytes
begins before bytes = record { prefix = []; whole = refl; written = Appends-nothing before }

pub goes_on : (before now after : Option (List ℕ)) (bytes rest : List ℕ) (n : ℕ) → IsWrittenUpTo before now bytes rest → Appends now after (take n rest)
    → IsWrittenUpTo before after bytes (take (length rest - n) (drop n rest))
goes_on before now after bytes rest n so_far written =
    let left : take (length rest - n) (drop n rest) ≡ drop n rest = between_to_end rest n (length rest) (omega arith) in
    rw left (record {
      prefix = so_far.prefix ++ take n rest;
      whole = so_far.whole ∙ ap (λ (xs : List ℕ). so_far.prefix ++ xs) (sym (take-append-drop n rest)) ∙ sym (append_assoc so_far.prefix (take n rest) (drop n rest));
      written = Appends-then before now after so_far.prefix (take n rest) so_far.written written;
    })

pub stops : (before now after : Option (List ℕ)) (bytes rest : List ℕ) → IsWrittenUpTo before now bytes rest → after ≡ now → AppendsPrefix before after bytes
stops before now after bytes rest so_far same = record { prefix = so_far.prefix; rest = rest; whole = so_far.whole; written = same ∙ so_far.written }

pub ends : (before now : Option (List ℕ)) (bytes rest : List ℕ) → IsWrittenUpTo before now bytes rest → length rest ≡ 0 → Appends before now bytes
ends before now bytes rest so_far none =
    let all : bytes ≡ so_far.prefix = so_far.whole ∙ ap (λ (xs : List ℕ). so_far.prefix ++ xs) (nil_from_length rest none) ∙ append-nil so_far.prefix in
    subst (λ (xs : List ℕ). Appends before now xs) (sym all) so_far.written

pub reads_on : (before now after : Option (List ℕ)) (bytes buffer piece kept : List ℕ) (n : ℕ) → Gives before now bytes → Gives now after (take n buffer) → piece ≡ take n buffer → kept ≡ bytes ++ piece → Gives before after kept
reads_on before now after bytes buffer piece kept n so_far given is keeps =
    let both : Gives before after (bytes ++ take n buffer) = Gives-then before now after bytes (take n buffer) so_far given in
    subst (λ (xs : List ℕ). Gives before after xs) (sym (keeps ∙ ap (λ (xs : List ℕ). bytes ++ xs) is)) both

pub reads_nothing : (before now after : Option (List ℕ)) (bytes buffer : List ℕ) (n : ℕ) → Gives before now bytes → Gives now after (take n buffer) → n ≡ 0 → Gives before after bytes
reads_nothing before now after bytes buffer n so_far given none =
    reads_on before now after bytes buffer [] bytes n so_far given (sym (ap (λ (k : ℕ). take k buffer) none)) (sym (append-nil bytes))

pub reads_some : (before now after : Option (List ℕ)) (bytes buffer : List ℕ) (n : ℕ) → Gives before now bytes → Gives now after (take n buffer) → GivesSome before after
reads_some before now after bytes buffer n so_far given = record { came = bytes ++ take n buffer; given = Gives-then before now after bytes (take n buffer) so_far given }

pub reads_too_much : (limit : ℕ) (before now after : Option (List ℕ)) (bytes buffer : List ℕ) (n : ℕ) → Gives before now bytes → Gives now after (take n buffer) → n ≤ length buffer → limit < length bytes + n
    → GivesMoreThan limit before after
reads_too_much limit before now after bytes buffer n so_far given fits more = record {
  came = bytes ++ take n buffer;
  more = simp length-append (omega (arith, length-take-le n buffer fits));
  given = Gives-then before now after bytes (take n buffer) so_far given;
}

pub failed_reading : (before now after : Option (List ℕ)) (bytes : List ℕ) → Gives before now bytes → after ≡ now → GivesSome before after
failed_reading before now after bytes so_far same = record { came = bytes; given = subst (λ (left : Option (List ℕ)). Gives before left bytes) (sym same) so_far }

-- a count that rose later rose
pub rose_later : (before then now : ℕ) → before ≤ then → then ≤ now → Rose then now → Rose before now
rose_later before then now so_far counts rose = λ below. grind (arith, rose, below)
