use Rattle.std.proofs.Common.{◌≡◌, ℕ, suc, ◌<◌, ◌≤◌, List, get_or, refl, inl, inr, sym, ap, arith, true≢false}
use Rattle.us_exec.specs.declared.Entry.{Entry}
use Rattle.us_exec.specs.Facts.{Numbered, OfCoordinators, LooseOfCoordinators, BegunInOrder, NamedOnce, LooseNamedOnce, NamedApart, CountedOnce, CountedFromOne, CountedWithin, LooseCountedOnce, LooseCountedFromOne, LooseCountedWithin}
use Rattle.us_exec.specs.Examples.{session, reads_and_writes, without_first, elsewhere, loose_elsewhere, begun_before, one_name, loose_twice, committed_and_loose, twice, none_of, too_many, with_past, with_loose_past}
use Rattle.us_exec.proofs.Alone.{lacks_only}
use Rattle.us_exec.proofs.counterexamples.not_well_formed.Goals as goal

pub returns : goal.returns
returns c = record {
  numbers = lacks_only Numbered reads_and_writes without_first refl
      (λ h. let e : suc 1 ≡ 1 = ap (λ (ns : List ℕ). get_or ns 0 0) (h (session 1)) in omega arith);
  coordinators = lacks_only OfCoordinators reads_and_writes elsewhere refl
      (λ h. let e : suc 1 ≡ 1 = (h _ (inr (inl refl))).coord in omega arith);
  loose_coordinators = lacks_only LooseOfCoordinators reads_and_writes loose_elsewhere refl
      (λ h. let e : suc 1 ≡ 1 = (h _ (inl refl)).coord in omega arith);
  begun = lacks_only BegunInOrder reads_and_writes begun_before refl
      (λ h. let e : 1 < 0 = h _ _ (inl refl) (inr (inl refl)) refl (omega arith) in omega arith);
  once = lacks_only NamedOnce reads_and_writes one_name refl
      (λ h. let e : 1 ≡ suc 1 = ap (λ (e : Entry). e.session.number) (h _ _ (inl refl) (inr (inl refl)) refl) in omega arith);
  loose_once = lacks_only LooseNamedOnce reads_and_writes loose_twice refl
      (λ h. h.0.0 refl);
  apart = lacks_only NamedApart reads_and_writes committed_and_loose refl
      (λ h. h _ _ (inl refl) (inl refl) refl);
  past_twice = lacks_only CountedOnce reads_and_writes (with_past twice) refl
      (λ h. true≢false (sym (h _ (inr (inl refl))).0.0));
  past_of_none = lacks_only CountedFromOne reads_and_writes (with_past none_of) refl
      (λ h. let e : 1 ≤ 0 = h _ (inr (inl refl)) _ (inr (inl refl)) in omega arith);
  past_too_many = lacks_only CountedWithin reads_and_writes (with_past too_many) refl
      (λ h. let e : 1 ≤ 0 = h _ (inr (inl refl)) _ (inr (inl refl)) in omega arith);
  loose_past_twice = lacks_only LooseCountedOnce reads_and_writes (with_loose_past twice) refl
      (λ h. true≢false (sym (h _ (inl refl)).0.0));
  loose_past_of_none = lacks_only LooseCountedFromOne reads_and_writes (with_loose_past none_of) refl
      (λ h. let e : 1 ≤ 0 = h _ (inl refl) _ (inr (inl refl)) in omega arith);
  loose_past_too_many = lacks_only LooseCountedWithin reads_and_writes (with_loose_past too_many) refl
      (λ h. let e : 1 ≤ 0 = h _ (inl refl) _ (inr (inl refl)) in omega arith);
}
