use Rattle.std.proofs.Common.{◌≡◌, ℕ, suc, List, [], ◌∷◌, Bool, true, false, get_or, refl, inl, inr, sym, ap, arith, true≢false}
use Rattle.us_value.specs.declared.operation.Answer.TheVariants as answer
use Rattle.us_exec.specs.Facts.{Valued, LooseValued}
use Rattle.us_exec.specs.Examples.{reads_and_writes, stale_read, loose_stale_read, own_write_overlooked, read_outside_past, first_of_two_writers, unseen_add_removed, seen_add_kept}
use Rattle.us_exec.proofs.Alone.{lacks_only}
use Rattle.us_exec.proofs.counterexamples.not_valued.Goals as goal

-- answers that differ
nothing : (v : List ℕ) → answer.Nothing ≡ answer.Value v → ⊥
nothing v e = cc

something : (v : List ℕ) → answer.Value v ≡ answer.Nothing → ⊥
something v e = cc

values : (v w : List ℕ) → answer.Value v ≡ answer.Value w → v ≡ w
values v w e = cc

bits : (s t : Bool) → answer.Bit s ≡ answer.Bit t → s ≡ t
bits s t e = cc

pub returns : goal.returns
returns c = record {
  stale_read = lacks_only Valued reads_and_writes stale_read refl
      (λ h. nothing (5 ∷ []) (h _ (inr (inl refl))).0);
  loose_stale_read = lacks_only LooseValued reads_and_writes loose_stale_read refl
      (λ h. nothing (5 ∷ []) (h _ (inl refl)).0);
  own_write = lacks_only Valued reads_and_writes own_write_overlooked refl
      (λ h. nothing (5 ∷ []) (h _ (inl refl)).1.0);
  outside_past = lacks_only Valued reads_and_writes read_outside_past refl
      (λ h. something (5 ∷ []) (h _ (inr (inl refl))).0);
  first_writer = lacks_only Valued reads_and_writes first_of_two_writers refl
      (λ h. let e : 5 ≡ suc 5 = ap (λ (v : List ℕ). get_or v 0 0) (values (5 ∷ []) (6 ∷ []) (h _ (inr (inr (inl refl)))).0) in omega arith);
  unseen_add = lacks_only Valued reads_and_writes unseen_add_removed refl
      (λ h. true≢false (sym (bits false true (h _ (inr (inr (inl refl)))).0)));
  seen_add = lacks_only Valued reads_and_writes seen_add_kept refl
      (λ h. true≢false (bits true false (h _ (inr (inr (inl refl)))).0));
}
