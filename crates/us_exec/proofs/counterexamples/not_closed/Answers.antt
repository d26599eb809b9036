use Rattle.std.proofs.Common.{◌≡◌, suc, [], ◌∷◌, refl, inl, inr, sym, ap, arith, true≢false}
use Rattle.us_exec.specs.declared.Entry.{Entry}
use Rattle.us_exec.specs.Consistency.{StandsBefore}
use Rattle.us_exec.specs.Facts.{Linked, LooseLinked, Transitive, LooseTransitive, InSession, LooseInSession, InOrder}
use Rattle.us_exec.specs.Examples.{reads_and_writes, writer, second_has_first, overlooked_link, loose_overlooked_link, overlooked_step, loose_overlooked_step, overlooked_past, loose_overlooked_past, wrong_order}
use Rattle.us_exec.proofs.Alone.{lacks_only}
use Rattle.us_exec.proofs.counterexamples.not_closed.Goals as goal

other : second_has_first ≡ writer → ⊥
other e = let n : suc 1 ≡ 1 = ap (λ (x : Entry). x.session.number) e in omega arith

not_before : StandsBefore writer second_has_first (second_has_first ∷ writer ∷ []) → ⊥
not_before (inl (e, i)) = other e
not_before (inr (inl (e, i))) = absurd i
not_before (inr (inr i)) = absurd i

pub returns : goal.returns
returns c = record {
  link = lacks_only Linked reads_and_writes overlooked_link refl
      (λ h. true≢false (sym (h _ (inr (inl refl)) _ _ (inl refl) (inl refl) refl refl (omega arith))));
  loose_link = lacks_only LooseLinked reads_and_writes loose_overlooked_link refl
      (λ h. true≢false (sym (h _ (inl refl) _ _ (inl refl) (inl refl) refl refl (omega arith))));
  step = lacks_only Transitive reads_and_writes overlooked_step refl
      (λ h. true≢false (sym (h _ (inr (inr (inl refl))) _ _ (inl refl) (inr (inl refl)) refl refl)));
  loose_step = lacks_only LooseTransitive reads_and_writes loose_overlooked_step refl
      (λ h. true≢false (sym (h _ (inl refl) _ _ (inl refl) (inr (inl refl)) refl refl)));
  session = lacks_only InSession reads_and_writes overlooked_past refl
      (λ h. true≢false (sym (h _ _ (inl refl) (inr (inl refl)) refl (omega arith))));
  loose_session = lacks_only LooseInSession reads_and_writes loose_overlooked_past refl
      (λ h. true≢false (sym (h _ _ (inl refl) (inl refl) refl (omega arith))));
  order = lacks_only InOrder reads_and_writes wrong_order refl
      (λ h. not_before (h writer second_has_first (inr (inl refl)) (inl refl) refl));
}
