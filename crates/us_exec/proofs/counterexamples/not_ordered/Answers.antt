use Rattle.std.proofs.Common.{◌≡◌, true, false, refl, inl, inr, ⊎_elim, sym, true≢false}
use Rattle.us_exec.specs.Facts.{Ordered}
use Rattle.us_exec.specs.Examples.{reads_and_writes, writes_and_reads, unseen}
use Rattle.us_exec.proofs.Alone.{lacks_only}
use Rattle.us_exec.proofs.counterexamples.not_ordered.Goals as goal

differ : false ≡ true → ⊥
differ e = true≢false (sym e)

pub returns : goal.returns
returns c = record {
  one_way = lacks_only Ordered reads_and_writes unseen refl
      (λ h. ⊎_elim differ differ (h.ordered _ _ (inl refl) (inr (inl refl)) refl refl refl refl));
  other_way = lacks_only Ordered writes_and_reads unseen refl
      (λ h. ⊎_elim differ differ (h.ordered _ _ (inl refl) (inr (inl refl)) refl refl refl refl));
}
