-- The laws, from an equality test that decides.
use Rattle.std.proofs.Common.{◌≡◌, ℕ, List, ◌++◌, Bool, Some, sym, ap, ◌∙◌, subst}
use Rattle.std.specs.Prelude.{slice_get}
use Rattle.std.specs.Bool.{Decides}
use Rattle.us_ballot_model.specs.Worlds.{World, WorldEvent, opening_world}
use Rattle.us_agreement.specs.Laws.{IsPrefix, after, chosen_at, ChosenListsAgree, ChosenListsGrow, ChosenEntriesWereAppended, ChosenEntriesAreHeld}
use Rattle.us_agreement.specs.Laws.{TailsAreShort}
use Rattle.us_agreement.proofs.Same.{get_front, some_below}
use Rattle.us_agreement.proofs.Runs.{dec, every_run_ok}
use Rattle.us_agreement.proofs.Agree.{lists_agree, held_by_many}
use Rattle.us_agreement.proofs.Entries.{Known, run_goes, run_both, opening_known}

module _ {E : Type 0} (eq : E → E → Bool) where
  known_after : (f : ℕ) (hs : List (WorldEvent E)) → Known (after eq f hs)
  known_after f hs = (run_goes eq f hs (opening_world f) (opening_known E f)).known

  pub grow : ChosenListsGrow eq
  grow f hs more s =
      let g = run_goes eq f more (after eq f hs) (known_after f hs) in
      let P : World E → Type 0 = λ w. IsPrefix (chosen_at (after eq f hs) s) (chosen_at w s) in
      subst P (sym (run_both eq f hs more (opening_world f))) (g.longer s)

  pub were_appended : ChosenEntriesWereAppended eq
  were_appended f hs s e i = ((known_after f hs).logs s).chosen e i

  pub short : TailsAreShort eq
  short f hs s = ((known_after f hs).logs s).tail.short

  module _ (decides : (x y : E) → Decides (eq x y) (x ≡ y)) where
    pub agree : ChosenListsAgree eq
    agree f hs s t = lists_agree (dec eq decides) f (after eq f hs) (every_run_ok eq decides f hs) s t

    pub held : ChosenEntriesAreHeld eq
    held f hs more s slot e got =
        let front = grow f hs more s in
        let still : slice_get (chosen_at (after eq f (hs ++ more)) s) slot ≡ Some e =
        ap (λ l. slice_get l slot) front.is ∙ get_front (chosen_at (after eq f hs) s) front.rest slot
        (some_below (chosen_at (after eq f hs) s) slot e got) ∙ got in
        held_by_many (dec eq decides) f (after eq f (hs ++ more)) (every_run_ok eq decides f (hs ++ more)) s slot e still
