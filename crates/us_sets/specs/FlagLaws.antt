-- The flag keeps the laws of a replicated type.
use Rattle.std.proofs.Common.{◌≡◌, List, [], ◌∷◌, Bool, true, refl, ap, ◌∙◌, arith}
use Rattle.std.specs.Prelude.{Some, None, ◌↔◌}
use Rattle.std.specs.FinMap.{empty}
use Rattle.us_kind.specs.Updates.{Stamped, Commutes, CountsUpdates, AnswersInOrder, WasPrepared, before, state_after, with_sums}
use Rattle.us_kind.specs.Comparison.{tag_of}
use Rattle.us_kind.specs.declared.identity.Tag.{Tag}
use Rattle.us_sets.specs.Flag.{flag_initial, flag_move, flag_updated, flag_answered, flag_prepared, flag_reads, enables, disables, flag_value}
use Rattle.us_sets.specs.Marks.{Counts, is_live, live_tags, marks_after}
use Rattle.us_sets.specs.MarksLaws.{Follows, moved-commutes, marks_after-with_sums, is_live-marks_after, follows_addition, follows_removal}
use Rattle.us_sets.specs.declared.flag.FlagOp.{FlagOp}
use Rattle.us_sets.specs.declared.flag.FlagOp.TheVariants.{FlagRead, FlagEnable, FlagDisable}
use Rattle.us_sets.specs.declared.flag.FlagEffect.{FlagEffect}
use Rattle.us_sets.specs.declared.flag.FlagEffect.TheVariants.{Enable, Disable}
use Rattle.us_sets.specs.declared.flag.FlagAnswer.TheVariants.{Bit}

pub flag-commutes : Commutes flag_updated
flag-commutes m a b s t = moved-commutes m (flag_move a) (flag_move b) (tag_of s) (tag_of t)

pub flag-reads : (tag : Tag) (op : FlagOp) (m : Counts) → (flag_prepared tag op m ≡ None) ↔ (flag_reads op ≡ true)
flag-reads tag FlagRead m = (λ e. refl, λ e. refl)
flag-reads tag FlagEnable m = (λ e. absurd (cc), λ e. absurd (cc))
flag-reads tag FlagDisable m = (λ e. absurd (cc), λ e. absurd (cc))

pub flag-counts : CountsUpdates flag_initial flag_updated (λ m. 0)
flag-counts = record { none = refl; one_more = λ m e s. omega arith }

-- the state is the marks
as_marks : (m : Counts) (us : List (Stamped FlagOp FlagEffect)) → state_after flag_updated m us ≡ marks_after flag_move m us
as_marks m [] = refl
as_marks m (u ∷ us) = as_marks (flag_updated m u.effect u.stamp) us

module _ (after : Tag → Tag → Bool) (us : List (Stamped FlagOp FlagEffect)) (u : Stamped FlagOp FlagEffect) (m : Counts) (met : m
    ≡ marks_after flag_move empty (before after u us)) where
  follows : (op : FlagOp) → u.op ≡ op → flag_prepared (tag_of u.stamp) op m ≡ Some u.effect → Follows flag_move enables disables after us u
  follows FlagRead e made = absurd (cc)
  follows FlagEnable e made =
      let effect : u.effect ≡ Enable = cc in
      follows_addition flag_move enables disables after us u (ap flag_move effect) (ap enables e) (ap disables e)
  follows FlagDisable e made =
      let effect : u.effect ≡ Disable (live_tags m) = cc in
      follows_removal flag_move enables disables after us u m met (ap flag_move effect) (ap enables e) (ap disables e)

prepared_follows : (after : Tag → Tag → Bool) (us : List (Stamped FlagOp FlagEffect)) (u : Stamped FlagOp FlagEffect)
    → WasPrepared flag_initial flag_updated flag_prepared after us u → Follows flag_move enables disables after us u
prepared_follows after us u h =
    let earlier = before after u us in
    follows after us u _ (as_marks flag_initial (with_sums h.sum earlier) ∙ marks_after-with_sums flag_move h.sum flag_initial earlier) u.op refl h.effect

pub flag-in_order : AnswersInOrder flag_initial flag_updated flag_answered flag_prepared flag_value
flag-in_order after us history FlagEnable = refl
flag-in_order after us history FlagDisable = refl
flag-in_order after us history FlagRead =
    ap (λ m. Bit (is_live m)) (as_marks flag_initial us)
    ∙ ap Bit (is_live-marks_after flag_move enables disables after us history.ordered (λ u i. prepared_follows after us u (history.made u i)))
