-- The laws of the joined type: each kind is a share of it, and so the kind's laws are its own.
use Rattle.std.proofs.Common.{◌≡◌, ◌↔◌, ℕ, Bool, true, false, List, [], ◌∷◌, Option, Some, None, refl, ap, map, IsPermutation}
use Rattle.us_kind.specs.declared.identity.Tag.{Tag}
use Rattle.us_kind.specs.declared.identity.Stamp.{Stamp}
use Rattle.us_kind.specs.Updates.{AnswersInAnyOrder, Update}
use Rattle.us_kind.proofs.Permutations.{answers_in_any_order}
use Rattle.us_multi.specs.declared.multi.MultiOp.{MultiOp}
use Rattle.us_multi.specs.declared.multi.MultiOp.TheVariants as multi_asked
use Rattle.us_multi.specs.declared.multi.MultiEffect.{MultiEffect}
use Rattle.us_multi.specs.declared.multi.MultiEffect.TheVariants as multi_done
use Rattle.us_multi.specs.Multi.{multi_initial, multi_updated, multi_answered, multi_prepared, multi_value}
use Rattle.us_multi.specs.MultiLaws.{multi-commutes, multi-in_order}
use Rattle.us_plain.specs.declared.counter.CounterOp.{CounterOp}
use Rattle.us_plain.specs.declared.counter.CounterOp.TheVariants as counter_asked
use Rattle.us_plain.specs.declared.counter.CounterEffect.{CounterEffect}
use Rattle.us_plain.specs.declared.counter.CounterEffect.TheVariants as counter_done
use Rattle.us_plain.specs.Counter.{counter_initial, counter_updated, counter_answered, counter_prepared, counter_value}
use Rattle.us_plain.specs.Sums.{Sum}
use Rattle.us_plain.specs.declared.register.RegisterState.{RegisterState}
use Rattle.us_sets.specs.Elements.{Elements}
use Rattle.us_sets.specs.Marks.{Counts}
use Rattle.us_multi.specs.Writes.{Writes}
use Rattle.us_plain.specs.CounterLaws.{counter-commutes, counter-in_order}
use Rattle.us_plain.specs.declared.register.RegisterOp.{RegisterOp}
use Rattle.us_plain.specs.declared.register.RegisterOp.TheVariants as register_asked
use Rattle.us_plain.specs.declared.register.RegisterEffect.{RegisterEffect}
use Rattle.us_plain.specs.declared.register.RegisterEffect.TheVariants as register_done
use Rattle.us_plain.specs.Register.{register_initial, register_updated, register_answered, register_prepared, register_value}
use Rattle.us_plain.specs.RegisterLaws.{register-commutes, register-in_order}
use Rattle.us_sets.specs.declared.flag.FlagOp.{FlagOp}
use Rattle.us_sets.specs.declared.flag.FlagOp.TheVariants as flag_asked
use Rattle.us_sets.specs.declared.flag.FlagEffect.{FlagEffect}
use Rattle.us_sets.specs.declared.flag.FlagEffect.TheVariants as flag_done
use Rattle.us_sets.specs.Flag.{flag_initial, flag_updated, flag_answered, flag_prepared, flag_value}
use Rattle.us_sets.specs.FlagLaws.{flag-commutes, flag-in_order}
use Rattle.us_sets.specs.declared.set.SetOp.{SetOp}
use Rattle.us_sets.specs.declared.set.SetOp.TheVariants as set_asked
use Rattle.us_sets.specs.declared.set.SetEffect.{SetEffect}
use Rattle.us_sets.specs.declared.set.SetEffect.TheVariants as set_done
use Rattle.us_sets.specs.Set.{set_initial, set_updated, set_answered, set_prepared, set_value}
use Rattle.us_sets.specs.SetLaws.{set-commutes, set-in_order}
use Rattle.us_value.specs.declared.operation.Kind.{Kind}
use Rattle.us_value.specs.declared.operation.Kind.TheVariants as kind
use Rattle.us_value.specs.declared.operation.Op.{Op}
use Rattle.us_value.specs.declared.operation.Op.TheVariants.{RegisterRead, RegisterWrite, CounterRead, CounterAdd, SetMembers, SetContains, SetAdd, SetRemove, FlagRead, FlagEnable, FlagDisable, MultiRead, MultiWrite}
use Rattle.us_value.specs.declared.operation.State.TheVariants as state
use Rattle.us_value.specs.Laws.{AnswersAsDefined, PreparesUpdates}
use Rattle.us_value.specs.Values.{answered, effect_by, initial, is_update, op_fits, prepared, updated, updated_by, value_of, register_effect, counter_effect, set_effect, flag_effect, multi_effect, register_op, counter_op, set_op, flag_op, multi_op, of_register_effect, of_counter_effect, of_set_effect, of_flag_effect, of_multi_effect, of_register_answer, of_counter_answer, of_set_answer, of_flag_answer, of_multi_answer, updates_in}
use Rattle.us_value.proofs.KindShares.{IsShare, share_answers, share_prepares, updates_as}

-- a kind's updates among all are, as the kind sees them, themselves
updates_back : {O : Type 0} (share : Op → Option O) (of_op : O → Op) → ((o : O) → share (of_op o) ≡ Some o) → (us : List (Update O)) → updates_in share (updates_as of_op us) ≡ us
updates_back share of_op back [] = refl
updates_back share of_op back (u ∷ us) = rw (back u.op) (ap (λ (vs : List (Update _)). u ∷ vs) (updates_back share of_op back us))

-- THE REGISTER
abbrev of_register_op : RegisterOp → Op
of_register_op register_asked.RegisterRead = RegisterRead
of_register_op (register_asked.RegisterWrite v) = RegisterWrite v

register_back : (o : RegisterOp) → register_op (of_register_op o) ≡ Some o
register_back register_asked.RegisterRead = refl
register_back (register_asked.RegisterWrite v) = refl

register_fits : (o : Op) → op_fits kind.Register o ≡ true → (p : RegisterOp) × (o ≡ of_register_op p)
register_fits RegisterRead fits = (register_asked.RegisterRead, refl)
register_fits (RegisterWrite v) fits = (register_asked.RegisterWrite v, refl)
register_fits o fits = absurd (cc)

register_moved : (s : RegisterState) (e : RegisterEffect) (m : Stamp) → updated (state.Register s) (of_register_effect e) m ≡ state.Register (register_updated s e m)
register_moved s (register_done.RegisterWrite v) m = refl

register_answers : (o : RegisterOp) (s : RegisterState) → answered (of_register_op o) (state.Register s) ≡ of_register_answer (register_answered o s)
register_answers register_asked.RegisterRead s = refl
register_answers (register_asked.RegisterWrite v) s = refl

register_prepares : (tag : Tag) (o : RegisterOp) (s : RegisterState) → prepared tag (of_register_op o) (state.Register s) ≡ effect_by of_register_effect (register_prepared tag o s)
register_prepares tag register_asked.RegisterRead s = refl
register_prepares tag (register_asked.RegisterWrite v) s = refl

register_one : (e f : RegisterEffect) → of_register_effect e ≡ of_register_effect f → e ≡ f
register_one (register_done.RegisterWrite v) (register_done.RegisterWrite v2) e = cc

register_defined : (o : RegisterOp) (us : List (Update RegisterOp)) (after : Tag → Tag → Bool) → value_of (of_register_op o) (updates_as of_register_op us) after ≡ of_register_answer (register_value o us after)
register_defined register_asked.RegisterRead us after = ap (λ us. of_register_answer (register_value register_asked.RegisterRead us after)) (updates_back register_op of_register_op register_back us)
register_defined (register_asked.RegisterWrite v) us after = refl

register_updates : (tag : Tag) (o : RegisterOp) (s : RegisterState) → (register_prepared tag o s ≡ None) ↔ (is_update (of_register_op o) ≡ false)
register_updates tag register_asked.RegisterRead s = ((λ e. refl), (λ e. refl))
register_updates tag (register_asked.RegisterWrite v) s = ((λ e. absurd (cc)), (λ e. absurd (cc)))

register_share : IsShare kind.Register of_register_op of_register_effect of_register_answer (λ s. state.Register s) register_initial register_updated register_answered register_prepared register_value
register_share = record {
  started = refl;
  fits = register_fits;
  moved = register_moved;
  stays = λ s e m. (updated_by register_updated s (register_effect e) m, refl);
  answers = register_answers;
  prepares = register_prepares;
  one = register_one;
  defined = register_defined;
  updates = register_updates;
}

register_law : AnswersInAnyOrder register_initial register_updated register_answered register_prepared register_value
register_law = answers_in_any_order register_initial register_updated register_answered register_prepared register_value register-commutes register-in_order

-- THE COUNTER
abbrev of_counter_op : CounterOp → Op
of_counter_op counter_asked.CounterRead = CounterRead
of_counter_op (counter_asked.CounterAdd n) = CounterAdd n

counter_back : (o : CounterOp) → counter_op (of_counter_op o) ≡ Some o
counter_back counter_asked.CounterRead = refl
counter_back (counter_asked.CounterAdd n) = refl

counter_fits : (o : Op) → op_fits kind.Counter o ≡ true → (p : CounterOp) × (o ≡ of_counter_op p)
counter_fits CounterRead fits = (counter_asked.CounterRead, refl)
counter_fits (CounterAdd n) fits = (counter_asked.CounterAdd n, refl)
counter_fits o fits = absurd (cc)

counter_moved : (s : Sum) (e : CounterEffect) (m : Stamp) → updated (state.Counter s) (of_counter_effect e) m ≡ state.Counter (counter_updated s e m)
counter_moved s (counter_done.CounterAdd n) m = refl

counter_answers : (o : CounterOp) (s : Sum) → answered (of_counter_op o) (state.Counter s) ≡ of_counter_answer (counter_answered o s)
counter_answers counter_asked.CounterRead s = refl
counter_answers (counter_asked.CounterAdd n) s = refl

counter_prepares : (tag : Tag) (o : CounterOp) (s : Sum) → prepared tag (of_counter_op o) (state.Counter s) ≡ effect_by of_counter_effect (counter_prepared tag o s)
counter_prepares tag counter_asked.CounterRead s = refl
counter_prepares tag (counter_asked.CounterAdd n) s = refl

counter_one : (e f : CounterEffect) → of_counter_effect e ≡ of_counter_effect f → e ≡ f
counter_one (counter_done.CounterAdd n) (counter_done.CounterAdd n2) e = cc

counter_defined : (o : CounterOp) (us : List (Update CounterOp)) (after : Tag → Tag → Bool) → value_of (of_counter_op o) (updates_as of_counter_op us) after ≡ of_counter_answer (counter_value o us after)
counter_defined counter_asked.CounterRead us after = ap (λ us. of_counter_answer (counter_value counter_asked.CounterRead us after)) (updates_back counter_op of_counter_op counter_back us)
counter_defined (counter_asked.CounterAdd n) us after = refl

counter_updates : (tag : Tag) (o : CounterOp) (s : Sum) → (counter_prepared tag o s ≡ None) ↔ (is_update (of_counter_op o) ≡ false)
counter_updates tag counter_asked.CounterRead s = ((λ e. refl), (λ e. refl))
counter_updates tag (counter_asked.CounterAdd n) s = ((λ e. absurd (cc)), (λ e. absurd (cc)))

counter_share : IsShare kind.Counter of_counter_op of_counter_effect of_counter_answer (λ s. state.Counter s) counter_initial counter_updated counter_answered counter_prepared counter_value
counter_share = record {
  started = refl;
  fits = counter_fits;
  moved = counter_moved;
  stays = λ s e m. (updated_by counter_updated s (counter_effect e) m, refl);
  answers = counter_answers;
  prepares = counter_prepares;
  one = counter_one;
  defined = counter_defined;
  updates = counter_updates;
}

counter_law : AnswersInAnyOrder counter_initial counter_updated counter_answered counter_prepared counter_value
counter_law = answers_in_any_order counter_initial counter_updated counter_answered counter_prepared counter_value counter-commutes counter-in_order

-- THE SET
abbrev of_set_op : SetOp → Op
of_set_op set_asked.SetMembers = SetMembers
of_set_op (set_asked.SetContains v) = SetContains v
of_set_op (set_asked.SetAdd v) = SetAdd v
of_set_op (set_asked.SetRemove v) = SetRemove v

set_back : (o : SetOp) → set_op (of_set_op o) ≡ Some o
set_back set_asked.SetMembers = refl
set_back (set_asked.SetContains v) = refl
set_back (set_asked.SetAdd v) = refl
set_back (set_asked.SetRemove v) = refl

set_fits : (o : Op) → op_fits kind.Set o ≡ true → (p : SetOp) × (o ≡ of_set_op p)
set_fits SetMembers fits = (set_asked.SetMembers, refl)
set_fits (SetContains v) fits = (set_asked.SetContains v, refl)
set_fits (SetAdd v) fits = (set_asked.SetAdd v, refl)
set_fits (SetRemove v) fits = (set_asked.SetRemove v, refl)
set_fits o fits = absurd (cc)

set_moved : (s : Elements) (e : SetEffect) (m : Stamp) → updated (state.Set s) (of_set_effect e) m ≡ state.Set (set_updated s e m)
set_moved s (set_done.SetAdd v) m = refl
set_moved s (set_done.SetRemove v ts) m = refl

set_answers : (o : SetOp) (s : Elements) → answered (of_set_op o) (state.Set s) ≡ of_set_answer (set_answered o s)
set_answers set_asked.SetMembers s = refl
set_answers (set_asked.SetContains v) s = refl
set_answers (set_asked.SetAdd v) s = refl
set_answers (set_asked.SetRemove v) s = refl

set_prepares : (tag : Tag) (o : SetOp) (s : Elements) → prepared tag (of_set_op o) (state.Set s) ≡ effect_by of_set_effect (set_prepared tag o s)
set_prepares tag set_asked.SetMembers s = refl
set_prepares tag (set_asked.SetContains v) s = refl
set_prepares tag (set_asked.SetAdd v) s = refl
set_prepares tag (set_asked.SetRemove v) s = refl

set_one : (e f : SetEffect) → of_set_effect e ≡ of_set_effect f → e ≡ f
set_one (set_done.SetAdd v) (set_done.SetAdd v2) e = cc
set_one (set_done.SetAdd v) (set_done.SetRemove v2 ts2) e = absurd (cc)
set_one (set_done.SetRemove v ts) (set_done.SetAdd v2) e = absurd (cc)
set_one (set_done.SetRemove v ts) (set_done.SetRemove v2 ts2) e = cc

set_defined : (o : SetOp) (us : List (Update SetOp)) (after : Tag → Tag → Bool) → value_of (of_set_op o) (updates_as of_set_op us) after ≡ of_set_answer (set_value o us after)
set_defined set_asked.SetMembers us after = ap (λ us. of_set_answer (set_value set_asked.SetMembers us after)) (updates_back set_op of_set_op set_back us)
set_defined (set_asked.SetContains v) us after = ap (λ us. of_set_answer (set_value (set_asked.SetContains v) us after)) (updates_back set_op of_set_op set_back us)
set_defined (set_asked.SetAdd v) us after = refl
set_defined (set_asked.SetRemove v) us after = refl

set_updates : (tag : Tag) (o : SetOp) (s : Elements) → (set_prepared tag o s ≡ None) ↔ (is_update (of_set_op o) ≡ false)
set_updates tag set_asked.SetMembers s = ((λ e. refl), (λ e. refl))
set_updates tag (set_asked.SetContains v) s = ((λ e. refl), (λ e. refl))
set_updates tag (set_asked.SetAdd v) s = ((λ e. absurd (cc)), (λ e. absurd (cc)))
set_updates tag (set_asked.SetRemove v) s = ((λ e. absurd (cc)), (λ e. absurd (cc)))

set_share : IsShare kind.Set of_set_op of_set_effect of_set_answer (λ s. state.Set s) set_initial set_updated set_answered set_prepared set_value
set_share = record {
  started = refl;
  fits = set_fits;
  moved = set_moved;
  stays = λ s e m. (updated_by set_updated s (set_effect e) m, refl);
  answers = set_answers;
  prepares = set_prepares;
  one = set_one;
  defined = set_defined;
  updates = set_updates;
}

set_law : AnswersInAnyOrder set_initial set_updated set_answered set_prepared set_value
set_law = answers_in_any_order set_initial set_updated set_answered set_prepared set_value set-commutes set-in_order

-- THE FLAG
abbrev of_flag_op : FlagOp → Op
of_flag_op flag_asked.FlagRead = FlagRead
of_flag_op flag_asked.FlagEnable = FlagEnable
of_flag_op flag_asked.FlagDisable = FlagDisable

flag_back : (o : FlagOp) → flag_op (of_flag_op o) ≡ Some o
flag_back flag_asked.FlagRead = refl
flag_back flag_asked.FlagEnable = refl
flag_back flag_asked.FlagDisable = refl

flag_fits : (o : Op) → op_fits kind.Flag o ≡ true → (p : FlagOp) × (o ≡ of_flag_op p)
flag_fits FlagRead fits = (flag_asked.FlagRead, refl)
flag_fits FlagEnable fits = (flag_asked.FlagEnable, refl)
flag_fits FlagDisable fits = (flag_asked.FlagDisable, refl)
flag_fits o fits = absurd (cc)

flag_moved : (s : Counts) (e : FlagEffect) (m : Stamp) → updated (state.Flag s) (of_flag_effect e) m ≡ state.Flag (flag_updated s e m)
flag_moved s flag_done.Enable m = refl
flag_moved s (flag_done.Disable ts) m = refl

flag_answers : (o : FlagOp) (s : Counts) → answered (of_flag_op o) (state.Flag s) ≡ of_flag_answer (flag_answered o s)
flag_answers flag_asked.FlagRead s = refl
flag_answers flag_asked.FlagEnable s = refl
flag_answers flag_asked.FlagDisable s = refl

flag_prepares : (tag : Tag) (o : FlagOp) (s : Counts) → prepared tag (of_flag_op o) (state.Flag s) ≡ effect_by of_flag_effect (flag_prepared tag o s)
flag_prepares tag flag_asked.FlagRead s = refl
flag_prepares tag flag_asked.FlagEnable s = refl
flag_prepares tag flag_asked.FlagDisable s = refl

flag_one : (e f : FlagEffect) → of_flag_effect e ≡ of_flag_effect f → e ≡ f
flag_one flag_done.Enable flag_done.Enable e = cc
flag_one flag_done.Enable (flag_done.Disable ts2) e = absurd (cc)
flag_one (flag_done.Disable ts) flag_done.Enable e = absurd (cc)
flag_one (flag_done.Disable ts) (flag_done.Disable ts2) e = cc

flag_defined : (o : FlagOp) (us : List (Update FlagOp)) (after : Tag → Tag → Bool) → value_of (of_flag_op o) (updates_as of_flag_op us) after ≡ of_flag_answer (flag_value o us after)
flag_defined flag_asked.FlagRead us after = ap (λ us. of_flag_answer (flag_value flag_asked.FlagRead us after)) (updates_back flag_op of_flag_op flag_back us)
flag_defined flag_asked.FlagEnable us after = refl
flag_defined flag_asked.FlagDisable us after = refl

flag_updates : (tag : Tag) (o : FlagOp) (s : Counts) → (flag_prepared tag o s ≡ None) ↔ (is_update (of_flag_op o) ≡ false)
flag_updates tag flag_asked.FlagRead s = ((λ e. refl), (λ e. refl))
flag_updates tag flag_asked.FlagEnable s = ((λ e. absurd (cc)), (λ e. absurd (cc)))
flag_updates tag flag_asked.FlagDisable s = ((λ e. absurd (cc)), (λ e. absurd (cc)))

flag_share : IsShare kind.Flag of_flag_op of_flag_effect of_flag_answer (λ s. state.Flag s) flag_initial flag_updated flag_answered flag_prepared flag_value
flag_share = record {
  started = refl;
  fits = flag_fits;
  moved = flag_moved;
  stays = λ s e m. (updated_by flag_updated s (flag_effect e) m, refl);
  answers = flag_answers;
  prepares = flag_prepares;
  one = flag_one;
  defined = flag_defined;
  updates = flag_updates;
}

flag_law : AnswersInAnyOrder flag_initial flag_updated flag_answered flag_prepared flag_value
flag_law = answers_in_any_order flag_initial flag_updated flag_answered flag_prepared flag_value flag-commutes flag-in_order

-- THE MULTI-VALUE REGISTER
abbrev of_multi_op : MultiOp → Op
of_multi_op multi_asked.MultiRead = MultiRead
of_multi_op (multi_asked.MultiWrite v) = MultiWrite v

multi_back : (o : MultiOp) → multi_op (of_multi_op o) ≡ Some o
multi_back multi_asked.MultiRead = refl
multi_back (multi_asked.MultiWrite v) = refl

multi_fits : (o : Op) → op_fits kind.Multi o ≡ true → (p : MultiOp) × (o ≡ of_multi_op p)
multi_fits MultiRead fits = (multi_asked.MultiRead, refl)
multi_fits (MultiWrite v) fits = (multi_asked.MultiWrite v, refl)
multi_fits o fits = absurd (cc)

multi_moved : (s : Writes) (e : MultiEffect) (m : Stamp) → updated (state.Multi s) (of_multi_effect e) m ≡ state.Multi (multi_updated s e m)
multi_moved s (multi_done.MultiWrite v ts) m = refl

multi_answers : (o : MultiOp) (s : Writes) → answered (of_multi_op o) (state.Multi s) ≡ of_multi_answer (multi_answered o s)
multi_answers multi_asked.MultiRead s = refl
multi_answers (multi_asked.MultiWrite v) s = refl

multi_prepares : (tag : Tag) (o : MultiOp) (s : Writes) → prepared tag (of_multi_op o) (state.Multi s) ≡ effect_by of_multi_effect (multi_prepared tag o s)
multi_prepares tag multi_asked.MultiRead s = refl
multi_prepares tag (multi_asked.MultiWrite v) s = refl

multi_one : (e f : MultiEffect) → of_multi_effect e ≡ of_multi_effect f → e ≡ f
multi_one (multi_done.MultiWrite v ts) (multi_done.MultiWrite v2 ts2) e = cc

multi_defined : (o : MultiOp) (us : List (Update MultiOp)) (after : Tag → Tag → Bool) → value_of (of_multi_op o) (updates_as of_multi_op us) after ≡ of_multi_answer (multi_value o us after)
multi_defined multi_asked.MultiRead us after = ap (λ us. of_multi_answer (multi_value multi_asked.MultiRead us after)) (updates_back multi_op of_multi_op multi_back us)
multi_defined (multi_asked.MultiWrite v) us after = refl

multi_updates : (tag : Tag) (o : MultiOp) (s : Writes) → (multi_prepared tag o s ≡ None) ↔ (is_update (of_multi_op o) ≡ false)
multi_updates tag multi_asked.MultiRead s = ((λ e. refl), (λ e. refl))
multi_updates tag (multi_asked.MultiWrite v) s = ((λ e. absurd (cc)), (λ e. absurd (cc)))

multi_share : IsShare kind.Multi of_multi_op of_multi_effect of_multi_answer (λ s. state.Multi s) multi_initial multi_updated multi_answered multi_prepared multi_value
multi_share = record {
  started = refl;
  fits = multi_fits;
  moved = multi_moved;
  stays = λ s e m. (updated_by multi_updated s (multi_effect e) m, refl);
  answers = multi_answers;
  prepares = multi_prepares;
  one = multi_one;
  defined = multi_defined;
  updates = multi_updates;
}

multi_law : AnswersInAnyOrder multi_initial multi_updated multi_answered multi_prepared multi_value
multi_law = answers_in_any_order multi_initial multi_updated multi_answered multi_prepared multi_value multi-commutes multi-in_order

-- ALL KINDS
pub answers-as-defined : AnswersAsDefined
answers-as-defined kind.Register = share_answers _ _ _ _ _ _ _ _ _ _ register_share register_law
answers-as-defined kind.Counter = share_answers _ _ _ _ _ _ _ _ _ _ counter_share counter_law
answers-as-defined kind.Set = share_answers _ _ _ _ _ _ _ _ _ _ set_share set_law
answers-as-defined kind.Flag = share_answers _ _ _ _ _ _ _ _ _ _ flag_share flag_law
answers-as-defined kind.Multi = share_answers _ _ _ _ _ _ _ _ _ _ multi_share multi_law

pub prepares-updates : PreparesUpdates
prepares-updates kind.Register = share_prepares _ _ _ _ _ _ _ _ _ _ register_share
prepares-updates kind.Counter = share_prepares _ _ _ _ _ _ _ _ _ _ counter_share
prepares-updates kind.Set = share_prepares _ _ _ _ _ _ _ _ _ _ set_share
prepares-updates kind.Flag = share_prepares _ _ _ _ _ _ _ _ _ _ flag_share
prepares-updates kind.Multi = share_prepares _ _ _ _ _ _ _ _ _ _ multi_share
