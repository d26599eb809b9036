-- Operations, effects, answers and states of all kinds: each is what its kind says.
use Rattle.std.specs.Prelude.{ℕ, ℤ, negsuc, pos, List, [], ◌∷◌, Bool, true, false, ◌||◌, Option, Some, None, is_some}
use Rattle.us_kind.specs.declared.identity.Tag.{Tag}
use Rattle.us_kind.specs.declared.identity.Stamp.{Stamp}
use Rattle.us_kind.specs.Updates.{Update}
use Rattle.us_multi.specs.declared.multi.MultiOp.{MultiOp}
use Rattle.us_multi.specs.declared.multi.MultiOp.TheVariants as multi_asked
use Rattle.us_multi.specs.declared.multi.MultiEffect.{MultiEffect}
use Rattle.us_multi.specs.declared.multi.MultiEffect.TheVariants as multi_done
use Rattle.us_multi.specs.declared.multi.MultiAnswer.{MultiAnswer}
use Rattle.us_multi.specs.declared.multi.MultiAnswer.TheVariants as multi_told
use Rattle.us_multi.specs.Multi.{multi_initial, multi_updated, multi_answered, multi_prepared, multi_value}
use Rattle.us_plain.specs.declared.counter.CounterOp.{CounterOp}
use Rattle.us_plain.specs.declared.counter.CounterOp.TheVariants as counter_asked
use Rattle.us_plain.specs.declared.counter.CounterEffect.{CounterEffect}
use Rattle.us_plain.specs.declared.counter.CounterEffect.TheVariants as counter_done
use Rattle.us_plain.specs.declared.counter.CounterAnswer.{CounterAnswer}
use Rattle.us_plain.specs.declared.counter.CounterAnswer.TheVariants as counter_told
use Rattle.us_plain.specs.Counter.{counter_initial, counter_updated, counter_answered, counter_prepared, counter_value}
use Rattle.us_plain.specs.declared.register.RegisterOp.{RegisterOp}
use Rattle.us_plain.specs.declared.register.RegisterOp.TheVariants as register_asked
use Rattle.us_plain.specs.declared.register.RegisterEffect.{RegisterEffect}
use Rattle.us_plain.specs.declared.register.RegisterEffect.TheVariants as register_done
use Rattle.us_plain.specs.declared.register.RegisterAnswer.{RegisterAnswer}
use Rattle.us_plain.specs.declared.register.RegisterAnswer.TheVariants as register_told
use Rattle.us_plain.specs.Register.{register_initial, register_updated, register_answered, register_prepared, register_value}
use Rattle.us_sets.specs.declared.flag.FlagOp.{FlagOp}
use Rattle.us_sets.specs.declared.flag.FlagOp.TheVariants as flag_asked
use Rattle.us_sets.specs.declared.flag.FlagEffect.{FlagEffect}
use Rattle.us_sets.specs.declared.flag.FlagEffect.TheVariants as flag_done
use Rattle.us_sets.specs.declared.flag.FlagAnswer.{FlagAnswer}
use Rattle.us_sets.specs.declared.flag.FlagAnswer.TheVariants as flag_told
use Rattle.us_sets.specs.Flag.{flag_initial, flag_updated, flag_answered, flag_prepared, flag_value}
use Rattle.us_sets.specs.declared.set.SetOp.{SetOp}
use Rattle.us_sets.specs.declared.set.SetOp.TheVariants as set_asked
use Rattle.us_sets.specs.declared.set.SetEffect.{SetEffect}
use Rattle.us_sets.specs.declared.set.SetEffect.TheVariants as set_done
use Rattle.us_sets.specs.declared.set.SetAnswer.{SetAnswer}
use Rattle.us_sets.specs.declared.set.SetAnswer.TheVariants as set_told
use Rattle.us_sets.specs.Set.{set_initial, set_updated, set_answered, set_prepared, set_value}
use Rattle.us_value.specs.declared.operation.Kind.{Kind}
use Rattle.us_value.specs.declared.operation.Kind.TheVariants as kind
use Rattle.us_value.specs.declared.operation.Class.{Class}
use Rattle.us_value.specs.declared.operation.Class.TheVariants as class
use Rattle.us_value.specs.declared.operation.Op.{Op}
use Rattle.us_value.specs.declared.operation.Op.TheVariants.{RegisterRead, RegisterWrite, CounterRead, CounterAdd, SetMembers, SetContains, SetAdd}
use Rattle.us_value.specs.declared.operation.Op.TheVariants.{SetRemove, FlagRead, FlagEnable, FlagDisable, MultiRead, MultiWrite}
use Rattle.us_value.specs.declared.operation.Effect.{Effect}
use Rattle.us_value.specs.declared.operation.Effect.TheVariants as effect
use Rattle.us_value.specs.declared.operation.Answer.{Answer}
use Rattle.us_value.specs.declared.operation.Answer.TheVariants as answer
use Rattle.us_value.specs.declared.operation.State.{State}
use Rattle.us_value.specs.declared.operation.State.TheVariants as state

-- CLASSES
-- the operation changes its item
abbrev pub is_update : Op → Bool
is_update RegisterRead = false
is_update (RegisterWrite value) = true
is_update CounterRead = false
is_update (CounterAdd amount) = true
is_update SetMembers = false
is_update (SetContains value) = false
is_update (SetAdd value) = true
is_update (SetRemove value) = true
is_update FlagRead = false
is_update FlagEnable = true
is_update FlagDisable = true
is_update MultiRead = false
is_update (MultiWrite value) = true

-- adding an amount: one of 0 or more is given, one below 0 is taken
abbrev pub class_of_amount : ℤ → Class
class_of_amount (pos n) = class.Give
class_of_amount (negsuc n) = class.Take

-- what the operation does
abbrev pub class_of : Op → Class
class_of RegisterRead = class.Read
class_of (RegisterWrite value) = class.Write
class_of CounterRead = class.Read
class_of (CounterAdd amount) = class_of_amount amount
class_of SetMembers = class.Read
class_of (SetContains value) = class.Read
class_of (SetAdd value) = class.Add
class_of (SetRemove value) = class.Remove
class_of FlagRead = class.Read
class_of FlagEnable = class.Enable
class_of FlagDisable = class.Disable
class_of MultiRead = class.Read
class_of (MultiWrite value) = class.Write

-- some operation of the kind has the class
abbrev pub kind_has : Kind → Class → Bool
kind_has k class.Read = true
kind_has kind.Register class.Write = true
kind_has kind.Counter class.Give = true
kind_has kind.Counter class.Take = true
kind_has kind.Set class.Add = true
kind_has kind.Set class.Remove = true
kind_has kind.Flag class.Enable = true
kind_has kind.Flag class.Disable = true
kind_has kind.Multi class.Write = true
kind_has k c = false

-- THE SHARES: an operation or an effect as that of a kind, where it is one
abbrev pub register_op : Op → Option RegisterOp
register_op RegisterRead = Some register_asked.RegisterRead
register_op (RegisterWrite value) = Some (register_asked.RegisterWrite value)
register_op o = None

abbrev pub counter_op : Op → Option CounterOp
counter_op CounterRead = Some counter_asked.CounterRead
counter_op (CounterAdd amount) = Some (counter_asked.CounterAdd amount)
counter_op o = None

abbrev pub set_op : Op → Option SetOp
set_op SetMembers = Some set_asked.SetMembers
set_op (SetContains value) = Some (set_asked.SetContains value)
set_op (SetAdd value) = Some (set_asked.SetAdd value)
set_op (SetRemove value) = Some (set_asked.SetRemove value)
set_op o = None

abbrev pub flag_op : Op → Option FlagOp
flag_op FlagRead = Some flag_asked.FlagRead
flag_op FlagEnable = Some flag_asked.FlagEnable
flag_op FlagDisable = Some flag_asked.FlagDisable
flag_op o = None

abbrev pub multi_op : Op → Option MultiOp
multi_op MultiRead = Some multi_asked.MultiRead
multi_op (MultiWrite value) = Some (multi_asked.MultiWrite value)
multi_op o = None

abbrev pub register_effect : Effect → Option RegisterEffect
register_effect (effect.RegisterWrite value) = Some (register_done.RegisterWrite value)
register_effect e = None

abbrev pub counter_effect : Effect → Option CounterEffect
counter_effect (effect.CounterAdd amount) = Some (counter_done.CounterAdd amount)
counter_effect e = None

abbrev pub set_effect : Effect → Option SetEffect
set_effect (effect.SetAdd value) = Some (set_done.SetAdd value)
set_effect (effect.SetRemove value tags) = Some (set_done.SetRemove value tags)
set_effect e = None

abbrev pub flag_effect : Effect → Option FlagEffect
flag_effect effect.Enable = Some flag_done.Enable
flag_effect (effect.Disable tags) = Some (flag_done.Disable tags)
flag_effect e = None

abbrev pub multi_effect : Effect → Option MultiEffect
multi_effect (effect.MultiWrite value tags) = Some (multi_done.MultiWrite value tags)
multi_effect e = None

-- THE WAY BACK: a kind's effect or answer as one of all
abbrev pub of_register_effect : RegisterEffect → Effect
of_register_effect (register_done.RegisterWrite value) = effect.RegisterWrite value

abbrev pub of_counter_effect : CounterEffect → Effect
of_counter_effect (counter_done.CounterAdd amount) = effect.CounterAdd amount

abbrev pub of_set_effect : SetEffect → Effect
of_set_effect (set_done.SetAdd value) = effect.SetAdd value
of_set_effect (set_done.SetRemove value tags) = effect.SetRemove value tags

abbrev pub of_flag_effect : FlagEffect → Effect
of_flag_effect flag_done.Enable = effect.Enable
of_flag_effect (flag_done.Disable tags) = effect.Disable tags

abbrev pub of_multi_effect : MultiEffect → Effect
of_multi_effect (multi_done.MultiWrite value tags) = effect.MultiWrite value tags

abbrev pub of_register_answer : RegisterAnswer → Answer
of_register_answer register_told.Done = answer.Done
of_register_answer register_told.Nothing = answer.Nothing
of_register_answer (register_told.Value value) = answer.Value value

abbrev pub of_counter_answer : CounterAnswer → Answer
of_counter_answer counter_told.Done = answer.Done
of_counter_answer (counter_told.Number number) = answer.Number number

abbrev pub of_set_answer : SetAnswer → Answer
of_set_answer set_told.Done = answer.Done
of_set_answer (set_told.Values values) = answer.Values values
of_set_answer (set_told.Bit b) = answer.Bit b

abbrev pub of_flag_answer : FlagAnswer → Answer
of_flag_answer flag_told.Done = answer.Done
of_flag_answer (flag_told.Bit b) = answer.Bit b

abbrev pub of_multi_answer : MultiAnswer → Answer
of_multi_answer multi_told.Done = answer.Done
of_multi_answer (multi_told.Values values) = answer.Values values

-- WHAT IS NO OPERATION OR EFFECT OF THE KIND leaves the state, has no effect and answers Done
abbrev pub updated_by : {E S : Type 0} → (S → E → Stamp → S) → S → Option E → Stamp → S
updated_by updated s None stamp = s
updated_by updated s (Some e) stamp = updated s e stamp

abbrev pub answered_by : {O A S : Type 0} → (A → Answer) → (O → S → A) → Option O → S → Answer
answered_by told answered None s = answer.Done
answered_by told answered (Some o) s = told (answered o s)

abbrev pub effect_by : {E : Type 0} → (E → Effect) → Option E → Option Effect
effect_by done None = None
effect_by done (Some e) = Some (done e)

abbrev pub prepared_by : {O E S : Type 0} → (E → Effect) → (Tag → O → S → Option E) → Tag → Option O → S → Option Effect
prepared_by done prepared tag None s = None
prepared_by done prepared tag (Some o) s = effect_by done (prepared tag o s)

-- an update as a kind sees it, if it is one of the kind's, and then these
abbrev pub put_update : {O : Type 0} → Tag → Option O → List (Update O) → List (Update O)
put_update tag None us = us
put_update tag (Some o) us = record { tag = tag; op = o } ∷ us

-- the updates as a kind sees them: those that are its own
abbrev pub updates_in : {O : Type 0} → (Op → Option O) → List (Update Op) → List (Update O)
updates_in share [] = []
updates_in share (u ∷ us) = put_update u.tag (share u.op) (updates_in share us)

-- ALL KINDS
-- the operation is one of the kind
abbrev pub op_fits : Kind → Op → Bool
op_fits kind.Register o = is_some (register_op o)
op_fits kind.Counter o = is_some (counter_op o)
op_fits kind.Set o = is_some (set_op o)
op_fits kind.Flag o = is_some (flag_op o)
op_fits kind.Multi o = is_some (multi_op o)

-- the effect is one of the kind
abbrev pub effect_fits : Kind → Effect → Bool
effect_fits kind.Register e = is_some (register_effect e)
effect_fits kind.Counter e = is_some (counter_effect e)
effect_fits kind.Set e = is_some (set_effect e)
effect_fits kind.Flag e = is_some (flag_effect e)
effect_fits kind.Multi e = is_some (multi_effect e)

-- the kind of which a state is
abbrev pub kind_of_state : State → Kind
kind_of_state (state.Register s) = kind.Register
kind_of_state (state.Counter s) = kind.Counter
kind_of_state (state.Set s) = kind.Set
kind_of_state (state.Flag s) = kind.Flag
kind_of_state (state.Multi s) = kind.Multi

-- the state before any update
abbrev pub initial : Kind → State
initial kind.Register = state.Register register_initial
initial kind.Counter = state.Counter counter_initial
initial kind.Set = state.Set set_initial
initial kind.Flag = state.Flag flag_initial
initial kind.Multi = state.Multi multi_initial

-- how many updates a counter counted in
abbrev pub update_count : State → ℕ
update_count (state.Register s) = 0
update_count (state.Counter s) = s.updates
update_count (state.Set s) = 0
update_count (state.Flag s) = 0
update_count (state.Multi s) = 0

-- the state after an effect
abbrev pub updated : State → Effect → Stamp → State
updated (state.Register s) e stamp = state.Register (updated_by register_updated s (register_effect e) stamp)
updated (state.Counter s) e stamp = state.Counter (updated_by counter_updated s (counter_effect e) stamp)
updated (state.Set s) e stamp = state.Set (updated_by set_updated s (set_effect e) stamp)
updated (state.Flag s) e stamp = state.Flag (updated_by flag_updated s (flag_effect e) stamp)
updated (state.Multi s) e stamp = state.Multi (updated_by multi_updated s (multi_effect e) stamp)

-- what an operation answers at a state
abbrev pub answered : Op → State → Answer
answered o (state.Register s) = answered_by of_register_answer register_answered (register_op o) s
answered o (state.Counter s) = answered_by of_counter_answer counter_answered (counter_op o) s
answered o (state.Set s) = answered_by of_set_answer set_answered (set_op o) s
answered o (state.Flag s) = answered_by of_flag_answer flag_answered (flag_op o) s
answered o (state.Multi s) = answered_by of_multi_answer multi_answered (multi_op o) s

-- the effect of an operation at a state, where it updates
abbrev pub prepared : Tag → Op → State → Option Effect
prepared tag o (state.Register s) = prepared_by of_register_effect register_prepared tag (register_op o) s
prepared tag o (state.Counter s) = prepared_by of_counter_effect counter_prepared tag (counter_op o) s
prepared tag o (state.Set s) = prepared_by of_set_effect set_prepared tag (set_op o) s
prepared tag o (state.Flag s) = prepared_by of_flag_effect flag_prepared tag (flag_op o) s
prepared tag o (state.Multi s) = prepared_by of_multi_effect multi_prepared tag (multi_op o) s

-- THE VALUE OF AN OPERATION over updates of its item, in arbitration order, under the relation "after"
abbrev pub value_of : Op → List (Update Op) → (Tag → Tag → Bool) → Answer
value_of RegisterRead us after = of_register_answer (register_value register_asked.RegisterRead (updates_in register_op us) after)
value_of CounterRead us after = of_counter_answer (counter_value counter_asked.CounterRead (updates_in counter_op us) after)
value_of SetMembers us after = of_set_answer (set_value set_asked.SetMembers (updates_in set_op us) after)
value_of (SetContains value) us after = of_set_answer (set_value (set_asked.SetContains value) (updates_in set_op us) after)
value_of FlagRead us after = of_flag_answer (flag_value flag_asked.FlagRead (updates_in flag_op us) after)
value_of MultiRead us after = of_multi_answer (multi_value multi_asked.MultiRead (updates_in multi_op us) after)
value_of o us after = answer.Done
