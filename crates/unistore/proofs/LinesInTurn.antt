-- The lines of a text in turn, and the report at their end.
use Rattle.std.proofs.Common.{◌≡◌, ◌∙◌, ℕ, ◌+◌, List, [], ◌∷◌, ◌++◌, length, map, append-nil, append_assoc, take, drop, false, refl, sym, ap, subst, arith}
use Rattle.std.proofs.lemmas.List.{map-append}
use Rattle.us_base.specs.Shape.{IsShape}
use Rattle.us_exec.specs.declared.Execution.{Execution}
use Rattle.us_exec.specs.declared.RefusedRequest.{RefusedRequest}
use Rattle.us_exec.specs.declared.WaitingRequest.{WaitingRequest}
use Rattle.us_report.specs.declared.report.Report.{Report}
use Rattle.us_schedule.specs.declared.line.Line.{Line}
use Rattle.us_model.specs.declared.settings.Settings.{Settings}
use Rattle.us_model.specs.Worlds.{World, waits_of}
use Rattle.us_model.specs.Executions.{execution_of, refusals_of}
use Rattle.us_order.specs.Premise.{HasOnePartition}
use Rattle.us_world.specs.declared.fault.Numbered.{Numbered}
use Rattle.us_world.specs.declared.fault.WorldFault.{WorldFault}
use Rattle.us_world.specs.declared.fault.WorldFault.TheVariants as fault
use Rattle.us_world.specs.Limits.{IsPassedBy, IsPassedAt, OutcomesAreOne, lines_of, line_of}
use Rattle.us_world.specs.Lines.{Performed, HasPerformed, IsOpening, HasWorld, OfWorld, IsFaultOf, IsLimitOf, fault_at, IsBuilt, AllBuilt}
use Rattle.unistore.specs.Performing.{ArePerformed, IsReportOf, report_of}

-- the lines but for those that are left are performed
pub record FrontPerformed (settings : Settings) (all left : List Numbered) (world : Performed) : Type 0 where
  pub before : List Numbered
  pub split : all ≡ before ++ left
  pub performed : ArePerformed settings before world

pub front_none : (settings : Settings) (all : List Numbered) (world : Performed) → IsOpening settings world → FrontPerformed settings all all world
front_none settings all world h = record {
  before = [];
  split = refl;
  performed = record { settings_are = h.settings_are; lines_are = h.lines; runs = h.runs; reached = h.reached };
}

pub front_more : (settings : Settings) (all left rest : List Numbered) (l : Numbered) (old new : Performed) → FrontPerformed settings all left old
    → left ≡ l ∷ rest → HasPerformed l.line old new → FrontPerformed settings all rest new
front_more settings all left rest l old new so is h =
    let more : old.lines ++ l.line ∷ [] ≡ lines_of (so.before ++ l ∷ []) =
    ap (λ (ls : List Line). ls ++ l.line ∷ []) so.performed.lines_are ∙ sym (map-append line_of so.before (l ∷ []))
    in
    record {
      before = so.before ++ l ∷ [];
      split = so.split ∙ ap (λ ls. so.before ++ ls) is ∙ sym (append_assoc so.before (l ∷ []) rest);
      performed =
          record {
            settings_are = h.settings ∙ so.performed.settings_are;
            lines_are = h.lines ∙ more;
            runs = h.runs;
            reached =
                subst (λ (s : Settings). HasWorld s (lines_of (so.before ++ l ∷ []))) so.performed.settings_are
                (subst (λ (ls : List Line). HasWorld old.settings ls) more h.reached);
          };
    }

passed-at : (settings : Settings) (all left rest : List Numbered) (l : Numbered) (old : Performed) (which : WorldFault) → FrontPerformed settings all left old
    → left ≡ l ∷ rest → IsPassedBy old.settings old.lines l.line which → IsPassedAt settings all l.number which
passed-at settings all left rest l old which so is past = record {
  before = so.before;
  line = l;
  after = rest;
  split = so.split ∙ ap (λ ls. so.before ++ ls) is;
  at = refl;
  passed =
      subst (λ (s : Settings). IsPassedBy s (lines_of so.before) l.line which) so.performed.settings_are
      (subst (λ (ls : List Line). IsPassedBy old.settings ls l.line which) so.performed.lines_are past);
}

pub front_stops : (settings : Settings) (e : WorldFault) (all left rest : List Numbered) (l : Numbered) (old : Performed) → FrontPerformed settings all left old
    → left ≡ l ∷ rest → IsFaultOf old.settings old.lines l.line e → IsLimitOf settings all (fault_at l.number e)
front_stops settings fault.Memory all left rest l old so is past = tt
front_stops settings fault.Events all left rest l old so is past = passed-at settings all left rest l old fault.Events so is past
front_stops settings fault.Sessions all left rest l old so is past = passed-at settings all left rest l old fault.Sessions so is past
front_stops settings fault.Transactions all left rest l old so is past = passed-at settings all left rest l old fault.Transactions so is past

pub front_all : (settings : Settings) (all : List Numbered) (world : Performed) → FrontPerformed settings all [] world → ArePerformed settings all world
front_all settings all world so =
    let same : so.before ≡ all = sym (so.split ∙ append-nil so.before) in
    subst (λ (ls : List Numbered). ArePerformed settings ls world) same so.performed

pub built_head : (left rest : List Numbered) (l : Numbered) → AllBuilt left → left ≡ l ∷ rest → IsBuilt l.line
built_head left rest l b is = (subst AllBuilt is b).0

pub built_rest : (left rest : List Numbered) (l : Numbered) → AllBuilt left → left ≡ l ∷ rest → AllBuilt rest
built_rest left rest l b is = (subst AllBuilt is b).1

-- THE REPORT
-- what is told of the world of the lines three times is told of one world
pub report_is : (settings : Settings) (lines : List Line) (execution : Execution) (refused : List RefusedRequest) (waiting : List WaitingRequest)
    → OutcomesAreOne
    → OfWorld settings lines (λ w. execution ≡ execution_of w.notes)
    → OfWorld settings lines (λ w. refused ≡ refusals_of w.notes)
    → OfWorld settings lines (λ w. waiting ≡ waits_of w.sites)
    → OfWorld settings lines (λ w. record { execution = execution; refused = refused; waiting = waiting } ≡ report_of w)
report_is settings lines execution refused waiting one a b c =
    let ab : b.world ≡ a.world = one.worlds settings lines b.world a.world b.is a.is in
    let ac : c.world ≡ a.world = one.worlds settings lines c.world a.world c.is a.is in
    let r : refused ≡ refusals_of a.world.notes = subst (λ (w : World). refused ≡ refusals_of w.notes) ab b.holds in
    let w : waiting ≡ waits_of a.world.sites = subst (λ (w : World). waiting ≡ waits_of w.sites) ac c.holds in
    record { world = a.world; is = a.is; holds = λ i. record { execution = a.holds i; refused = r i; waiting = w i } }

pub report_of_all : (settings : Settings) (lines : List Numbered) (world : Performed) (report : Report) → ArePerformed settings lines world
    → OfWorld world.settings world.lines (λ w. report ≡ report_of w) → IsReportOf settings lines report
report_of_all settings lines world report so of =
    let there : OfWorld settings (lines_of lines) (λ w. report ≡ report_of w) =
    subst (λ (s : Settings). OfWorld s (lines_of lines) (λ w. report ≡ report_of w)) so.settings_are
    (subst (λ (ls : List Line). OfWorld world.settings ls (λ w. report ≡ report_of w)) so.lines_are of)
    in
    record { world = there.world; reached = there.is; is = there.holds }

-- such a store has a shape
pub one_shape : (settings : Settings) → HasOnePartition settings → IsShape settings.shape
one_shape settings one =
    let f = one.site in
    let parts = one.partition in
    record { few_sites = omega arith; some_partition = omega arith; few_partitions = omega arith }
