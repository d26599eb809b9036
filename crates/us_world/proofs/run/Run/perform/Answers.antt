use Rattle.std.proofs.Common.{sym, subst, List, ℕ}
use Rattle.std.specs.Prelude.{OnOk, IfErr}
use Rattle.us_schedule.specs.declared.line.Line.{Line}
use Rattle.us_schedule.specs.declared.line.Line.TheVariants as line
use Rattle.us_model.specs.declared.event.Event.TheVariants as event
use Rattle.us_world.specs.WorldState.{after_at}
use Rattle.us_world.specs.Limits.{Performs}
use Rattle.us_world.specs.Lines.{IsPerformed, IsStopped}
use Rattle.us_world.proofs.WorldEvents.{one_goes, one_stops}
use Rattle.us_world.proofs.Lines.{one_opening, one_sending, one_closing}
use Rattle.us_world.proofs.run.Run.perform.Goals as goal

pub returns-in-Open-clause-performed : goal.returns-in-Open-clause-performed
returns-in-Open-clause-performed c =
    let at = c.in-Open in
    let old = c.args.self.now in
    subst (λ (l : Line). OnOk c.happen.result (IsPerformed l old c.happen.new.self)) (sym at.is)
    (one_goes c.happen.result (Performs (line.Open at.site at.coord)) old (after_at old at.site (event.Open at.coord)) c.happen.new.self
    (one_opening old at.site at.coord) c.happen.ensures.happened c.happen.ensures.limit)

pub returns-in-Open-clause-stopped : goal.returns-in-Open-clause-stopped
returns-in-Open-clause-stopped c =
    let at = c.in-Open in
    let old = c.args.self.now in
    subst (λ (l : Line). IfErr c.happen.result (λ e. IsStopped l old e)) (sym at.is)
    (one_stops c.happen.result (Performs (line.Open at.site at.coord)) old (after_at old at.site (event.Open at.coord))
    (one_opening old at.site at.coord) c.happen.ensures.limit)

pub returns-in_ok-bytes-in-Bytes-clause-performed : goal.returns-in_ok-bytes-in-Bytes-clause-performed
returns-in_ok-bytes-in-Bytes-clause-performed c =
    let at = c.in-Bytes in
    let old = c.args.self.now in
    let bytes = c.in_ok-bytes-in-Bytes.bytes in
    subst (λ (l : Line). OnOk c.happen-in-Bytes.result (IsPerformed l old c.happen-in-Bytes.new.self)) (sym at.is)
    (subst (λ (bs : List ℕ). OnOk c.happen-in-Bytes.result (IsPerformed (line.Bytes at.site at.coord at.session bs) old c.happen-in-Bytes.new.self))
    c.in_ok-bytes-in-Bytes.ensures
    (one_goes c.happen-in-Bytes.result (Performs (line.Bytes at.site at.coord at.session bytes)) old
    (after_at old at.site (event.Bytes at.coord at.session bytes)) c.happen-in-Bytes.new.self
    (one_sending old at.site at.coord at.session bytes) c.happen-in-Bytes.ensures.happened c.happen-in-Bytes.ensures.limit))

pub returns-in_ok-bytes-in-Bytes-clause-stopped : goal.returns-in_ok-bytes-in-Bytes-clause-stopped
returns-in_ok-bytes-in-Bytes-clause-stopped c =
    let at = c.in-Bytes in
    let old = c.args.self.now in
    let bytes = c.in_ok-bytes-in-Bytes.bytes in
    subst (λ (l : Line). IfErr c.happen-in-Bytes.result (λ e. IsStopped l old e)) (sym at.is)
    (subst (λ (bs : List ℕ). IfErr c.happen-in-Bytes.result (λ e. IsStopped (line.Bytes at.site at.coord at.session bs) old e)) c.in_ok-bytes-in-Bytes.ensures
    (one_stops c.happen-in-Bytes.result (Performs (line.Bytes at.site at.coord at.session bytes)) old
    (after_at old at.site (event.Bytes at.coord at.session bytes))
    (one_sending old at.site at.coord at.session bytes) c.happen-in-Bytes.ensures.limit))

pub returns-in-Close-clause-performed : goal.returns-in-Close-clause-performed
returns-in-Close-clause-performed c =
    let at = c.in-Close in
    let old = c.args.self.now in
    subst (λ (l : Line). OnOk c.happen-in-Close.result (IsPerformed l old c.happen-in-Close.new.self)) (sym at.is)
    (one_goes c.happen-in-Close.result (Performs (line.Close at.site at.coord at.session)) old
    (after_at old at.site (event.Close at.coord at.session)) c.happen-in-Close.new.self
    (one_closing old at.site at.coord at.session) c.happen-in-Close.ensures.happened c.happen-in-Close.ensures.limit)

pub returns-in-Close-clause-stopped : goal.returns-in-Close-clause-stopped
returns-in-Close-clause-stopped c =
    let at = c.in-Close in
    let old = c.args.self.now in
    subst (λ (l : Line). IfErr c.happen-in-Close.result (λ e. IsStopped l old e)) (sym at.is)
    (one_stops c.happen-in-Close.result (Performs (line.Close at.site at.coord at.session)) old (after_at old at.site (event.Close at.coord at.session))
    (one_closing old at.site at.coord at.session) c.happen-in-Close.ensures.limit)
