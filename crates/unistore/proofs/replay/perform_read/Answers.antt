use Rattle.std.proofs.Common.{Option, sym, subst}
use Rattle.unistore.specs.declared.schedule.Refusal.{Refusal}
use Rattle.unistore.specs.declared.schedule.Schedule.TheVariants.{Read}
use Rattle.unistore.specs.Answers.{SinkState, Performs}
use Rattle.unistore.proofs.replay.perform_read.Goals as goal

pub returns-in-Some : goal.returns-in-Some
returns-in-Some g c =
    let k : SinkState = record { written = g.K.Sink.written c.args.sink.now; faults = g.K.Sink.faults c.args.sink.now } in
    let l : SinkState = record { written = g.K.Sink.written c.refuse_behind.new.sink; faults = g.K.Sink.faults c.refuse_behind.new.sink } in
    subst (λ (o : Option Refusal). Performs c.args.short (Read c.args.script o) k l c.refuse_behind.result) (sym c.in-Some.is)
    (c.refuse_behind.ensures c.args.short)
