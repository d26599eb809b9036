use Rattle.us_wire.specs.declared.frames.Next.TheVariants as next
use Rattle.us_wire.proofs.Readers.{waits, refuses, gives}
use Rattle.us_wire.proofs.Pieces.{answers_as_run}
use Rattle.us_wire.proofs.frames.FrameReader.next_frame.Goals as goal

pub returns-in-Partial : goal.returns-in-Partial
returns-in-Partial c =
    let a = waits c.args.self.now c.self.inside.limit c.self.inside.start c.self.inside.buffer.items c.deref.result.now c.deref.ensures.value c.self.view_is (c.in-Partial.ensures {u = tt}) in
    record { ok = a; model = answers_as_run next.NotYet c.args.self.now c.args.self.now a; err = tt }

pub returns-in-Bad : goal.returns-in-Bad
returns-in-Bad c =
    let a = refuses c.args.self.now c.self.inside.limit c.self.inside.start c.self.inside.buffer.items c.deref.result.now c.deref.ensures.value c.self.view_is (c.in-Bad.ensures {u = tt}) in
    record { ok = a; model = answers_as_run next.BadLength c.args.self.now c.args.self.now a; err = tt }

pub returns : goal.returns
returns c =
    let a = gives c.args.self.now c.self.inside.limit c.self.inside.start c.in-Whole.whole c.self.inside.buffer.items c.deref.result.now c.in_ok-frame.frame c.deref.ensures.value c.self.view_is (c.in_ok-frame.ensures {u = tt}) (c.in-Whole.ensures {u = tt}).1 in
    record { ok = a; model = answers_as_run (next.Frame c.in_ok-frame.frame) c.args.self.now _ a; err = tt }
