use Rattle.std.proofs.lemmas.Result.{err_from_is_err_and}
use Rattle.us_world.proofs.Standing.{come_of, come_not}
use Rattle.us_world.proofs.run.Run.deliver_at.Goals as goal

pub returns : goal.returns
returns c =
    rw (← c.self.view_is) (come_of c.happen.result c.args.place _ c.happen.new.self c.deliver.new.self c.in_ok-packet.packet
    c.in_ok-packet.ensures c.happen.ensures.happened c.happen.ensures.limit)

pub returns-in_err-packet : goal.returns-in_err-packet
returns-in_err-packet c =
    let p = err_from_is_err_and c.from_residual.result c.from_residual.ensures.1 in
    rw (p.1, p.2) (come_not c.args.place c.args.self.now _ c.requires)
