use Rattle.us_world.proofs.Standing.{sent-turn}
use Rattle.us_world.proofs.run.send_all.Goals as goal

pub loop-packet-preserved : goal.loop-packet-preserved
loop-packet-preserved c =
    sent-turn c.args.network.now c.loop-packet.network c.push.new.self c.loop-packet.yielded c.in-Some.packet c.in_ok-push.ensures
    c.loop-packet.invariant
