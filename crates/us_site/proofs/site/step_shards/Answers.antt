use Rattle.std.proofs.Common.{◌-◌, arith}
use Rattle.us_site.proofs.Standing.{stands, stepped_site, stepped_out, stepped_places}
use Rattle.us_site.proofs.site.step_shards.Goals as goal

pub step-requires-clause-here : goal.step-requires-clause-here
step-requires-clause-here c =
    stands c.args.settings.now.shape c.args.number 1 c.actor_in-actor.result (c.from-2.result - 1) c.args.shards.now _ c.requires.places
    (omega arith) (omega arith)

pub returns-clause-shards : goal.returns-clause-shards
returns-clause-shards c =
    stepped_site c.step.result c.args.number c.args.settings.now c.args.shards.now c.args.event c.actor_in-actor.result (c.from-2.result - 1)
    c.is_one_too_many-full.result c.index-shards-from.result c.step.new.self c.actor_in-actor.ensures (omega arith) (omega arith) (omega arith)
    c.is_one_too_many-full.ensures c.step.ensures.shard

pub returns-clause-places : goal.returns-clause-places
returns-clause-places c =
    stepped_places c.step.result c.args.number c.args.settings.now c.args.shards.now c.args.event c.actor_in-actor.result (c.from-2.result - 1)
    c.is_one_too_many-full.result c.index-shards-from.result c.step.new.self (omega arith) (omega arith) c.requires.places c.step.ensures.shard

pub returns-clause-out : goal.returns-clause-out
returns-clause-out c =
    stepped_out c.step.result c.args.number c.args.settings.now c.args.shards.now c.args.event c.actor_in-actor.result (c.from-2.result - 1)
    c.is_one_too_many-full.result c.index-shards-from.result c.actor_in-actor.ensures (omega arith) (omega arith) (omega arith)
    c.is_one_too_many-full.ensures c.step.ensures.out
