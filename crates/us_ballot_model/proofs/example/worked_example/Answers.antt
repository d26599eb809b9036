use Rattle.std.proofs.Common.{refl}
use Rattle.us_ballot_model.specs.Ballots.{owner, next_ballot}
use Rattle.us_ballot_model.specs.Rules.{advance, start, lead, new_ballot, promise, new_state, accept, accepted, catch_up, learn, take_message, tick, append}
use Rattle.us_ballot_model.specs.Worlds.{put, world_step}
use Rattle.us_ballot_model.proofs.example.worked_example.Goals as goal

pub returns : goal.returns
unfolding owner next_ballot advance start lead new_ballot promise new_state accept accepted catch_up learn take_message tick append put world_step
returns c = record { first = refl; second = refl; third = refl; follower = refl; leader = refl; other = refl }
