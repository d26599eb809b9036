use Rattle.std.proofs.Common.{refl}
use Rattle.us_base.specs.Vector.{at_most, join, with_entry}
use Rattle.us_wire.specs.Frames.{frames_of}
use Rattle.us_wire.specs.Decoders.{number_between_at}
use Rattle.us_wire.specs.Whole.{opened, frame_of}
use Rattle.us_client_wire.specs.FieldDecoders.{id_at, item_at, op_fields_at, op_at}
use Rattle.us_client_wire.specs.Requests.{perform_at, request_fields_at, request_of}
use Rattle.us_client_wire.specs.Replies.{reply_encoding}
use Rattle.us_model.specs.Partitions.{own_known, next_timestamp, state_for}
use Rattle.us_model.specs.Sessions.{request, run_session, framed, bytes, version, prepared}
use Rattle.us_model.specs.Sites.{take_event, wake}
use Rattle.us_model.specs.Worlds.{world_step}
use Rattle.us_model.proofs.example.worked_example.Goals as goal

pub returns : goal.returns
unfolding at_most join with_entry frames_of number_between_at opened frame_of id_at item_at op_fields_at op_at perform_at request_fields_at request_of reply_encoding own_known next_timestamp state_for request run_session framed bytes version prepared take_event wake world_step
returns c = refl
