use Rattle.std.proofs.Common.{refl}
use Rattle.us_exec.specs.Examples.{reads_and_writes, writes_and_writes, in_one_session, in_two_sessions, on_other_items, seen_conflict, unseen, last_of_two_writers, unseen_add_kept, seen_add_removed}
use Rattle.us_exec.proofs.Alone.{is_sound}
use Rattle.us_exec.proofs.counterexamples.sound.Goals as goal

pub returns : goal.returns
returns c = record {
  in_one_session = is_sound reads_and_writes in_one_session refl;
  in_two_sessions = is_sound reads_and_writes in_two_sessions refl;
  seen_conflict = is_sound reads_and_writes seen_conflict refl;
  other_items = is_sound reads_and_writes on_other_items refl;
  undeclared = is_sound writes_and_writes unseen refl;
  last_writer = is_sound reads_and_writes last_of_two_writers refl;
  unseen_add = is_sound reads_and_writes unseen_add_kept refl;
  seen_add = is_sound reads_and_writes seen_add_removed refl;
}
