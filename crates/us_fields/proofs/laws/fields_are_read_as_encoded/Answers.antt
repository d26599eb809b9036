use Rattle.us_fields.proofs.FieldLaws.{reads_items, reads_ops, reads_answers}
use Rattle.us_fields.proofs.EffectLaws.{reads_effects, reads_writes}
use Rattle.us_fields.proofs.laws.fields_are_read_as_encoded.Goals as goal

pub returns : goal.returns
returns c = record { items = reads_items; operations = reads_ops; answers = reads_answers; effects = reads_effects; writes = reads_writes }
