use Rattle.us_migrate.proofs.Encoded.{reads_tids, reads_vectors, reads_tokens}
use Rattle.us_migrate.proofs.laws.fields_are_read_as_encoded.Goals as goal

pub returns : goal.returns
returns c = record { tids = reads_tids; vectors = reads_vectors; tokens = reads_tokens }
