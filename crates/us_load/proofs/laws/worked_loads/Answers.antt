use Rattle.std.proofs.Common.{refl}
use Rattle.rand_core.specs.Stream.{next_u64, fill_bytes}
use Rattle.rand_core.specs.Steps.{stream_of, word_bytes, u32_at}
use Rattle.us_client_wire.specs.Requests.{request_encoding}
use Rattle.us_load.proofs.laws.worked_loads.Goals as goal

pub returns : goal.returns
unfolding next_u64 fill_bytes stream_of word_bytes u32_at request_encoding
returns c = record {
  step = λ state. refl;
  codes_ascend = λ value amount. (refl, refl, refl, refl, refl);
  opened = refl;
  first_word = refl;
  second_word = refl;
  first_transaction = refl;
}
