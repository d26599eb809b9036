use Rattle.std.proofs.Common.{map, Option, Some, None, List, ℕ, refl, ap, string_bytes}
use Rattle.unistore.specs.Answers.{SourceState, SinkState, form_of}
use Rattle.unistore.proofs.InfallibleReplay.{infallible_answer}
use Rattle.unistore.proofs.infallible.replay_infallible.Goals as goal

pub returns : goal.returns
returns g c =
    let form = form_of (map string_bytes c.args.words.now) in
    let s : SourceState = record { left = Some c.new-source.result; faults = 0 } in
    let t : SourceState = record { left = Some c.unistore.new.source; faults = 0 } in
    let k : SinkState = record { written = None; faults = 0 } in
    let l : SinkState = record { written = None; faults = 0 } in
    infallible_answer form c.args.bytes.items s t k l c.unistore.result (ap (λ (xs : List ℕ). let o : Option (List ℕ) = Some xs in o) c.new-source.ensures)
    refl refl refl refl c.unistore.ensures.answers
