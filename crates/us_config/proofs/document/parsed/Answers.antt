use Rattle.std.proofs.lemmas.Bool.{false≢true}
use Rattle.us_config.proofs.Documents.{is_document, no_document}
use Rattle.us_config.proofs.document.parsed.Goals as goal

pub returns-in-Ok : goal.returns-in-Ok
returns-in-Ok c = is_document c.args.text.now _ c.in-Ok.ensures.ok.0 c.in-Ok.ensures.ok.1

pub returns-else-is_memory : goal.returns-else-is_memory
returns-else-is_memory c = no_document c.args.text.now (c.in-Err.ensures.refused (λ m. false≢true (c.if-is_memory.ensures.1 m)))
