use Rattle.std.proofs.Common.{ℕ, ap, ◌∙◌}
use Rattle.std.specs.Int.{w8}
use Rattle.us_wire.specs.Decoders.{number_between_at}
use Rattle.us_peer_wire.proofs.ReadLemmas.{site_is_entry}
use Rattle.us_peer_wire.proofs.read.origin_in.Goals as goal

pub returns-clause-entry : goal.returns-clause-entry
returns-clause-entry c =
    site_is_entry c.args.shape c.requires c.args.input.now c.args.at (λ i. (c.type_inv.input i).fits) c.take_u8_between.result
    (c.take_u8_between.ensures ∙ ap (λ (most : ℕ). number_between_at w8 1 most c.args.input.now c.args.at) c.sites.ensures)
