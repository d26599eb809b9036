use Rattle.std.proofs.Common.{◌≡◌, ◌∙◌, ap, sym, subst}
use Rattle.us_base.specs.Vector.{with_entry}
use Rattle.us_model.specs.Partitions.{own_known}
use Rattle.us_part.specs.Placed.{Placed, IsBelow}
use Rattle.us_part.proofs.Partitions.{known_below}
use Rattle.us_part.proofs.partition.Part.known.Goals as goal

pub returns-clause-below : goal.returns-clause-below
returns-clause-below c =
    let is = c.self.inside in
    let same : c.with_entry.result ≡ with_entry is.received is.me.site (own_known is.clock is.prepared.items) =
    c.with_entry.ensures ∙ ap (with_entry is.received is.me.site) (c.own_known_of-own.ensures ∙ ap (own_known is.clock) c.as_slice.ensures.value) in
    subst (λ (a : Placed). IsBelow a.me.site c.with_entry.result a.partition.prepared) c.self.view_is
    (subst (λ v. IsBelow is.me.site v is.prepared.items) (sym same) (known_below is.clock is.me.site is.received is.prepared.items c.self.invariant.clocked))
