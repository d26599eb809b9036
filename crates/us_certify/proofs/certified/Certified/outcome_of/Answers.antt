use Rattle.std.proofs.Common.{◌≡◌, refl, rules, sym, ◌∙◌}
use Rattle.us_conflict.proofs.PlaceLemmas.{position-none}
use Rattle.us_certify.proofs.Fronts.{slot_of-none}
use Rattle.us_certify.specs.Certification.{first_place, first_slot}
use Rattle.us_certify.proofs.certified.Certified.outcome_of.Goals as goal

pub returns-clause-none : goal.returns-clause-none
returns-clause-none c =
    let decisions = c.args.self.now.decisions in
    let is : c.first_slot.result ≡ first_slot decisions c.args.tid = search rules in
    let place = first_place decisions c.args.tid in
    let tells = slot_of-none place in
    let found = position-none _ decisions place refl in
    ((λ e. found.0 (tells.0 (sym is ∙ e))), (λ e. is ∙ tells.1 (found.1 e)))
