use Rattle.std.proofs.Common.{◌≡◌, rules, [], ◌∷◌, ◌++◌, sym, subst}
use Rattle.us_certify.proofs.Fronts.{as_certified-push}
use Rattle.us_certify.specs.Certification.{AreAsCertified, decision_after}
use Rattle.us_certify.proofs.certified.Certified.push.Goals as goal

pub returns-clause-certified : goal.returns-clause-certified
returns-clause-certified c kept =
    let pairs = c.args.conflicts.now in
    let before = c.args.self.now.decisions in
    let items : c.push.new.self.items ≡ before ++ decision_after pairs before c.args.entry ∷ [] = search rules in
    subst (AreAsCertified pairs) (sym items) (as_certified-push pairs before c.args.entry kept)
