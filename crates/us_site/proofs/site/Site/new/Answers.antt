use Rattle.std.proofs.Common.{◌∙◌, ap, sym, subst}
use Rattle.us_base.specs.Shape.{IsShape}
use Rattle.us_model.specs.declared.settings.Settings.{Settings}
use Rattle.us_site.specs.Shards.{AreAt}
use Rattle.us_site.proofs.site.Site.new.Goals as goal

pub invariant_of-result : goal.invariant_of-result
invariant_of-result c =
    let same = c.in_ok-copy.ensures in
    record {
      number = c.requires.number;
      shape = subst (λ (s : Settings). IsShape s.shape) (sym same) c.requires.shape;
      shards = c.in_ok-shards.ensures.count ∙ sym (ap (λ (s : Settings). s.shape.parts) same);
      places = λ _. subst (λ (s : Settings). AreAt s.shape c.args.number 1 c.in_ok-shards.shards.items) (sym same) c.in_ok-shards.ensures.places;
    }
