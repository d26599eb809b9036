use Rattle.us_world.proofs.Standing.{has_stepped}
use Rattle.us_world.proofs.run.step_site.Goals as goal

pub returns : goal.returns
returns c =
    has_stepped c.step.result c.args.sites.now c.args.place c.index-sites-place-2.result c.step.new.self c.args.event c.requires c.step.ensures.site
    c.step.ensures.out
