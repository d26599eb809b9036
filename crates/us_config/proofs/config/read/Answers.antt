use Rattle.us_config.proofs.Verdicts.{table_says}
use Rattle.us_config.proofs.config.read.Goals as goal

pub returns-clause-means : goal.returns-clause-means
returns-clause-means c =
    let e = table_says c.args.text.now _ c.in_ok-table.ensures in
    rw e c.config_of.ensures.exact
