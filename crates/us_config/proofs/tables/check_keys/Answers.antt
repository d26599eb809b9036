use Rattle.std.proofs.Common.{sym, ◌∙◌}
use Rattle.us_config.proofs.Keys.{all_keys}
use Rattle.us_config.proofs.tables.check_keys.Goals as goal

pub returns-then-not-has_only_keys : goal.returns-then-not-has_only_keys
returns-then-not-has_only_keys c =
    let e = sym (all_keys c.args.names.now c.args.table.now.entries) ∙ sym c.if-not-has_only_keys.ensures in
    rw e

pub returns : goal.returns
returns c =
    let e = sym (all_keys c.args.names.now c.args.table.now.entries) ∙ sym c.if-not-has_only_keys.ensures in
    rw e
