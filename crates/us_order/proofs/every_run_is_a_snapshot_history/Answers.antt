use Rattle.us_order.proofs.Snapshots.{every_run_snapshots}
use Rattle.us_order.proofs.every_run_is_a_snapshot_history.Goals as goal

pub returns : goal.returns
returns c = every_run_snapshots
