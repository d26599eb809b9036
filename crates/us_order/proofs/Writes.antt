-- The writes of a coordinator's transaction are those of its updating operations.
use Rattle.std.proofs.Common.{◌≡◌, ℕ, refl}
use Rattle.std.specs.Prelude.{Some, None, Option}
use Rattle.us_value.specs.declared.operation.Effect.{Effect}
use Rattle.us_exec.specs.declared.Done.{Done}
use Rattle.us_model.specs.Sessions.{write_of}
use Rattle.us_snapshots.specs.Acts.{act_of, writes_in}

pub writes_in-one : (d : Done) (n : ℕ) (o : Option Effect) → writes_in (act_of d n o) ≡ write_of d.item n o
writes_in-one d n None = refl
writes_in-one d n (Some e) = refl
