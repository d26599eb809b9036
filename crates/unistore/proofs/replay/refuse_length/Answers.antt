use Rattle.std.proofs.Common.{refl}
use Rattle.unistore.proofs.Texts.{decimal_zero}
use Rattle.unistore.proofs.replay.refuse_length.Goals as goal

pub returns-in-Ok : goal.returns-in-Ok
returns-in-Ok g c = record { same_kind = refl; same_line = refl; written = rw decimal_zero c.in-Ok.ensures.ok }

pub returns-in-Err : goal.returns-in-Err
returns-in-Err g c = rw decimal_zero (record { part = c.in-Err.ensures.err; rose = c.in-Err.ensures.cause })
