use Rattle.std.proofs.Common.{sym}
use Rattle.us_config.proofs.Addresses.{port_is}
use Rattle.us_config.proofs.address.is_port_number.Goals as goal

pub returns-in-Ok : goal.returns-in-Ok
returns-in-Ok c =
    let plus = rw c.as_bytes-digits.ensures.value at c.if-digits-eq43.false in
    let zeros = rw c.as_bytes-digits.ensures.value at c.if-digits-eq48.false in
    let some = rw c.as_bytes-digits.ensures.value at c.if-is_empty.ensures in
    let h = port_is c.args.port.now c.parse.result plus zeros (sym some) c.parse.ensures.value.0 in
    rw c.in-Ok.is at h

pub returns-in-Err : goal.returns-in-Err
returns-in-Err c =
    let plus = rw c.as_bytes-digits.ensures.value at c.if-digits-eq43.false in
    let zeros = rw c.as_bytes-digits.ensures.value at c.if-digits-eq48.false in
    let some = rw c.as_bytes-digits.ensures.value at c.if-is_empty.ensures in
    let h = port_is c.args.port.now c.parse.result plus zeros (sym some) c.parse.ensures.value.0 in
    rw c.in-Err.is at h
