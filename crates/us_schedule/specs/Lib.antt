pub mod Fault
pub mod Lines
pub mod Text
pub mod Parts
pub mod Rows
pub mod Trace
pub mod TraceRows
