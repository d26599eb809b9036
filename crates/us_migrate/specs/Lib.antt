pub mod Encodings
pub mod Decoders
