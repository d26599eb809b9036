pub use Rattle.us_fields.specs.Fields
pub use Rattle.us_fields.specs.FieldDecoders
pub use Rattle.us_fields.specs.DecodeResult
pub use Rattle.us_fields.specs.Lengths
pub mod Requests
pub mod Replies
pub mod Laws
