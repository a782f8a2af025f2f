-- Text in a buffer.
pub mod Text
