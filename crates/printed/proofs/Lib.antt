-- What a buffer holds after a text is written, and what the digits say.
pub mod Overlay
pub mod Decimal
pub mod Hex
