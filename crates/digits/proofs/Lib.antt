-- Text in a buffer, and the digits of a number.
pub mod Figures
pub mod Most
pub mod Places
