-- The definitions that the contracts of endpoint 0 at a bus event cite.
pub mod Bus
pub mod Setup
