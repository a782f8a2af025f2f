-- The definitions that the contracts of the chip's state cite.
pub mod State
pub mod Set
