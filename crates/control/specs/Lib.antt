-- The definitions that the contracts of endpoint 0 cite.
pub mod State
pub mod Registers
