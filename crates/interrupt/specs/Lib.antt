-- The definitions that the contracts of the event registers cite.
pub mod Interrupt
