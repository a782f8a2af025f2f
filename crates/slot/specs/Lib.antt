-- The definitions that the contracts of the register map cite.
pub mod Slot
