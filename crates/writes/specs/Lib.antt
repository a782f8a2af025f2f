-- The definitions that the contracts of register writes cite.
pub mod Write
