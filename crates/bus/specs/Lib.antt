-- The definitions that the contracts of the tokens cite.
pub mod Bus
