-- The definitions that the contracts of the end of a wait cite.
pub mod Ends
