-- The definitions that the contracts of the commands cite.
pub mod Command
