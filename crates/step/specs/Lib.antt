-- The definitions that the contract of one event cites.
pub mod Step
