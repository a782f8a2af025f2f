-- The definitions that the contracts of data cite.
pub mod Data
