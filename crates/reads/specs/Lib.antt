-- The definitions that the contracts of register reads cite.
pub mod Read
