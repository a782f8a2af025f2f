-- The definitions that the laws of running in parts cite.
pub mod Loop
