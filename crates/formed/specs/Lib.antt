-- The definitions that the test of a whole state cites.
pub mod Formed
