-- The definitions that the contracts of the checked functions cite.
pub mod Checked
