-- The definitions that the contracts of what data finds cite.
pub mod Verdict
