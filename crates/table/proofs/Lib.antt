-- Document 01's worked examples.
pub mod Text
pub mod Worked
pub mod Counts
pub mod Table
pub mod Unreached
pub mod Sentences
