-- The definitions that the contracts of the reader cite.
pub mod Number
pub mod Record
pub mod Meaning
pub mod Encode
