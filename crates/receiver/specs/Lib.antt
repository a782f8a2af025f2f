-- The definitions that the contracts of endpoints 2, 4 and 6 cite.
pub mod Receiver
