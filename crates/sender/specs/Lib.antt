-- The definitions that the contracts of endpoints 1, 3 and 5 cite.
pub mod Sender
