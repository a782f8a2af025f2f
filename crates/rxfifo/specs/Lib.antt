-- The definitions that the contracts of RXFIFO1 to 3 cite.
pub mod Receive
