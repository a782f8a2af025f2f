-- The definitions that the contracts of TXFIFO1 to 3 cite.
pub mod Transmit
