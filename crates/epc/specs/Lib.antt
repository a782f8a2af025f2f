-- The definitions that the contracts of EPC1 to EPC6 cite.
pub mod Bits
pub mod Epc
