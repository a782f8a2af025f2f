-- The definitions that the contracts of the driver cite.
pub mod Registers
pub mod Driver
