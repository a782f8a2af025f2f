-- What every event keeps of a state's types.
pub mod Arrays
pub mod Parts
pub mod Chip
pub mod At
pub mod Accesses
pub mod Registers
pub mod Steps
pub mod Bus
pub mod Data
pub mod Step
pub mod Ranges
