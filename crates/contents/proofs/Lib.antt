-- The laws of the FIFOs as lists.
pub mod Ring
pub mod Inside
pub mod Windows
pub mod Transmit
pub mod Returns
pub mod Receive
pub mod Control
