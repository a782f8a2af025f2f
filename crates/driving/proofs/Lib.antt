-- The laws of the driver's calls.
pub mod Reached
pub mod Kept
pub mod Refused
pub mod Packet
