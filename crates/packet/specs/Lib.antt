-- The definitions that the contracts of a packet's bytes cite.
pub mod Packet
