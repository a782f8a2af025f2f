-- The bytes of a packet: how many, and one after the other.
pub mod Turns
