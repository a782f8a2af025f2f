-- The definitions that the contracts of the receive service cite.
pub mod Receive
