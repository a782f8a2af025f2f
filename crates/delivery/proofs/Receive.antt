-- Every OUT packet is received once and in order.
pub mod Tally
pub mod Storing
pub mod Sound
pub mod Alike
pub mod Deliver
pub mod Service
pub mod Judged
pub mod Flow
pub mod Up
pub mod Acts
pub mod Received
pub mod Again
