-- The invariant of every event.
pub mod Facts
pub mod Pending
pub mod Stopped
pub mod Settings
pub mod Registers
pub mod Ends
pub mod Lowest
pub mod Tokens
pub mod Data
pub mod Step
