-- The laws of endpoint 1's pipe.
pub mod Fifo
pub mod Chip
pub mod Ends
pub mod Token
pub mod Calls
pub mod Keeps
pub mod Driver
pub mod Turns
pub mod Events
pub mod Acts
pub mod Always
pub mod Again
