-- The theorems of demand 3, the laws below them, and runs that meet its premises or need them.
pub mod Standing
pub mod Send
pub mod Receive
pub mod Runs
pub mod Demand
