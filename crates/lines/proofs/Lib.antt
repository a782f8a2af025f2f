-- How long the texts are, and texts written one after the other.
pub mod Lengths
pub mod Joined
