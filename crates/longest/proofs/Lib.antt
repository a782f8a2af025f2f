-- How long a line is at most, and that it is one line.
pub mod Longest
pub mod Reached
pub mod OneLine
