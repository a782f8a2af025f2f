-- What reads of RXD and RXS make of RXFIFO1's level, and what is left to take after each round.
pub mod Level
pub mod Rounds
