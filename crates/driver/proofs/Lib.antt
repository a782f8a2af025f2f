-- What a register access of the code is in the definitions, what a start asks, and the two ways of an offer.
pub mod Accesses
pub mod Range
pub mod Cases
