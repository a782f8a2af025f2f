-- Laws of a run that its proofs use.
pub mod Turns
pub mod Within
