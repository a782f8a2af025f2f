-- Laws of the reader's definitions that its own proofs use.
pub mod Within
pub mod Numbers
pub mod Join
pub mod Bare
