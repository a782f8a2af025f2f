-- The law of the choice.
pub mod ByTest
