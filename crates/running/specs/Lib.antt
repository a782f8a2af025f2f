-- The definitions that the contract of a run cites, and the whole output of a trace.
pub mod Output
pub mod Run
