-- The definition that the contract of a refusal's number cites.
pub mod Refusal
