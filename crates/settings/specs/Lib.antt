-- The definitions that the contracts of these writes cite.
pub mod Settings
