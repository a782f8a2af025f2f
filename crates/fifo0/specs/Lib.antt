-- The definitions that the contracts of FIFO0 cite.
pub mod Control
