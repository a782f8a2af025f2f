-- Counters and bytes.
pub mod Ring
