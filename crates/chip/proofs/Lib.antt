-- What an event's refusal says, by 01's numbers.
-- Assumes nothing.
pub mod Numbers
