-- The events.
pub mod Event
