-- A state as Rattle's types have it, the state after an event; what is one endpoint's, which endpoint an event is for, the exceptions, the settings, and
-- what is the driver's own.
pub mod Typed
pub mod Next
pub mod Place
pub mod Owner
pub mod Settings
pub mod Driver
