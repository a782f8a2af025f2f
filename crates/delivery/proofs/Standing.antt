-- Standing is kept by every action.
pub mod Reaches
pub mod Calls
pub mod Waits
pub mod Keeps
pub mod Start
pub mod Events
pub mod Turns
pub mod Stands
