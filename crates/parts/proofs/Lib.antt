-- Running in parts is running at once.
pub mod Fuel
pub mod Parts
pub mod Sound
pub mod Leaves
pub mod Call
pub mod Rooms
pub mod Whole
pub mod Program
