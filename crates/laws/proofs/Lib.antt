-- The laws of one event: what it keeps of the types, what it leaves alone, and that a state stays well formed.
pub mod Typed
pub mod Frame
pub mod Formed
