-- What demand 3 is proved under: its premises can be met, and are needed.
pub mod Sides
pub mod Meets
pub mod Reserved
pub mod Refuted
pub mod Breaks
pub mod Needed
pub mod Nak
pub mod Never
