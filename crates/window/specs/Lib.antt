-- Which bytes are whose.
pub mod Window
