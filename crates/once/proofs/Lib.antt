-- Every public function has one outcome for each input: result and lent bytes.
-- Assumes nothing.
pub mod Once
mod Refusals
mod Meanings
pub mod Fifos
pub mod Reader
pub mod Payloads
pub mod Lent
pub mod Endpoints
pub mod Control
pub mod State
pub mod Steps
pub mod Driver
pub mod Text
