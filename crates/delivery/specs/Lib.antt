-- Chip, driver and host and what each side has; what stands between the driver's calls; the stages of a packet to be sent.
pub mod Host
pub mod World
pub mod Lists
pub mod Standing
pub mod Stage
