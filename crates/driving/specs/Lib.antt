-- Which registers the driver's calls touch.
pub mod Touches
