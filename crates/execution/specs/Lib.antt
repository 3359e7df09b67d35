pub mod Output
pub mod Stops
