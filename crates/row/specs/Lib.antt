pub mod Faults
pub mod Reading
pub mod Rows
pub mod Trips
pub mod Writing
