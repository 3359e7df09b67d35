pub mod Counts
pub mod Loops
pub mod Passes
pub mod Reaching
pub mod Squares
