pub mod Echo
pub mod FirstLines
pub mod Steps
mod Writing
