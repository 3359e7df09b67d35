pub mod Acceptance
pub mod Limiting
pub mod Passing
pub mod Picking
pub mod Roots
