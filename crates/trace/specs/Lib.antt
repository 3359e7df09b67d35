pub mod Faults
pub mod Output
pub mod Refusals
pub mod Traces
