pub mod Asked
pub mod Asking
pub mod FileSteps
pub mod Letters
pub mod Limiting
pub mod Passing
