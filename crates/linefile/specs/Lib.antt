pub mod Files
pub mod Formats
pub mod Forms
pub mod Questions
pub mod Places
