pub mod Fields
pub mod Lines
pub mod Parts
pub mod Words
pub mod Unread
