pub mod Counting
pub mod FieldWords
pub mod Lengths
pub mod Places
pub mod Readings
pub mod Rereading
pub mod Rewriting
pub mod Tails
