pub mod Cutting
pub mod Decimals
pub mod Digits
pub mod Overwriting
pub mod Parting
pub mod Search
pub mod Spelling
