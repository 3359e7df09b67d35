pub mod Charted
pub mod Echo
