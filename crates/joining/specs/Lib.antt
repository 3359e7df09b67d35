pub mod Laws
pub mod Numbered
pub mod Shipped
pub mod Bits
pub mod OneMore
