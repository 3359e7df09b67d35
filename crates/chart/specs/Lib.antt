pub mod ChartFiles
pub mod Effects
pub mod Expressions
pub mod Regions
pub mod States
pub mod Transitions
pub mod Variables
