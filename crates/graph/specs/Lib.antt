pub mod Graphs
pub mod Tables
