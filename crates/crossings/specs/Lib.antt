pub mod Crossings
pub mod Closest
pub mod InnerCrossings
