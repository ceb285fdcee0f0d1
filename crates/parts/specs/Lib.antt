pub mod Points
pub mod Stored
pub mod Slices
pub mod Classes
pub mod Stretches
