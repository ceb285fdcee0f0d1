-- The laws of what a workspace holds.
pub mod Slices
pub mod Stretches
pub mod Filled
