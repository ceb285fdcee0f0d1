pub mod Cover
pub mod Blocks
