pub mod Vectors
pub mod Witnesses
pub mod Unrooted
pub mod Boxes
