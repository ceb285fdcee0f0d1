pub mod Interpolation
pub mod Operation
pub mod Inner
