-- The laws of interpolation.
pub mod Lines
pub mod Turns
pub mod Passes
pub mod Cases
pub mod Order
pub mod Outcome
pub mod Report
pub mod Alike
