pub mod Steps
pub mod Order
pub mod Outcome
pub mod LineReadBack
pub mod PointReadBack
pub mod Ignored
