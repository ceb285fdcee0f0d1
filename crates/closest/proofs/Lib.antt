-- The laws of the closest sweep.
pub mod PointsOnly
pub mod OnePoint
pub mod Listed
