-- The laws of the farthest sweep.
pub mod Unskipped
pub mod LongestLine
pub mod Repeated
pub mod NanStays
pub mod VerticesOnce
pub mod RunTurns
pub mod Folds
pub mod Visits
