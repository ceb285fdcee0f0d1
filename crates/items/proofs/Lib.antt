-- The laws of the items.
pub mod NotBelowZero
pub mod PointRuns
pub mod Repeats
pub mod NoneExactly
pub mod WithoutTriangles
pub mod Left
pub mod Counts
pub mod Turns
