-- The laws of sums of squares of two points, and of their roots.
pub mod Squares
pub mod EqualRoots
