pub mod Pairs
pub mod Extreme
pub mod Sweeps
pub mod Farthest
pub mod ClosestSweep
pub mod BestSoFar
pub mod RootSense
