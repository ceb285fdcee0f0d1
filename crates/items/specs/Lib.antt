pub mod Items
pub mod Candidates
pub mod Closest
pub mod Inner
pub mod InnerRepeats
pub mod Fitting
