pub mod Joined
pub mod Promises
pub mod Inner
