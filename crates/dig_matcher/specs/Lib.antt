pub mod Tape
pub mod Job
pub mod Inner
