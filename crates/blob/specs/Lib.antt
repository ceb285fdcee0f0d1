pub mod Blob
pub mod Inner
pub mod Ignored
pub mod Written
