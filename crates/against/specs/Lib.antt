pub mod Indexed
pub mod Known
