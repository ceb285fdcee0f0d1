pub mod Checks
pub mod Sides
pub mod Table
