-- The checks of two operands in order, and what their answer means.
pub mod Order
pub mod Meaning
