-- The laws of covers and blocks.
pub mod Covering
pub mod Room
pub mod Blocks
pub mod Passing
-- One more block, and the items that are left.
pub mod Cutting
