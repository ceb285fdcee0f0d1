pub mod Patches
pub mod Inner
pub mod Cursors
