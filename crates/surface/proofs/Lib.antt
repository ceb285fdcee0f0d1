pub mod Scans
pub mod InRow
pub mod SurfaceKinds
pub mod Bounds
pub mod Refusing
pub mod Listing
pub mod Examples
pub mod WholeWalk
