-- The laws of witnesses that are offered, and of two triangles.
pub mod NotBelowZero
pub mod Roots
pub mod BestWitness
pub mod Smallest
pub mod Settled
pub mod NearestEdge
pub mod TwoTriangles
pub mod SparedTriangles
pub mod Literals
