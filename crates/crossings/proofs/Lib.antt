-- The laws of pair rule 2.
pub mod Firsts
pub mod Touching
pub mod Decides
pub mod NoCrossing
pub mod Tried
pub mod NotBelowZero
-- Rule 2 beside rule 1: where they give the same, and where rule 2 gives none.
pub mod NoneExactly
pub mod WithoutTriangles
