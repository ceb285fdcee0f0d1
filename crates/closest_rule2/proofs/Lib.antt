-- The sweep by rule 2: item after item, by the box of side 2's items, and where there is no face.
pub mod Folds
pub mod Listed
pub mod WithoutFaces
