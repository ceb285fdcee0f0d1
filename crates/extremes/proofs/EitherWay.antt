-- The sum of squares of two points' distance is the same from either. Assumes nothing.
pub use Rattle.primitives.proofs.Squares.{squares_either_way}
