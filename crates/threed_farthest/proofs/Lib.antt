-- The farthest pair, and the third property of the longest line.
pub mod LongestLine
