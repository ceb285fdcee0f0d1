-- The third property of the shortest line.
pub mod ShortestLine
