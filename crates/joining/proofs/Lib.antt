-- A joined blob's size and bytes, the checks in order, what both blobs are, and what is promised of what is written.
pub mod Size
pub mod Order
pub mod Own
pub mod Answers
pub mod Stored
pub mod ReadBack
pub mod JoinedVertices
pub mod GreatestDistance
pub mod MaxDistance
pub mod Promised
