-- What the operations answer, what of it depends on the memory lent, what a sweep is handed, and the SRID and the third property of a line that is written.
pub mod Handed
pub mod Answered
pub mod NanTolerance
pub mod Lengths
pub mod RefusedExactly
pub mod OwnSrid
pub mod FirstExtremeLine
pub mod Alike
pub mod WithoutM
pub mod Rules
pub mod ClosestAnswers
