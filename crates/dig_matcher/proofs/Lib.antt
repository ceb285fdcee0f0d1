-- How a tape's bytes are read, and the command at a place of it.
pub mod Feeding
pub mod TapeLaws
-- A match, a run from a place on, the hits stored, a pass's turns.
pub mod Matches
pub mod Runs
pub mod StoredHits
pub mod Turns
-- A job, and its end theorems.
pub mod JobLaws
pub mod JobTheorems
