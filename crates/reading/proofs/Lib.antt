-- What is read of both blobs, in the order of the refusals, and what a sweep is handed of it.
pub mod Steps
