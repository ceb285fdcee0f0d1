-- What an export returns, from what its operation did.
pub mod Returned
pub mod LineReplies
pub mod ReadReply
pub mod PatchSteps
pub mod SizeReplies
pub mod JobReplies
