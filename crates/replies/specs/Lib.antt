pub mod Replies
pub mod PatchReplies
