pub mod CommentEnds
pub mod Growth
