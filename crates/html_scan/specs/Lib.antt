pub mod CommentEnds
pub mod Pages
pub mod Tags
