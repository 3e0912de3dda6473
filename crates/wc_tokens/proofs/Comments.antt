pub mod AfterComments
pub mod CommentLaws
