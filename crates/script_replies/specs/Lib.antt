-- A reply as text (01, "The script program").
pub mod Replies
