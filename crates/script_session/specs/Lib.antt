-- What a script has said so far, and what a line does to it.
pub mod SessionState
