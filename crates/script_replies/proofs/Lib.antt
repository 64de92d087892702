-- How long a reply is.
pub mod LengthLaws
