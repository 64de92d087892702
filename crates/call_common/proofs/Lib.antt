-- Laws of the calls.
pub mod CallLaws
