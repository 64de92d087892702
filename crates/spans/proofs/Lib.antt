-- Laws of spans.
pub mod EdgesLaws
pub mod Examples
pub mod DrawLaws
