-- Laws of traces.
pub mod SlopeLaws
pub mod EdgeLaws
pub mod PatternLaws
pub mod WalkLaws
pub mod LoopLaws
pub mod TraceLaws
