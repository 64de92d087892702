-- Laws of strokes, stretches, dots and strips, which the proofs of `strips` and of its callers cite.
pub mod FieldBits
pub mod BitParts
pub mod StrokeLaws
pub mod WindowLaws
pub mod StretchLaws
pub mod MixLaws
pub mod InkLaws
pub mod EdgeLaws
pub mod RowLaws
pub mod PatternLaws
pub mod SpreadLaws
pub mod WeaveLaws
pub mod DottedLaws
pub mod DotLaws
pub mod HitLaws
pub mod SpanLaws
