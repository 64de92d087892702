-- Laws of RECT's outline.
pub mod RectLaws
pub mod SideLaws
