-- Laws of CIRCLE's reflections and of the walk along an eighth of it.
pub mod SideLaws
pub mod TableLaws
pub mod SheetLaws
pub mod MirrorLaws
pub mod EighthLaws
pub mod OutsideLaws
pub mod TargetSheetLaws
