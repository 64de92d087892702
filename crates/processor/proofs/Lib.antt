-- Laws of steps and runs.
pub mod KeepLaws
pub mod RunningLaws
pub mod ObeyLaws
pub mod AdvanceLaws
