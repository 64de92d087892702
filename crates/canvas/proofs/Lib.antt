-- Laws of dots on a canvas.
pub mod CanvasLaws
pub mod KeptLaws
pub mod TargetLaws
pub mod PaintLaws
pub mod BufferLaws
pub mod OrderLaws
pub mod LandingLaws
pub mod PlanLaws
pub mod ReachLaws
pub mod LoopLaws
