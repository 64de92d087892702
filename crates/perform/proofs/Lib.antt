-- Laws of commands done: which draw, what a pane gives them, how much they draw, and what they leave.
pub mod KindLaws
pub mod SettleLaws
pub mod ReadyLaws
pub mod CountLaws
pub mod DrawingLaws
pub mod PerformLaws
