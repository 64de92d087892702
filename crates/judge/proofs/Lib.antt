-- Laws of the walk, of what a command leaves, and of the two judges' answers.
pub mod RoleLaws
pub mod WalkLaws
pub mod KeptLaws
pub mod JudgeLaws
