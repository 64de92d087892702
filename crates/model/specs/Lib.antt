-- Paper 01 as definitions, in its order, with the requests of paper 02 that are built. A comment in quotes is
-- the sentence that the definition states.
pub mod Ranges
pub mod Numbers
pub mod Words
pub mod Coordinates
pub mod Bitmaps
pub mod Record
pub mod Scissor
pub mod Operations
pub mod Pixels
pub mod Dots
pub mod Lines
pub mod Circles
pub mod Copies
pub mod Glyphs
pub mod Commands
pub mod Faults
pub mod Effects
pub mod Steps
pub mod Runs
pub mod Judge
pub mod Setup
pub mod Replies
pub mod Calls
pub mod ScissorKept
pub mod Figures
