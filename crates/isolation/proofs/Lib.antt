-- The proof of demand 3, from single calls to whole lists, and an example.
pub mod States
pub mod Frame
pub mod Agreement
pub mod Purge
pub mod Bits
pub mod Theorem
pub mod Example
