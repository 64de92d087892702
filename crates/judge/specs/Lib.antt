-- What the contracts of `judge` cite beside model's walk.
pub mod Roles
pub mod Levels
