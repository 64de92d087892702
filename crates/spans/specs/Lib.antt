-- What the contracts of `spans` cite beside model's definitions.
pub mod Spans
pub mod Examples
pub mod Through
