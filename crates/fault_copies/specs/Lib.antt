-- What a copy may rely on where its checks find no fault. The checks' own contracts cite model's definitions.
pub mod Sharing
