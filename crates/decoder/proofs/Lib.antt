-- Laws that the decoder's proofs cite, and laws of what it answers.
pub mod RangeLaws
pub mod OpcodeLaws
pub mod DecodeLaws
