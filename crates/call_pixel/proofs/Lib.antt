-- Laws of pixel.
pub mod PixelLaws
