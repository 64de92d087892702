-- Laws of depths, and of bitmaps and clips that no rule refuses.
pub mod DepthLaws
pub mod BitmapLaws
pub mod AreaLaws
pub mod BytesLaws
