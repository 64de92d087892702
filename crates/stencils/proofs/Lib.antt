-- Laws of stencils.
pub mod StencilLaws
pub mod PenLaws
