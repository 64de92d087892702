-- `draw_text::text::character` meets its contract: the cells at the position, the position moved, the trap flag set by T.
use Rattle.std.proofs.Common.{ℕ, ◌||◌, List, ap, ◌∙◌}
use Rattle.model.specs.Words.{bit}
use Rattle.model.specs.Dots.{Dot}
use Rattle.model.specs.Glyphs.{passed}
use Rattle.canvas.specs.Canvas.{canvas, painted_all}
use Rattle.draw_text.proofs.CellLaws.{cells_glyph_dots, grid_painted}
use Rattle.draw_text.proofs.text.character.Goals as goal

pub returns : goal.returns
returns c =
    let a = c.args in
    record {
      dots =
          c.draw_grid-hits.ensures
          ∙ grid_painted a.t c.style_of-style.result a.screen.now a.store.now a.at c.word-head.result a.d.hits c.grid_of-g.result
          c.requires.0.target c.grid_of-g.ensures
          ∙ ap (λ (ds : List Dot). painted_all a.t ds (canvas a.screen.now a.store.now a.d.hits))
          (cells_glyph_dots a.text.rotation a.d.position a.transparent a.t.pen a.store.now a.at c.style_of-style.ensures c.word-head.ensures);
      position = c.pass-position.ensures ∙ ap (λ (h : ℕ). passed a.text h a.d.position) c.word-head.ensures;
      trap = ap (λ t. a.d.trap || t) (c.bit_of.ensures ∙ ap (λ (h : ℕ). bit h 15) c.word-head.ensures);
    }
