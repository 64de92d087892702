-- A string drawn character by character: a character drawn now is that of the store at entry, and what is left of the string, drawn on from
-- there, gives the whole.
use Rattle.std.proofs.Common.{◌≡◌, ℕ, suc, ◌+◌, ◌-◌, ◌*◌, ◌<◌, ◌≤◌, Bool, false, List, [], length, sym, refl, ap, ◌∙◌, subst, ap₂, add-one, arith}
use Rattle.model.specs.declared.Point.{Point}
use Rattle.model.specs.declared.Pen.{Pen}
use Rattle.model.specs.declared.Text.{Text}
use Rattle.model.specs.Ranges.{listed}
use Rattle.model.specs.Words.{word_at}
use Rattle.model.specs.Coordinates.{place}
use Rattle.model.specs.Dots.{Drawing, drawing, prepended}
use Rattle.model.specs.Glyphs.{descriptor, height_of, width_of, trap_of, glyph_dots, passed, trapping, string}
use Rattle.model.proofs.DotLaws.{joined_cong}
use Rattle.canvas.specs.declared.Target.{Target}
use Rattle.canvas.specs.declared.Drawn.{Drawn}
use Rattle.canvas.specs.Canvas.{canvas, Drew}
use Rattle.canvas.proofs.KeptLaws.{Agree, agree_word}
use Rattle.canvas.proofs.LoopLaws.{Underway, underway_first, underway_ready, underway_next, underway_last}
use Rattle.draw_text.specs.declared.text.Characters.{Characters}
use Rattle.draw_text.specs.Cells.{style_of, stored_row, most_cells, DescriptorIn, GlyphReady}
use Rattle.draw_text.specs.Writing.{Writable, character_drawing}
use Rattle.draw_text.proofs.CellLaws.{cells_glyph_dots, cells_length}
use Rattle.draw_text.proofs.LegibleLaws.{descriptor_kept}

-- ## A character

glyph_dots_length : (pen : Pen) (transparent : Bool) (rotation : ℕ) (store : List ℕ) (a : ℕ) (p : Point)
    → length (glyph_dots pen transparent rotation store a (place p)) ≤ most_cells
glyph_dots_length pen transparent rotation store a p =
    let style = style_of rotation p transparent in
    omega (
      arith,
      cells_length pen style store a (word_at store a),
      ap length (cells_glyph_dots rotation p transparent pen store a refl refl),
    )

-- one whose descriptor is in reach, read while it is drawn
module _ {t : Target} {old new : List ℕ} (u : Agree t old new) {a : ℕ} (r : DescriptorIn t old a) where
  head_kept : word_at new a ≡ word_at old a
  head_kept = agree_word u r a (omega arith) (omega arith)

  glyph_dots_kept : (pen : Pen) (transparent : Bool) (rotation : ℕ) (p : Point)
      → glyph_dots pen transparent rotation new a (place p) ≡ glyph_dots pen transparent rotation old a (place p)
  glyph_dots_kept pen transparent rotation p =
      let width = width_of (word_at old a) in
      sym (cells_glyph_dots rotation p transparent pen new a refl (sym head_kept))
      ∙ joined_cong 0 (height_of (word_at old a)) _ _
      (λ j lo hi. ap (λ (b : ℕ). stored_row pen (style_of rotation p transparent) width b j)
      (agree_word u r (a + 2 + 2 * j) (omega arith) (omega arith)))
      ∙ cells_glyph_dots rotation p transparent pen old a refl refl

  character_kept : (pen : Pen) (transparent : Bool) (text : Text) (p : Point)
      → character_drawing pen transparent text new p a ≡ character_drawing pen transparent text old p a
  character_kept pen transparent text p = λ i.
      record { dots = glyph_dots_kept pen transparent text.rotation p i; position = passed text (head_kept i) p; trap = trap_of (head_kept i) }

-- ## The loop over the characters

module _ (t : Target) (text : Text) (from : Point) (c : Characters) (screen₀ store₀ : List ℕ) where
  -- where the descriptor of character k stands
  abbrev address : ℕ → ℕ
  address = descriptor text.font store₀ c.string

  -- character k drawn at a position, and n characters from number k on
  abbrev character : Point → ℕ → Drawing
  character p k = character_drawing t.pen c.transparent text store₀ p (address k)

  abbrev characters : Point → ℕ → ℕ → Drawing
  characters p k n = string t.pen c.transparent text store₀ p (listed k n address)

  -- k characters are drawn, and all others are left
  abbrev pub Writing : List ℕ → List ℕ → Drawn → ℕ → Type 0
  Writing screen store d k =
      Underway t (characters from 0 c.count) (characters d.position k (c.count - k)) most_cells (canvas screen₀ store₀ 0) screen store d k c.count

  pub writing_first : Writing screen₀ store₀ (record { position = from; trap = false; hits = 0 }) 0
  writing_first =
      let whole = characters from 0 c.count in
      subst (λ (n : ℕ). Underway t whole (characters from 0 n) most_cells (canvas screen₀ store₀ 0) screen₀ store₀ _ 0 c.count)
      (let e : c.count ≡ c.count - 0 = omega arith in e) (underway_first t whole most_cells screen₀ store₀ from c.count)

  -- a character and then the rest, which begins where the character leaves the position
  characters_next : (p q : Point) (k : ℕ) → k < c.count → q ≡ (character p k).position
      → characters p k (c.count - k) ≡ trapping (character p k).trap (prepended (character p k).dots (characters q (k + 1) (c.count - (k + 1))))
  unfolding string listed
  characters_next p q k l e =
      ap (characters p k) (let m : c.count - k ≡ suc (c.count - (k + 1)) = omega arith in m)
      ∙ ap₂ (λ (i : ℕ) (q : Point). trapping (character p k).trap (prepended (character p k).dots (characters q i (c.count - (k + 1)))))
      (sym (add-one k)) (sym e)

  -- nothing is left
  characters_none : (p : Point) (k : ℕ) → k ≡ c.count → characters p k (c.count - k) ≡ drawing [] p
  unfolding string listed
  characters_none p k e = ap (characters p k) (let m : c.count - k ≡ 0 = omega arith in m)

  module _ {screen store : List ℕ} {d : Drawn} {k : ℕ} (u : Writing screen store d k) where
    pub writing_last : k ≡ c.count → Drew t (characters from 0 c.count) (canvas screen₀ store₀ 0) d screen store
    writing_last e = underway_last u (characters_none d.position k e)

    module _ (w : Writable t (length screen₀) store₀ text c.string c.count) (l : k < c.count) (at : ℕ)
        (q : at ≡ descriptor text.font store c.string k) where
      at_kept : at ≡ address k
      at_kept = q ∙ descriptor_kept u.agree u.lengths.store w.legible k l

      reach_here : DescriptorIn t store₀ at
      reach_here = rw at_kept (w.legible.glyph k l)

      -- what the next character needs
      pub writing_ready : c.count < 65536 → GlyphReady t (length screen) store at (word_at store at) d.hits
      writing_ready m = record {
        target = underway_ready u w.target;
        first = refl;
        reach = rw (u.lengths.store, head_kept u.agree reach_here) reach_here;
        few = omega (arith, u.few);
      }

      -- the next character reads as it did at entry
      next_kept : character_drawing t.pen c.transparent text store d.position at ≡ character d.position k
      next_kept =
          character_kept u.agree reach_here t.pen c.transparent text d.position
          ∙ ap (character_drawing t.pen c.transparent text store₀ d.position) at_kept

      -- one character more
      pub writing_next : {screen' store' : List ℕ} {d' : Drawn}
          → Drew t (trapping d.trap (character_drawing t.pen c.transparent text store d.position at)) (canvas screen store d.hits)
          d' screen' store'
          → Writing screen' store' d' (k + 1)
      writing_next {screen'} {store'} {d'} h =
          let h₀ = subst (λ (o : Drawing). Drew t (trapping d.trap o) (canvas screen store d.hits) d' screen' store') next_kept h in
          underway_next u _ w.target _ _ (glyph_dots_length t.pen c.transparent text.rotation store₀ (address k) d.position)
          (characters_next d.position d'.position k l h₀.position) h₀.trap l h₀.dots
