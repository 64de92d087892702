-- Writing a string: what it needs, and the drawing of one character.
use Rattle.std.specs.Prelude.{◌≡◌, ℕ, ◌+◌, ◌*◌, ◌<◌, Bool, List, length, slice_index}
use Rattle.model.specs.declared.Point.{Point}
use Rattle.model.specs.declared.Pen.{Pen}
use Rattle.model.specs.declared.Text.{Text}
use Rattle.model.specs.declared.Font.{Font}
use Rattle.model.specs.declared.Font.TheVariants.{Word, Byte}
use Rattle.model.specs.Words.{word_at}
use Rattle.model.specs.Coordinates.{place}
use Rattle.model.specs.Dots.{Drawing}
use Rattle.model.specs.Glyphs.{offset_word, descriptor, trap_of, glyph_dots, passed}
use Rattle.canvas.specs.declared.Target.{Target}
use Rattle.canvas.specs.Canvas.{Reach}
use Rattle.canvas.specs.Targets.{Ready}
use Rattle.draw_text.specs.Orientation.{Oriented}
use Rattle.draw_text.specs.Cells.{DescriptorIn}

-- every byte that a string of so many characters is read from lies in the store, and is none of the
-- active bitmap's
pub record Legible (t : Target) (f : Font) (store : List ℕ) (string count : ℕ) : Type 0 where
  pub word : (base k : ℕ) → f ≡ Word base → k < count → Reach t (length store) (string + 2 * k) 2
  pub code : (base k : ℕ) → f ≡ Byte base → k < count → Reach t (length store) (string + k) 1
  pub offset : (base k : ℕ) → f ≡ Byte base → k < count
      → Reach t (length store) (offset_word base (slice_index store (string + k))) 2
  pub glyph : (k : ℕ) → k < count → DescriptorIn t store (descriptor f store string k)

-- all that a string needs to be drawn
pub record Writable (t : Target) (screen : ℕ) (store : List ℕ) (text : Text) (string count : ℕ) : Type 0 where
  pub target : Ready t screen (length store)
  pub oriented : Oriented text
  pub legible : Legible t text.font store string count

-- the drawing of the one character whose descriptor stands at a
abbrev pub character_drawing : Pen → Bool → Text → List ℕ → Point → ℕ → Drawing
character_drawing pen transparent text store p a =
    record {
      dots = glyph_dots pen transparent text.rotation store a (place p);
      position = passed text (word_at store a) p;
      trap = trap_of (word_at store a);
    }
