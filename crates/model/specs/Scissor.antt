-- The scissor (02, A.6, "Clip worked out once per change"): "the rectangle in screen coordinates where drawing can
-- land". It is kept in the pane record; here is what it is, and what it is shown to hold.
use Rattle.std.specs.Prelude.{ℕ, ◌+◌, ◌-◌, ◌≤◌, ◌<◌, ◌≡◌, Bool, true, cond, not, ◌&&◌, ◌||◌, ltb, eqb}
use Rattle.model.specs.Bitmaps.{Row, Bitmap, is_pane}
use Rattle.model.specs.declared.Bitmap.TheVariants as bitmap
use Rattle.model.specs.Record.{Pane, Clip, Scissor, no_scissor, with_bitmap, with_clip, with_scissor}

-- ## What would be computed afresh

-- a maximum below its minimum: no pixel lies in the clip
abbrev pub clip_empty : Clip → Bool
clip_empty c = ltb c.xmax c.xmin || ltb c.ymax c.ymin

-- "clip within pane", whose values lie in it (fault 24, refusal 12): "Pixel (x,y) of a pane is screen pixel
-- (left + x, top + y)". "It is kept as left, top, width and height"
abbrev pub clip_on_screen : Row → Clip → Scissor
clip_on_screen r c =
    record {
      left = r.left + c.xmin;
      top = r.top + c.ymin;
      width = c.xmax + 1 - c.xmin;
      height = c.ymax + 1 - c.ymin;
    }

-- "empty if the active bitmap is in the store or absent"; "four zeros when empty"
unfoldable pub scissor_of : Row → Bitmap → Clip → Scissor
scissor_of r bitmap.Absent c = no_scissor
scissor_of r (bitmap.Pane xmax ymax b) c = cond (clip_empty c) no_scissor (clip_on_screen r c)
scissor_of r (bitmap.Store a xmax ymax b) c = no_scissor

abbrev pub afresh : Row → Pane → Scissor
afresh r p = scissor_of r p.bitmap p.clip

-- "equal to what would be computed afresh"
abbrev pub Current : Row → Pane → Type 0
Current r p = p.scissor ≡ afresh r p

abbrev pub same_scissor : Scissor → Scissor → Bool
same_scissor s t =
    eqb s.left t.left && (eqb s.top t.top && (eqb s.width t.width && eqb s.height t.height))

-- "A pane record in which it isn't equal falls under refusal 12"
unfoldable pub scissor_stale : Row → Pane → Bool
scissor_stale r p = not (same_scissor p.scissor (afresh r p))

-- a record with this active bitmap and this clip, and the scissor that goes with them
abbrev pub with_bitmap_and_clip : Row → Pane → Bitmap → Clip → Pane
with_bitmap_and_clip r p b c = with_scissor (with_clip (with_bitmap p b) c) (scissor_of r b c)

-- ## What it holds

-- screen pixel (u,v) lies in it
pub record InScissor (s : Scissor) (u v : ℕ) : Type 0 where
  pub west : s.left ≤ u
  pub east : u < s.left + s.width
  pub north : s.top ≤ v
  pub south : v < s.top + s.height

-- (x,y) is one of "the pane's pixels in bitmap and clip"
pub record PanePixel (r : Row) (p : Pane) (x y : ℕ) : Type 0 where
  -- "the pane's pixels": "all (x,y) below its width and height"
  pub column : x < r.width
  pub row : y < r.height
  -- "in bitmap": the pane is the active bitmap
  pub bitmap : is_pane p.bitmap ≡ true
  -- "and clip"
  pub west : p.clip.xmin ≤ x
  pub east : x ≤ p.clip.xmax
  pub north : p.clip.ymin ≤ y
  pub south : y ≤ p.clip.ymax

-- .. which screen pixel (u,v) is
pub record PanePixelAt (r : Row) (p : Pane) (u v : ℕ) : Type 0 where
  pub x : ℕ
  pub y : ℕ
  pub pixel : PanePixel r p x y
  pub u_is : u ≡ r.left + x
  pub v_is : v ≡ r.top + y

-- "it is shown to hold exactly the pane's pixels in bitmap and clip": all of them, and no other pixel of the screen
pub record Exact (r : Row) (p : Pane) : Type 0 where
  pub all : (x y : ℕ) → PanePixel r p x y → InScissor p.scissor (r.left + x) (r.top + y)
  pub only : (u v : ℕ) → InScissor p.scissor u v → PanePixelAt r p u v
