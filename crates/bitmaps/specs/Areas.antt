-- Where a bitmap's pixels lie, and what is asked of a surface.
use Rattle.std.specs.Prelude.{◌≡◌, true, false, ℕ, ◌+◌, ◌-◌, ◌*◌, ◌≤◌}
use Rattle.model.specs.declared.Geometry.{Geometry}
use Rattle.model.specs.declared.Row.{Row}
use Rattle.model.specs.declared.Surface.{Surface}
use Rattle.model.specs.declared.Bitmap.{Bitmap}
use Rattle.model.specs.declared.Bitmap.TheVariants as bitmap
use Rattle.model.specs.Bitmaps.{is_pane, row_words, bitmap_of, surface_of, rule_broken, Depth}
use Rattle.bitmaps.specs.declared.areas.Area.{Area}
use Rattle.bitmaps.specs.Places.{Placed}

-- the area of a bitmap: the pane's pixels lie in the screen, a store bitmap's in the store
abbrev pub area_of : Geometry → Row → Bitmap → Area
area_of g r b = record { onscreen = is_pane b; surface = surface_of g r b }

-- ## Where drawing lands (02, A.6)

-- the screen from the pane's corner on: what of it is drawn on, the scissor says alone
unfoldable pub screen_from : Geometry → Row → Surface
screen_from g r =
    record {
      base = 0;
      words = row_words g.width g.depth;
      bits = g.depth;
      left = r.left;
      top = r.top;
      width = g.width - r.left;
      height = g.height - r.top;
    }

-- the area that commands draw in: the pane's pixels from its corner on, a store bitmap's in the store
abbrev pub landing_area : Geometry → Row → Bitmap → Area
landing_area g r bitmap.Absent = area_of g r bitmap.Absent
landing_area g r (bitmap.Pane xmax ymax b) = record { onscreen = true; surface = screen_from g r }
landing_area g r (bitmap.Store a xmax ymax b) = area_of g r (bitmap.Store a xmax ymax b)

-- a screen of sizes that set-up lets pass, with the pane's corner on it
pub record OnScreen (g : Geometry) (r : Row) : Type 0 where
  pub width : g.width ≤ 4096
  pub depth : g.depth ≤ 8
  pub left : r.left ≤ g.width
  pub top : r.top ≤ g.height

-- ## Sources, and what is asked

-- the bitmap that BIT_BLT_M names, by the active bitmap
abbrev pub source_of : Geometry → Row → Bitmap → ℕ → ℕ → ℕ → Bitmap
source_of g r active a xmax ymax = bitmap_of a xmax ymax (surface_of g r active).bits

-- what refusals 6 to 12 leave of a pane's active bitmap
pub record Active (g : Geometry) (r : Row) (active : Bitmap) : Type 0 where
  pub screen : ℕ
  pub store : ℕ
  pub placed : Placed g r screen store
  pub rule : rule_broken g r active ≡ false

-- the byte after a surface's rows
abbrev pub rows_end : Surface → ℕ
rows_end s = s.base + 2 * ((s.top + s.height) * s.words)

-- a surface of which pixels are read, in a buffer of n bytes
pub record Readable (u : Surface) (n : ℕ) : Type 0 where
  pub depth : Depth u.bits
  pub right : (u.left + u.width) * u.bits ≤ 16 * u.words
  pub small : u.left + u.width ≤ 65536
  pub long : rows_end u ≤ n
