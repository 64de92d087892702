-- The faults of a command (01, "Faults, in the order written within a command"): what is checked before
-- anything is done. No pixel is looked at.
use Rattle.std.specs.Prelude.{ℕ, ◌+◌, ◌*◌, ◌%◌, List, Bool, true, false, cond, not, ◌&&◌, ◌||◌, ltb, leb, eqb, get_or}
use Rattle.model.specs.Ranges.{any_below}
use Rattle.model.specs.Numbers.{fault_bitmap, fault_no_bitmap, fault_clip, fault_data, fault_call, fault_return}
use Rattle.model.specs.Numbers.{fault_no_font, fault_copy, fault_radius}
use Rattle.model.specs.Words.{word_at}
use Rattle.model.specs.Coordinates.{coord, negative}
use Rattle.model.specs.Bitmaps.{Geometry, Row, Bitmap, surface_of, bitmap_of, rule_broken, touches}
use Rattle.model.specs.declared.Bitmap.TheVariants as bitmap
use Rattle.model.specs.Record.{Pane, Clip, Font}
pub use Rattle.model.specs.declared.Context.{Context}
use Rattle.model.specs.declared.Font.TheVariants as font
use Rattle.model.specs.Copies.{Rectangle, rectangle_of, block_bad, sharing}
use Rattle.model.specs.Glyphs.{offset_word, descriptor, height_of}
use Rattle.model.specs.Commands.{Command}
use Rattle.model.specs.declared.Command.TheVariants as command

-- ## The active bitmap

abbrev pub no_bitmap : Bitmap → Bool
no_bitmap bitmap.Absent = true
no_bitmap (bitmap.Pane xmax ymax b) = false
no_bitmap (bitmap.Store a xmax ymax b) = false

-- some value of a clip is above these; a negative coordinate, read as its pattern, is above 7FFF hex, and so
-- above the xmax and ymax of a bitmap that keeps DEF_BITMAP's rule
abbrev pub clip_beyond : ℕ → ℕ → Clip → Bool
clip_beyond xmax ymax c = ltb xmax c.xmin || (ltb ymax c.ymin || (ltb xmax c.xmax || ltb ymax c.ymax))

-- "a clip value outside the bitmap, or not 0 without one"
unfoldable pub clip_outside : Bitmap → Clip → Bool
clip_outside bitmap.Absent c = clip_beyond 0 0 c
clip_outside (bitmap.Pane xmax ymax b) c = clip_beyond xmax ymax c
clip_outside (bitmap.Store a xmax ymax b) c = clip_beyond xmax ymax c

-- ## Data in the store

-- bytes of the store, n from a on, that are outside it or touch the active bitmap; none are neither
abbrev pub bytes_bad : Row → Bitmap → ℕ → ℕ → Bool
bytes_bad r active a n = not (eqb n 0) && (ltb r.len (a + n) || touches active a n)

-- "25 an array, string, offset word or descriptor at an odd address (byte strings may be odd), outside the
-- store or touching the active bitmap (an empty array or word string is checked for oddness alone, an empty
-- byte string for nothing)": n bytes from a on
unfoldable pub array_bad : Row → Bitmap → ℕ → ℕ → Bool
array_bad r active a n = eqb (a % 2) 1 || bytes_bad r active a n

abbrev pub no_font : Font → Bool
no_font font.Absent = true
no_font (font.Word base) = false
no_font (font.Byte base) = false

-- the string of n characters at a, and the offset words of byte mode
unfoldable pub string_bad : Row → Bitmap → List ℕ → Font → ℕ → ℕ → Bool
string_bad r active store font.Absent a n = false
string_bad r active store (font.Word base) a n = array_bad r active a (2 * n)
string_bad r active store (font.Byte base) a n =
    bytes_bad r active a n || any_below n (λ k. array_bad r active (offset_word base (get_or store (a + k) 0)) 2)

-- the descriptors, each 1 + height words
unfoldable pub descriptors_bad : Row → Bitmap → List ℕ → Font → ℕ → ℕ → Bool
descriptors_bad r active store f a n =
    any_below n (λ k. array_bad r active (descriptor f store a k)
    (2 + 2 * height_of (word_at store (descriptor f store a k))))

-- ## Copies

-- the bitmap that BIT_BLT_M names, "at the active depth"
abbrev pub source_bitmap : Geometry → Row → Bitmap → ℕ → ℕ → ℕ → Bitmap
source_bitmap g r active a xmax ymax = bitmap_of a xmax ymax (surface_of g r active).bits

-- BIT_BLT_M's faults after 23, by its source bitmap and rectangle
abbrev pub copy_fault : Geometry → Row → Bitmap → Bitmap → Rectangle → ℕ
copy_fault g r active source c =
    cond (rule_broken g r source) fault_bitmap
    (cond (block_bad (surface_of g r source) c || sharing active source (surface_of g r source) c) fault_copy 0)

-- ## Each command's fault; 0 for none

-- "Drawing commands: 23", and then the others
abbrev pub draw_fault : Bitmap → ℕ → ℕ
draw_fault active rest = cond (no_bitmap active) fault_no_bitmap rest

-- all that faults depend on beside the pane's geometry and row and its store
abbrev pub context_of : Pane → Context
context_of p = record { bitmap = p.bitmap; font = p.text.font; kept = p.returns.count }

unfoldable pub fault_of : Geometry → Row → Context → List ℕ → Command → ℕ
fault_of g r x store (command.Link a) = 0
fault_of g r x store command.Nop = 0
fault_of g r x store (command.DefTexture pattern t) = 0
-- "DEF_CHAR_SET: 25 odd base"
fault_of g r x store (command.DefCharSet base t) = cond (eqb (base % 2) 1) fault_data 0
-- "CALL: 26 eight kept"
fault_of g r x store (command.Call a) = cond (leb 8 x.kept) fault_call 0
-- "RETURN: 27 none kept"
fault_of g r x store command.Return = cond (eqb x.kept 0) fault_return 0
-- "DEF_BITMAP: 22 rule broken"
fault_of g r x store (command.DefBitmap a xmax ymax b) = cond (rule_broken g r (bitmap_of a xmax ymax b)) fault_bitmap 0
fault_of g r x store (command.DefColors fore back) = 0
fault_of g r x store (command.DefLogicalOp mask code) = 0
fault_of g r x store command.EnterPick = 0
fault_of g r x store command.ExitPick = 0
-- "DEF_CLIP_RECT: 23 no bitmap, 24 outside it": "the four values lie in the bitmap"
fault_of g r x store (command.DefClipRect xmin ymin xmax ymax) =
    cond (no_bitmap x.bitmap) fault_no_bitmap
    (cond (clip_outside x.bitmap (record { xmin = xmin; ymin = ymin; xmax = xmax; ymax = ymax })) fault_clip 0)
fault_of g r x store (command.DefSpace spacing) = 0
fault_of g r x store (command.DefCharOrient orientation) = 0
fault_of g r x store (command.AbsMov a b) = 0
fault_of g r x store (command.RelMov dx dy) = 0
fault_of g r x store (command.Point dx dy) = draw_fault x.bitmap 0
fault_of g r x store (command.Line dx dy) = draw_fault x.bitmap 0
fault_of g r x store (command.Rect dx dy) = draw_fault x.bitmap 0
fault_of g r x store (command.BitBlt b) =
    draw_fault x.bitmap (cond (block_bad (surface_of g r x.bitmap) (rectangle_of b)) fault_copy 0)
-- pairs of words
fault_of g r x store (command.Polyline a n) = draw_fault x.bitmap (cond (array_bad r x.bitmap a (4 * n)) fault_data 0)
-- "A negative radius is fault 30, after 23" (02, A.1)
fault_of g r x store (command.Circle radius) = draw_fault x.bitmap (cond (negative (coord radius)) fault_radius 0)
fault_of g r x store (command.Char a n t) =
    draw_fault x.bitmap (cond (no_font x.font) fault_no_font
    (cond (string_bad r x.bitmap store x.font a n
    || descriptors_bad r x.bitmap store x.font a n) fault_data 0))
fault_of g r x store (command.BitBltM a xmax ymax b) =
    draw_fault x.bitmap (copy_fault g r x.bitmap (source_bitmap g r x.bitmap a xmax ymax) (rectangle_of b))
-- triples of words
fault_of g r x store (command.ScanLines a n) =
    draw_fault x.bitmap (cond (array_bad r x.bitmap a (6 * n)) fault_data 0)
