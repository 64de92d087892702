-- What a command without a fault does (01, "One command" and "Pixels"): another record, or a drawing.
use Rattle.std.specs.Prelude.{ℕ, ◌+◌, ◌-◌, ◌/◌, ◌%◌, List, Bool, true, false, nat_abs, get_or, set}
use Rattle.model.specs.Ranges.{listed}
use Rattle.model.specs.Coordinates.{coord, moved}
use Rattle.model.specs.Bitmaps.{Geometry, Row, bitmap_of}
use Rattle.model.specs.Record.{Pane, Clip, Font, Returns, with_pointer, with_position, with_returns, with_colours}
use Rattle.model.specs.Record.{with_operation, with_pattern, with_spacing, with_orientation, with_font, with_picking}
use Rattle.model.specs.Scissor.{with_bitmap_and_clip}
use Rattle.model.specs.declared.Font.TheVariants as font
use Rattle.model.specs.Dots.{Drawing}
use Rattle.model.specs.Lines.{line, point_at, rectangle, pairs_at, polyline, triples_at, scan_lines}
use Rattle.model.specs.Circles.{circle}
use Rattle.model.specs.Copies.{rectangle_of, seen, copy}
use Rattle.model.specs.Glyphs.{descriptor, string}
use Rattle.model.specs.Commands.{Command}
use Rattle.model.specs.declared.Command.TheVariants as command
use Rattle.model.specs.Faults.{source_bitmap}

pub data Effect : Type 0 where
  becomes : Pane → Effect
  draws : Drawing → Effect

-- "CALL keeps the next address"
abbrev pub kept_one : Returns → ℕ → Returns
kept_one r a = record { addresses = set r.addresses r.count a; count = r.count + 1 }

-- "RETURN takes the latest back": the latest, and the others
abbrev pub latest : Returns → ℕ
latest r = get_or r.addresses (r.count - 1) 0

abbrev pub without_latest : Returns → Returns
without_latest r = record { addresses = set r.addresses (r.count - 1) 0; count = r.count - 1 }

-- "in word mode (0A hex) ..; in byte mode (0B hex) .."
abbrev pub font_of : Bool → ℕ → Font
font_of false a = font.Word a
font_of true a = font.Byte a

-- "the whole bitmap"
abbrev pub whole_clip : ℕ → ℕ → Clip
whole_clip xmax ymax = record { xmin = 0; ymin = 0; xmax = xmax; ymax = ymax }

-- by the pane's geometry and row, its record, what it shows of its pixels, its store, and the address after
-- the command
unfoldable pub effect_of : Geometry → Row → Pane → (ℕ → ℕ → ℕ) → List ℕ → ℕ → Command → Effect
-- "LINK sets the pointer"
effect_of g r p pixel_of store next (command.Link a) = becomes (with_pointer p a)
-- "the pointer goes on"
effect_of g r p pixel_of store next command.Nop = becomes (with_pointer p next)
effect_of g r p pixel_of store next (command.DefTexture pattern t) =
    becomes (with_pointer (with_pattern p pattern t) next)
effect_of g r p pixel_of store next (command.DefCharSet base t) =
    becomes (with_pointer (with_font p (font_of t base)) next)
effect_of g r p pixel_of store next (command.Call a) =
    becomes (with_pointer (with_returns p (kept_one p.returns next)) a)
effect_of g r p pixel_of store next command.Return =
    becomes (with_pointer (with_returns p (without_latest p.returns)) (latest p.returns))
-- "It sets the clip to the whole bitmap"
effect_of g r p pixel_of store next (command.DefBitmap a xmax ymax b) =
    becomes (with_pointer (with_bitmap_and_clip r p (bitmap_of a xmax ymax b) (whole_clip xmax ymax)) next)
effect_of g r p pixel_of store next (command.DefColors fore back) =
    becomes (with_pointer (with_colours p fore back) next)
-- "the low four bits of the code count"
effect_of g r p pixel_of store next (command.DefLogicalOp mask code) =
    becomes (with_pointer (with_operation p (code % 16) mask) next)
-- "ENTER_PICK clears it; EXIT_PICK keeps it"
effect_of g r p pixel_of store next command.EnterPick = becomes (with_pointer (with_picking p true false) next)
effect_of g r p pixel_of store next command.ExitPick = becomes (with_pointer (with_picking p false p.flags.pick) next)
effect_of g r p pixel_of store next (command.DefClipRect xmin ymin xmax ymax) =
    becomes (with_pointer
    (with_bitmap_and_clip r p p.bitmap (record { xmin = xmin; ymin = ymin; xmax = xmax; ymax = ymax })) next)
effect_of g r p pixel_of store next (command.DefSpace spacing) = becomes (with_pointer (with_spacing p spacing) next)
-- "DEF_CHAR_ORIENT has the path in bits 9 and 8 of its word, the rotation in bits 1 and 0"
effect_of g r p pixel_of store next (command.DefCharOrient orientation) =
    becomes (with_pointer (with_orientation p (orientation / 256 % 4) (orientation % 4)) next)
effect_of g r p pixel_of store next (command.AbsMov x y) =
    becomes (with_pointer (with_position p (record { x = x; y = y })) next)
effect_of g r p pixel_of store next (command.RelMov dx dy) =
    becomes (with_pointer (with_position p (moved p.position (coord dx) (coord dy))) next)
-- "POINT moves by (dx,dy) and draws one pixel"
effect_of g r p pixel_of store next (command.Point dx dy) =
    draws (point_at p.pen (moved p.position (coord dx) (coord dy)))
effect_of g r p pixel_of store next (command.Line dx dy) = draws (line p.pen p.position (coord dx) (coord dy))
effect_of g r p pixel_of store next (command.Rect dx dy) =
    draws (rectangle p.pen p.position (coord dx) (coord dy))
effect_of g r p pixel_of store next (command.BitBlt b) =
    draws (copy (seen g r pixel_of store p.bitmap) p.text.spacing p.position (rectangle_of b))
effect_of g r p pixel_of store next (command.Polyline a n) = draws (polyline p.pen p.position (pairs_at store a n))
-- a radius is not negative where there is no fault
effect_of g r p pixel_of store next (command.Circle radius) =
    draws (circle p.pen p.position (nat_abs (coord radius)))
-- "transparency is that of CHAR's opcode where section 2.10.6 gives one"
effect_of g r p pixel_of store next (command.Char a n t) =
    draws (string p.pen t p.text store p.position (listed 0 n (descriptor p.text.font store a)))
effect_of g r p pixel_of store next (command.BitBltM a xmax ymax b) =
    draws (copy (seen g r pixel_of store (source_bitmap g r p.bitmap a xmax ymax)) p.text.spacing p.position
    (rectangle_of b))
effect_of g r p pixel_of store next (command.ScanLines a n) =
    draws (scan_lines p.pen p.position (triples_at store a n))
