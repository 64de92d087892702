-- Dots drawn on a sheet: one stamped, and one list after the other.
use mathlib.Core.Path.{◌≡◌, refl, sym, ap, ◌∙◌}
use mathlib.Core.Bool.{Bool, true, false, cond, ◌&&◌}
use mathlib.Core.List.{List, [], ◌∷◌, ◌++◌, map-append}
use Prim.Native.Nat.{ℕ, ◌+◌, ◌-◌, ◌*◌, ◌%◌, ◌^◌, ◌≤◌, ◌<◌}
use native.Mathlib.Omega.{arith}
use borrow.Author.Tests.{le-leb}
use lib.Bits.{bit_and, xor_zero_r, and_mask}
use lib.ListN.{length, get_or, length-set}
use lib.Seq.{set-get_or}
use Rattle.model.specs.Coordinates.{Place, at, place, between}
use Rattle.model.specs.Dots.{Dot, dot, visible, change_of}
use Rattle.model.specs.Pixels.{Change, change}
use Rattle.model.specs.Circles.{circle_dot}
use Rattle.model.specs.declared.Surface.{Surface}
use Rattle.model.specs.declared.Source.TheVariants as source
use Rattle.model.proofs.Decisions.{split, both_of, cond_true}
use Rattle.model.proofs.DotLaws.{lies_clip}
use Rattle.coordinates.specs.Offsets.{unbiased}
use Rattle.coordinates.proofs.EdgeLaws.{between_unbiased}
use Rattle.canvas.specs.declared.Target.{Target}
use Rattle.canvas.specs.Canvas.{Canvas, canvas, changed_unless, counted, hit, painted, painted_all}
use Rattle.canvas.proofs.CanvasLaws.{painted_all_append}
use Rattle.raster.specs.Place.{Drawable}
use Rattle.raster.proofs.BlendLaws.{place_in}
use Rattle.raster.proofs.PlaceLaws.{pixel_place, place_lies}
use Rattle.strips.specs.Strips.{mixed}
use Rattle.strips.proofs.FieldBits.{Bytes}
use Rattle.strips.proofs.RowLaws.{sized}
use Rattle.stamps.specs.Stamps.{stamped, stamp_byte}
use Rattle.stamps.proofs.StampLaws.{stamped_change}
use Rattle.draw_circles.specs.declared.sheets.Sheet.{Sheet}
use Rattle.draw_circles.specs.Sheets.{SheetReady, InLimits, SheetOf, on_sheet, Dabbed, dots_on, dot_if}
use Rattle.draw_circles.specs.Tables.{Blank}
use Rattle.draw_circles.proofs.SideLaws.{unbiased_pos}

-- a length kept keeps the sheet's promise
pub sheet_on : {s : Sheet} {m n k : ℕ} → n ≡ m → SheetReady s m k → SheetReady s n k
sheet_on e r = rw e r

-- ## One list after the other

module _ {s : Sheet} {stamps : List ℕ} where
  pub dabbed_none : (buffer : List ℕ) (hits : ℕ) → Dabbed s stamps (λ t. []) 0 buffer buffer hits hits
  unfolding painted_all
  dabbed_none buffer hits = record { drawn = λ t other h. refl; length = refl; few = omega arith }

  module _ {d : Target → List Dot} {m : ℕ} {old mid : List ℕ} {a b : ℕ} (p : Dabbed s stamps d m old mid a b) where
    -- the same dots, by another name
    pub dabbed_same : (e : Target → List Dot) → ((t : Target) → d t ≡ e t) → Dabbed s stamps e m old mid a b
    dabbed_same e f = record {
      drawn = λ t other h. p.drawn t other h ∙ ap (λ (l : List Dot). painted_all t l (on_sheet t other old a)) (f t);
      length = p.length;
      few = p.few;
    }

    pub dabbed_then : {e : Target → List Dot} {n : ℕ} {new : List ℕ} {c : ℕ} → Dabbed s stamps e n mid new b c
        → Dabbed s stamps (λ t. d t ++ e t) (m + n) old new a c
    dabbed_then {e = e} q = record {
      drawn = λ t other h.
          q.drawn t other h ∙ ap (painted_all t (e t)) (p.drawn t other h) ∙ sym (painted_all_append t (d t) (e t) (on_sheet t other old a));
      length = q.length ∙ p.length;
      few = omega (arith, p.few, q.few);
    }

    -- a larger bound of the count
    pub dabbed_more : {n : ℕ} → m ≤ n → Dabbed s stamps d n old mid a b
    dabbed_more l = record { drawn = p.drawn; length = p.length; few = omega (arith, p.few) }

  -- .. as places from the centre
  pub places_then : (l k : List Place) {m n : ℕ} {old mid new : List ℕ} {a b c : ℕ} → Dabbed s stamps (dots_on s l) m old mid a b
      → Dabbed s stamps (dots_on s k) n mid new b c → Dabbed s stamps (dots_on s (l ++ k)) (m + n) old new a c
  places_then l k p q =
      dabbed_same (dabbed_then p q) (dots_on s (l ++ k)) (λ t. sym (map-append (circle_dot t.pen (place s.centre)) l k))

-- ## Where a dot is visible

module _ {s : Sheet} {m n : ℕ} (r : SheetReady s m n) (t : Target) {stamps : List ℕ} (h : SheetOf t s stamps) where
  pub dot_visible : (p : Place) (w : ℕ) → visible t.area.surface t.clip (dot p (source.Colour w))
      ≡ (between s.clip.xmin s.clip.xmax p.x && between s.clip.ymin s.clip.ymax p.y)
  unfolding visible
  dot_visible p w = rw (h.surface, h.clip) (lies_clip s.surface s.clip r.east r.south p)

-- ## A dot of the limits

-- (old & 255) ^ 0 is old
blank_mixed : (old : ℕ) → old < 2 ^ 8 → mixed old 255 0 ≡ old
blank_mixed old h = xor_zero_r (bit_and old 255) ∙ and_mask old 8 ∙ omega arith

-- stamps that change nothing
blank_kept : (stamps buffer : List ℕ) (row o : ℕ) → Blank stamps → Bytes buffer → stamped stamps row o 1 buffer ≡ buffer
unfolding stamped
blank_kept stamps buffer row o b bytes =
    rw (b.kept (o % 16) (omega arith), b.flipped (o % 16) (omega arith), blank_mixed (get_or buffer (stamp_byte row o) 0) (bytes (stamp_byte row o)))
    (set-get_or buffer (stamp_byte row o) 0)

-- a change in the buffer of a sheet, and what pick mode leaves
sheet_changed : (onscreen : Bool) (u : Surface) (ch : Change) (other old : List ℕ) (hits : ℕ)
    → cond onscreen (canvas (change u ch old) other (hits + 1)) (canvas other (change u ch old) (hits + 1))
    ≡ counted (changed_unless false onscreen u ch (cond onscreen (canvas old other hits) (canvas other old hits)))
sheet_changed true u ch other old hits = refl
sheet_changed false u ch other old hits = refl

sheet_picked : (onscreen : Bool) (u : Surface) (ch : Change) (other old : List ℕ) (hits : ℕ)
    → cond onscreen (canvas old other (hits + 1)) (canvas other old (hits + 1))
    ≡ counted (changed_unless true onscreen u ch (cond onscreen (canvas old other hits) (canvas other old hits)))
sheet_picked true u ch other old hits = refl
sheet_picked false u ch other old hits = refl

module _ (s : Sheet) (stamps old : List ℕ) (x y : ℕ) (r : SheetReady s (length old) (length stamps)) (i : InLimits s x y) where
  abbrev u : Surface
  u = s.surface

  abbrev row : ℕ
  row = u.base + 2 * (u.words * (u.top + (y - 65536)))

  abbrev o : ℕ
  o = (u.left + (x - 65536)) * u.bits

  sheet_drawable : Drawable u old (x - 65536) (y - 65536)
  sheet_drawable = record {
    fits = record { depth = r.depth; right = r.right; long = r.long };
    small = r.small;
    column = omega (arith, r.east, i.east, i.west);
    row = omega (arith, r.south, i.south, i.north);
  }

  -- the numbers on the way to the pixel's byte fit the machine's
  pub record DabSized : Type 0 where
    pub east : 65536 ≤ x
    pub south : 65536 ≤ y
    pub west : u.left + (x - 65536) ≤ 65536
    pub down : u.top + (y - 65536) ≤ length old
    pub line : row ≤ length old
    pub bits : o ≤ 524288

  pub dab_sized : DabSized
  dab_sized =
      let d = sheet_drawable in
      let f : x - 65536 + 1 ≤ u.width = omega (arith, d.column) in
      let z = sized u old (x - 65536) (y - 65536) 1 (record { fits = d.fits; small = r.small; columns = f; row = d.row }) (omega arith) in
      record {
        east = omega (arith, i.west);
        south = omega (arith, i.north);
        west = omega (arith, r.small, d.column);
        down = z.down;
        line = omega (arith, z.room);
        bits = omega (arith, z.short);
      }

  -- its byte lies in the buffer
  pub dab_in : stamp_byte row o < length old
  dab_in = place_in u old (x - 65536) (y - 65536) sheet_drawable (pixel_place u (x - 65536) (y - 65536)) (place_lies u (x - 65536) (y - 65536) r.depth)

  module _ (t : Target) (other : List ℕ) (h : SheetOf t s stamps) (hits : ℕ) where
    abbrev d : Dot
    d = dot (at (unbiased x) (unbiased y)) (source.Colour t.pen.fore)

    abbrev made : Change
    made = change_of t.area.surface t.pen d

    dab_visible : visible t.area.surface t.clip d ≡ true
    dab_visible =
        dot_visible r t h (at (unbiased x) (unbiased y)) t.pen.fore
        ∙ both_of (between_unbiased s.clip.xmin s.clip.xmax x ∙ both_of (le-leb _ _ i.west) (le-leb _ _ i.east))
        (between_unbiased s.clip.ymin s.clip.ymax y ∙ both_of (le-leb _ _ i.north) (le-leb _ _ i.south))

    dab_hit : (p : Bool) → t.picking ≡ p → (c : Canvas)
        → counted (changed_unless p t.area.onscreen t.area.surface made c) ≡ painted_all t (d ∷ []) c
    unfolding painted hit painted_all
    dab_hit p e c =
        ap (λ (q : Bool). counted (changed_unless q t.area.onscreen t.area.surface made c)) (sym e)
        ∙ sym (cond_true (hit t d c) c dab_visible)

    -- stamped, the pixel is as the dot leaves it
    dab_change : Bytes stamps → Bytes old → t.picking ≡ false → stamped stamps row o 1 old ≡ change t.area.surface made old
    dab_change small bytes e =
        stamped_change u t.pen stamps old (x - 65536) (y - 65536) sheet_drawable (rw h.surface at (h.table.drawing e)) small bytes true row o 1
        refl refl refl
        ∙ (λ k. change (sym h.surface k) (change_of (sym h.surface k) t.pen
        (dot (at (sym (unbiased_pos x dab_sized.east) k) (sym (unbiased_pos y dab_sized.south) k)) (source.Colour t.pen.fore))) old)

    -- .. or as it was, in pick mode
    dab_drawn : Bytes stamps → Bytes old → on_sheet t other (stamped stamps row o 1 old) (hits + 1) ≡ painted_all t (d ∷ []) (on_sheet t other old hits)
    dab_drawn small bytes = split t.picking
        (λ e.
        ap (λ (l : List ℕ). on_sheet t other l (hits + 1)) (blank_kept stamps old row o (h.table.picking e) bytes)
        ∙ sheet_picked t.area.onscreen t.area.surface made other old hits ∙ dab_hit true e (on_sheet t other old hits))
        (λ e.
        ap (λ (l : List ℕ). on_sheet t other l (hits + 1)) (dab_change small bytes e)
        ∙ sheet_changed t.area.onscreen t.area.surface made other old hits ∙ dab_hit false e (on_sheet t other old hits))

  pub dab_stamped : Bytes stamps → Bytes old → (hits : ℕ) {new : List ℕ} → new ≡ stamped stamps row o 1 old
      → Dabbed s stamps (dot_if true x y) 1 old new hits (hits + 1)
  unfolding stamped
  dab_stamped small bytes hits f = record {
    drawn = λ t other h. ap (λ (l : List ℕ). on_sheet t other l (hits + 1)) f ∙ dab_drawn t other h hits small bytes;
    length = ap length f ∙ length-set old (stamp_byte row o) _;
    few = omega arith;
  }

-- no dot
pub dab_off : (s : Sheet) (stamps buffer : List ℕ) (x y hits : ℕ) → Dabbed s stamps (dot_if false x y) 1 buffer buffer hits hits
unfolding painted_all
dab_off s stamps buffer x y hits = record { drawn = λ t other h. refl; length = refl; few = omega arith }
