-- Set-up's refusals 6 to 11, and refusal 12 (01, "Calls and their refusals, in order").
use Rattle.std.specs.Prelude.{ℕ, ◌+◌, ◌*◌, ◌%◌, List, Bool, false, cond, not, ◌||◌, ◌&&◌, ltb, leb, eqb, get_or}
use Rattle.model.specs.Ranges.{any_below, out_of}
use Rattle.model.specs.Numbers.{status_faulted, status_trapped, refuse_geometry, refuse_screen, refuse_rectangle}
use Rattle.model.specs.Numbers.{refuse_store, refuse_overlap, refuse_shared}
use Rattle.model.specs.Words.{address_end}
use Rattle.model.specs.Bitmaps.{Geometry, Row, is_depth, row_words, rule_broken, share_span}
use Rattle.model.specs.Record.{Pane, Progress, Flags, Font, no_pane}
use Rattle.model.specs.declared.Font.TheVariants as font
use Rattle.model.specs.Faults.{clip_outside}
use Rattle.model.specs.Scissor.{scissor_stale}

-- what the logic reads past the end of a list of rows
abbrev pub no_row : Row
no_row = record { left = 0; top = 0; width = 0; height = 0; start = 0; len = 0 }

abbrev pub row_at : List Row → ℕ → Row
row_at rows k = get_or rows k no_row

abbrev pub pane_at : List Pane → ℕ → Pane
pane_at panes k = get_or panes k no_pane

-- ## 6 to 11

-- "6 geometry or row count out of range": "width and height 1 to 4,096 pixels, depth b of 1, 2, 4 or 8 bits";
-- "The table has 1 to 8 rows"
unfoldable pub geometry_bad : Geometry → ℕ → Bool
geometry_bad g count =
    out_of 1 4096 g.width || (out_of 1 4096 g.height || (not (is_depth g.depth) || out_of 1 8 count))

-- the bytes of the screen's rows
abbrev pub screen_bytes : Geometry → ℕ
screen_bytes g = 2 * (g.height * row_words g.width g.depth)

-- "8 a rectangle empty or beyond the screen"
unfoldable pub rectangle_bad : Geometry → Row → Bool
rectangle_bad g r =
    eqb r.width 0 || (eqb r.height 0 || (ltb g.width (r.left + r.width) || ltb g.height
    (r.top + r.height)))

abbrev pub most_store : ℕ
most_store = 2097152

-- "9 a store of odd length, above 2,097,152 bytes or beyond its buffer"; by the buffer's length
unfoldable pub store_bad : ℕ → Row → Bool
store_bad stores r = eqb (r.len % 2) 1 || (ltb most_store r.len || ltb stores (r.start + r.len))

-- "10 two rectangles share a pixel"
unfoldable pub share_pixel : Row → Row → Bool
share_pixel a b =
    share_span a.left a.width b.left b.width && share_span a.top a.height b.top b.height

-- "11 two stores share a byte"
unfoldable pub share_byte : Row → Row → Bool
share_byte a b = share_span a.start a.len b.start b.len

-- some two of the first rows pass the test
abbrev pub any_pair : ℕ → (Row → Row → Bool) → List Row → Bool
any_pair count f rows = any_below count (λ j. any_below j (λ i. f (row_at rows i) (row_at rows j)))

-- the first of set-up's refusals that applies, by geometry, table and the lengths of the two buffers; 0 for
-- none
unfoldable pub checks : Geometry → ℕ → List Row → ℕ → ℕ → ℕ
checks g count rows screen stores =
    cond (geometry_bad g count) refuse_geometry
    (cond (ltb screen (screen_bytes g)) refuse_screen
    (cond (any_below count (λ k. rectangle_bad g (row_at rows k))) refuse_rectangle
    (cond (any_below count (λ k. store_bad stores (row_at rows k))) refuse_store
    (cond (any_pair count share_pixel rows) refuse_overlap
    (cond (any_pair count share_byte rows) refuse_shared 0)))))

-- ## 12

-- "a status above 3; a fault outside 20 to 29 at status 3 or not 0 elsewhere"; "refusal 12 admits fault 30 at
-- status 3" (02, A.1), and "status 4 only .." (02, A.7)
unfoldable pub progress_bad : Progress → Bool
progress_bad p =
    ltb status_trapped p.status
    || ((eqb p.status status_faulted && out_of 20 30 p.fault) ||
    (not (eqb p.status status_faulted) && not (eqb p.fault 0)))

-- "Refusal 12 admits status 4 only with the switch on and the flag set" (02, A.7)
unfoldable pub trap_bad : ℕ → Flags → Bool
trap_bad status f = eqb status status_trapped && not (f.switch && f.trap)

-- "a font base odd or above 22 bits"
abbrev pub base_bad : ℕ → Bool
base_bad a = eqb (a % 2) 1 || leb address_end a

abbrev pub font_bad : Font → Bool
font_bad font.Absent = false
font_bad (font.Word a) = base_bad a
font_bad (font.Byte a) = base_bad a

-- "12 the pane record has .. a bitmap breaking DEF_BITMAP's rule; a clip value outside the bitmap, or not 0
-- without one; ..; an operation above 15; a path or rotation above 3; over eight return addresses"; a status 4
-- without its cause (02, A.7); or a scissor that isn't what would be computed afresh (02, A.6)
unfoldable pub pane_bad : Geometry → Row → Pane → Bool
pane_bad g r p =
    progress_bad p.progress
    || (trap_bad p.progress.status p.flags
    || (rule_broken g r p.bitmap
    || (clip_outside p.bitmap p.clip
    || (font_bad p.text.font
    || (ltb 15 p.pen.op
    || (ltb 3 p.text.path
    || (ltb 3 p.text.rotation || (ltb 8 p.returns.count || scissor_stale r p))))))))
