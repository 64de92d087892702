-- What a drawing command that is free of faults may rely on, and that its routine carries out what the command draws.
use mathlib.Core.Path.{◌≡◌, refl, sym, ap, subst, ◌∙◌}
use mathlib.Core.Bool.{Bool, false, cond, ◌||◌}
use mathlib.Core.List.{List}
use Prim.Native.Nat.{ℕ, ◌*◌, ◌≤◌}
use native.Mathlib.Omega.{arith}
use lib.IntN.{nat_abs}
use lib.ListN.{length}
use denote.Enum.Declared.{tag_of}
use types.Run.{OneOf, hit}
use Rattle.model.specs.declared.Geometry.{Geometry}
use Rattle.model.specs.declared.Row.{Row}
use Rattle.model.specs.declared.Pane.{Pane}
use Rattle.model.specs.declared.Bitmap.{Bitmap}
use Rattle.model.specs.declared.Block.{Block}
use Rattle.model.specs.declared.Command.{Command}
use Rattle.model.specs.declared.Command.TheVariants as command
use Rattle.model.specs.Bitmaps.{is_pane, surface_of, pane_surface, pixels}
use Rattle.model.specs.Dots.{Drawing}
use Rattle.model.specs.Ranges.{listed}
use Rattle.model.specs.Coordinates.{coord, moved}
use Rattle.model.specs.Lines.{line, point_at, rectangle, pairs_at, polyline, triples_at, scan_lines}
use Rattle.model.specs.Circles.{circle}
use Rattle.model.specs.Copies.{rectangle_of, seen, copy, block_bad}
use Rattle.model.specs.Glyphs.{descriptor, string}
use Rattle.model.specs.Faults.{no_bitmap, no_font, array_bad, string_bad, descriptors_bad, source_bitmap, context_of, fault_of}
use Rattle.model.specs.Effects.{Effect, draws, effect_of}
use Rattle.model.specs.Runs.{most_pixels}
use Rattle.model.specs.contracts.Command.{the_type}
use Rattle.model.proofs.Decisions.{cond_none}
use Rattle.bitmaps.specs.declared.areas.Area.{Area}
use Rattle.bitmaps.specs.Areas.{area_of}
use Rattle.bitmaps.proofs.AreaLaws.{source_named}
use Rattle.canvas.specs.declared.Target.{Target}
use Rattle.canvas.specs.declared.Drawn.{Drawn}
use Rattle.canvas.specs.Canvas.{canvas, Drew, Reach}
use Rattle.canvas.specs.Targets.{Ready, target_of}
use Rattle.canvas.proofs.LoopLaws.{drew_hits}
use Rattle.bitmaps.proofs.BytesLaws.{array_bad_bytes}
use Rattle.canvas.proofs.ReachLaws.{bytes_bad_reach, aimed_of}
use Rattle.draw_copies.specs.Transfers.{Copyable}
use Rattle.draw_copies.proofs.SourceLaws.{copy_fault_copyable, source_depth, seen_pixels, block_landing, copy_landing}
use Rattle.draw_text.specs.Writing.{Legible, Writable}
use Rattle.draw_text.proofs.LegibleLaws.{char_legible}
use Rattle.perform.specs.Performing.{Allowed, Carries}
use Rattle.perform.proofs.KindLaws.{drawing_tags, record_tags, drawing_draws, record_changes, draw_fault_none, either_effect}
use Rattle.perform.proofs.ReadyLaws.{ready_of}
use Rattle.perform.proofs.CountLaws.{point_few, line_few, polyline_few, scan_lines_few, rectangle_few, circle_few, copy_few, string_few}

-- ## What no fault says; k is the command, told as c

module _ {g : Geometry} {r : Row} {p : Pane} {screen : ℕ} {store : List ℕ} {c : Command} (h : Allowed g r p screen store c) where
  clear_as : {k : Command} → c ≡ k → fault_of g r (context_of p) store k ≡ 0
  clear_as told = subst (λ (z : Command). fault_of g r (context_of p) store z ≡ 0) told h.clear

  pub drawing_active : {k : Command} → c ≡ k → OneOf drawing_tags (tag_of the_type k) → no_bitmap p.bitmap ≡ false
  drawing_active {k} told kind = (drawing_draws g r p (λ x y. 0) store 0 k kind).active (clear_as told)

  -- BIT_BLT's block lies in the active bitmap
  bit_blt_block : {b : Block} → c ≡ command.BitBlt b → block_bad (surface_of g r p.bitmap) (rectangle_of b) ≡ false
  unfolding fault_of
  bit_blt_block {b} told =
      (cond_none (block_bad (surface_of g r p.bitmap) (rectangle_of b)) _ _ tt (draw_fault_none p.bitmap _ (clear_as told)).1).0

  -- ## .. of the pane's target

  module _ {t : Target} (aim : t ≡ target_of g r p) where
    pub drawing_ready : {k : Command} → c ≡ k → OneOf drawing_tags (tag_of the_type k) → Ready t screen (length store)
    drawing_ready told kind =
        subst (λ (z : Target). Ready z screen (length store)) (sym aim)
        (ready_of g r p screen (length store) h.sound (drawing_active told kind))

    -- an array without a fault is in reach while the target is drawn on
    array_reach : (a size : ℕ) → array_bad r p.bitmap a size ≡ false → Reach t (length store) a size
    array_reach a size e =
        subst (λ (z : Target). Reach z (length store) a size) (sym aim)
        (subst (λ (n : ℕ). Reach (target_of g r p) n a size) (sym h.sound.placed.part)
        (bytes_bad_reach p.bitmap (aimed_of g r p) a size (array_bad_bytes r p.bitmap a size e)))

    pub polyline_reach : {a n : ℕ} → c ≡ command.Polyline a n → Reach t (length store) a (4 * n)
    unfolding fault_of
    polyline_reach {a} {n} told =
        array_reach a (4 * n) (cond_none (array_bad r p.bitmap a (4 * n)) _ _ tt (draw_fault_none p.bitmap _ (clear_as told)).1).0

    pub scan_lines_reach : {a n : ℕ} → c ≡ command.ScanLines a n → Reach t (length store) a (6 * n)
    unfolding fault_of
    scan_lines_reach {a} {n} told =
        array_reach a (6 * n) (cond_none (array_bad r p.bitmap a (6 * n)) _ _ tt (draw_fault_none p.bitmap _ (clear_as told)).1).0

    -- .. and so in the area that commands draw in
    pub bit_blt_inside : {b : Block} → c ≡ command.BitBlt b → block_bad t.area.surface (rectangle_of b) ≡ false
    unfolding target_of
    bit_blt_inside {b} told =
        subst (λ (z : Target). block_bad z.area.surface (rectangle_of b) ≡ false) (sym aim)
        (block_landing g r h.sound.placed p.bitmap b (bit_blt_block told))

    -- BIT_BLT_M's source can be copied
    pub bit_blt_m_copyable : {a xmax ymax : ℕ} {b : Block} {source : Area} → c ≡ command.BitBltM a xmax ymax b
        → source ≡ area_of g r (source_bitmap g r p.bitmap a xmax ymax) → Copyable t.area source b screen (length store)
    unfolding fault_of target_of
    bit_blt_m_copyable {a} {xmax} {ymax} {b} told at =
        subst (λ (u : Area). Copyable t.area u b screen (length store)) (sym at)
        (subst (λ (z : Target). Copyable z.area (area_of g r (source_bitmap g r p.bitmap a xmax ymax)) b screen (length store)) (sym aim)
        (copy_fault_copyable g r h.sound.placed p.bitmap (source_bitmap g r p.bitmap a xmax ymax) b (source_named a xmax ymax _)
        (draw_fault_none p.bitmap _ (clear_as told)).1 (source_depth g r p.bitmap a xmax ymax)))

    -- CHAR's string can be read
    pub char_writable : {a n : ℕ} {transparent : Bool} → c ≡ command.Char a n transparent → Writable t screen store p.text a n
    unfolding fault_of
    char_writable {a} {n} told =
        let text = h.sound.good.text in
        let bad = string_bad r p.bitmap store p.text.font a n || descriptors_bad r p.bitmap store p.text.font a n in
        let readable = (cond_none bad _ _ tt (cond_none (no_font p.text.font) _ _ tt (draw_fault_none p.bitmap _ (clear_as told)).1).1).0 in
        record {
          target = drawing_ready told (hit drawing_tags 22 tt);
          oriented = record { path = omega (arith, text.path); rotation = omega (arith, text.rotation) };
          legible =
              subst (λ (z : Target). Legible z p.text.font store a n) (sym aim)
              (char_legible r p.bitmap store p.text.font a n (aimed_of g r p) h.sound.placed.part readable);
        }

-- ## A routine carries out what its command draws

same_drawing : {e : Effect} {v w : Drawing} → e ≡ draws v → e ≡ draws w → v ≡ w
same_drawing h k = cc

module _ (g : Geometry) (r : Row) (p : Pane) (screen store : List ℕ) (d : Drawn) (screen' store' : List ℕ) where
  -- the command k, told as c, draws v on the target t
  pub carries : (v : Target → Drawing) (k : Command) {c : Command} {t : Target} → t ≡ target_of g r p → c ≡ k
      → ((next : ℕ) → effect_of g r p (pixels (pane_surface g r) screen) store next k ≡ draws (v (target_of g r p)))
      → length (v (target_of g r p)).dots ≤ most_pixels → Drew t (v t) (canvas screen store 0) d screen' store'
      → Carries g r p c screen store d screen' store'
  carries v k {c} {t} aim told is few h =
      let drawn : Drew (target_of g r p) (v (target_of g r p)) (canvas screen store 0) d screen' store' =
      subst (λ (z : Target). Drew z (v z) (canvas screen store 0) d screen' store') aim h in
      record {
        drew = λ next w e.
            subst (λ (z : Drawing). Drew (target_of g r p) z (canvas screen store 0) d screen' store')
            (same_drawing (is next) (sym (ap (effect_of g r p (pixels (pane_surface g r) screen) store next) told) ∙ e)) drawn;
        few = omega (arith, drew_hits drawn, few);
      }

  -- each command's
  module _ {c : Command} {t : Target} (aim : t ≡ target_of g r p) where
    pub point_carries : {dx dy : ℕ} → c ≡ command.Point dx dy
        → Drew t (point_at t.pen (moved p.position (coord dx) (coord dy))) (canvas screen store 0) d screen' store'
        → Carries g r p c screen store d screen' store'
    unfolding effect_of target_of
    point_carries {dx} {dy} told =
        carries (λ t. point_at t.pen (moved p.position (coord dx) (coord dy))) _ aim told (λ next. refl) (point_few _ _)

    pub line_carries : {dx dy : ℕ} → c ≡ command.Line dx dy
        → Drew t (line t.pen p.position (coord dx) (coord dy)) (canvas screen store 0) d screen' store'
        → Carries g r p c screen store d screen' store'
    unfolding effect_of target_of
    line_carries {dx} {dy} told =
        carries (λ t. line t.pen p.position (coord dx) (coord dy)) _ aim told (λ next. refl) (line_few _ _ dx dy)

    pub rect_carries : {dx dy : ℕ} → c ≡ command.Rect dx dy
        → Drew t (rectangle t.pen p.position (coord dx) (coord dy)) (canvas screen store 0) d screen' store'
        → Carries g r p c screen store d screen' store'
    unfolding effect_of target_of
    rect_carries {dx} {dy} told =
        carries (λ t. rectangle t.pen p.position (coord dx) (coord dy)) _ aim told (λ next. refl) (rectangle_few _ _ dx dy)

    pub circle_carries : {radius : ℕ} → c ≡ command.Circle radius
        → Drew t (circle t.pen p.position (nat_abs (coord radius))) (canvas screen store 0) d screen' store'
        → Carries g r p c screen store d screen' store'
    unfolding effect_of target_of
    circle_carries {radius} told =
        carries (λ t. circle t.pen p.position (nat_abs (coord radius))) _ aim told (λ next. refl) (circle_few _ _ radius)

    pub polyline_carries : {a n : ℕ} → c ≡ command.Polyline a n → n ≤ 65535
        → Drew t (polyline t.pen p.position (pairs_at store a n)) (canvas screen store 0) d screen' store'
        → Carries g r p c screen store d screen' store'
    unfolding effect_of target_of
    polyline_carries {a} {n} told h =
        carries (λ t. polyline t.pen p.position (pairs_at store a n)) _ aim told (λ next. refl) (polyline_few _ _ store a n h)

    pub scan_lines_carries : {a n : ℕ} → c ≡ command.ScanLines a n → n ≤ 65535
        → Drew t (scan_lines t.pen p.position (triples_at store a n)) (canvas screen store 0) d screen' store'
        → Carries g r p c screen store d screen' store'
    unfolding effect_of target_of
    scan_lines_carries {a} {n} told h =
        carries (λ t. scan_lines t.pen p.position (triples_at store a n)) _ aim told (λ next. refl) (scan_lines_few _ _ store a n h)

    pub char_carries : {a n : ℕ} {transparent : Bool} → c ≡ command.Char a n transparent → n ≤ 65535
        → Drew t (string t.pen transparent p.text store p.position (listed 0 n (descriptor p.text.font store a)))
        (canvas screen store 0) d screen' store'
        → Carries g r p c screen store d screen' store'
    unfolding effect_of target_of
    char_carries {a} {n} {transparent} told h =
        let font = descriptor p.text.font store a in
        carries (λ t. string t.pen transparent p.text store p.position (listed 0 n font)) _ aim told (λ next. refl)
        (string_few _ transparent p.text store p.position n font h)

    -- a copy from the area of a bitmap
    copy_carries : (k : Command) (b : Bitmap) (block : Block) → c ≡ k → no_bitmap b ≡ false
        → ((next : ℕ) → effect_of g r p (pixels (pane_surface g r) screen) store next k
        ≡ draws (copy (seen g r (pixels (pane_surface g r) screen) store b) p.text.spacing p.position (rectangle_of block)))
        → Drew t (copy (pixels (surface_of g r b) (cond (is_pane b) screen store)) p.text.spacing p.position (rectangle_of block))
        (canvas screen store 0) d screen' store'
        → Carries g r p c screen store d screen' store'
    copy_carries k b block told named is =
        carries (λ t. copy (pixels (surface_of g r b) (cond (is_pane b) screen store)) p.text.spacing p.position (rectangle_of block)) k aim told
        (λ next. is next ∙ ap (λ (see : ℕ → ℕ → ℕ). draws (copy see p.text.spacing p.position (rectangle_of block)))
        (seen_pixels g r b screen store named))
        (copy_few _ _ _ block)

    pub bit_blt_carries : {b : Block} → c ≡ command.BitBlt b → Allowed g r p (length screen) store c
        → Drew t (copy (pixels t.area.surface (cond t.area.onscreen screen store)) p.text.spacing p.position (rectangle_of b))
        (canvas screen store 0) d screen' store'
        → Carries g r p c screen store d screen' store'
    unfolding effect_of target_of
    bit_blt_carries {b} told allowed h =
        copy_carries (command.BitBlt b) p.bitmap b told (drawing_active allowed told (hit drawing_tags 19 tt)) (λ next. refl)
        (subst (λ (w : Drawing). Drew t w (canvas screen store 0) d screen' store')
        (ap (λ (z : Target). copy (pixels z.area.surface (cond z.area.onscreen screen store)) p.text.spacing p.position (rectangle_of b)) aim
        ∙ copy_landing g r allowed.sound.placed p.bitmap b (bit_blt_block allowed told) screen store p.text.spacing p.position) h)

    pub bit_blt_m_carries : {a xmax ymax : ℕ} {b : Block} {source : Area} → c ≡ command.BitBltM a xmax ymax b
        → source ≡ area_of g r (source_bitmap g r p.bitmap a xmax ymax)
        → Drew t (copy (pixels source.surface (cond source.onscreen screen store)) p.text.spacing p.position (rectangle_of b))
        (canvas screen store 0) d screen' store'
        → Carries g r p c screen store d screen' store'
    unfolding effect_of
    bit_blt_m_carries {a} {xmax} {ymax} {b} told at h =
        copy_carries (command.BitBltM a xmax ymax b) (source_bitmap g r p.bitmap a xmax ymax) b told (source_named a xmax ymax _) (λ next. refl)
        (subst (λ (u : Area). Drew t (copy (pixels u.surface (cond u.onscreen screen store)) p.text.spacing p.position (rectangle_of b))
        (canvas screen store 0) d screen' store') at h)

  -- nothing is said of a command that draws nothing
  pub carries_not : (c : Command) → OneOf record_tags (tag_of the_type c) → d.hits ≡ 0 → Carries g r p c screen store d screen' store'
  carries_not c kind none = record {
    drew = λ next w e. either_effect (record_changes g r p (pixels (pane_surface g r) screen) store next c kind).is e;
    few = omega arith;
  }
