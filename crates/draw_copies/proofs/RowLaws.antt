-- A row of a transfer: its bits, copied by words, are what its dots change, and all its pixels are visible.
use Rattle.std.proofs.Common.{◌≡◌, ℕ, ◌+◌, ◌-◌, ◌^◌, ◌<◌, ◌≤◌, Bool, true, false, cond, ◌⊎◌, List, length, sym, refl, ap, ◌∙◌, subst, inl, inr, zero-add, arith}
use Rattle.model.specs.declared.Source.TheVariants.{Copied}
use Rattle.model.specs.declared.Surface.{Surface}
use Rattle.model.specs.Bitmaps.{pixels}
use Rattle.model.specs.Pixels.{changes}
use Rattle.model.specs.Dots.{Dot, visible, hits, changes_of}
use Rattle.model.proofs.Decisions.{split, cond_true, cond_false}
use Rattle.canvas.specs.declared.Target.{Target}
use Rattle.canvas.specs.Canvas.{canvas}
use Rattle.canvas.proofs.TargetLaws.{clip_visible}
use Rattle.canvas.proofs.BufferLaws.{buffer_length, picked_painted, screen_painted, store_painted}
use Rattle.strips.specs.Strips.{InRow}
use Rattle.strips.specs.Stretches.{Stretched}
use Rattle.strips.proofs.FieldBits.{Bytes, changes_bytes}
use Rattle.strips.proofs.StretchLaws.{stretched_same}
use Rattle.strips.proofs.RowLaws.{row_is, sized}
use Rattle.strips.proofs.DotLaws.{Cut, dots_stretched}
use Rattle.strips.proofs.HitLaws.{shown_all, hits_shown}
use Rattle.row_copies.specs.Rows.{copied}
use Rattle.row_copies.proofs.PixelLinks.{copied_pixel, rows_fit}
use Rattle.draw_copies.specs.declared.Patch.{Patch}
use Rattle.draw_copies.specs.declared.Transfer.{Transfer}
use Rattle.draw_copies.specs.Rows.{row_of, Starts, RowStarts, BitsFit, BitsCopied}
use Rattle.draw_copies.specs.Transfers.{patch_dot, moved_dots, moved_row, Movable}

cond_bytes : (here : Bool) (screen store : List ℕ) → Bytes screen → Bytes store → Bytes (cond here screen store)
cond_bytes true screen store a b = a
cond_bytes false screen store a b = b

length_most : (here : Bool) (screen store : List ℕ) → length (cond here screen store) ≤ length screen + length store
length_most true screen store = omega arith
length_most false screen store = omega arith

module _ (t : Target) (m : Transfer) (j : ℕ) (screen store : List ℕ) (h : Movable t m (length screen) (length store))
    (some : 0 < m.patch.wide) (l : j < m.patch.high) where
  abbrev p : Patch
  p = m.patch

  abbrev u : Surface
  u = t.area.surface

  abbrev us : Surface
  us = m.source.surface

  -- the buffers that the row is drawn in and read from
  abbrev old : List ℕ
  old = cond t.area.onscreen screen store

  abbrev src : List ℕ
  src = cond m.source.onscreen screen store

  -- ## Where the row lies

  target_row : InRow u old p.x (p.y + j) p.wide
  target_row =
      let last = h.shown (p.wide - 1) j (omega arith) l in
      record {
        fits = record { depth = h.ready.depth; right = h.ready.right; long = rw (buffer_length t.area.onscreen screen store) h.ready.long };
        small = h.ready.small;
        columns = omega (arith, last.east, h.ready.east);
        row = omega (arith, last.south, h.ready.south);
      }

  source_row : InRow us src p.sx (p.sy + j) p.wide
  source_row = record {
    fits = record { depth = h.readable.depth; right = h.readable.right; long = rw (buffer_length m.source.onscreen screen store) h.readable.long };
    small = h.readable.small;
    columns = h.east;
    row = omega (arith, h.south);
  }

  -- the numbers on the way fit the machine's
  starts : {s : Surface} {x y : ℕ} (here : Bool) → InRow s (cond here screen store) x y p.wide → length screen + length store < 2 ^ 64 → Starts s x y
  starts {s} {x} {y} here r few =
      let z = sized s (cond here screen store) x y p.wide r some in
      let most = length_most here screen store in
      record {
        down = omega (arith, z.down);
        row = omega (arith, z.room);
        right = omega (arith, r.columns, r.small);
        bit = omega (arith, z.short);
      }

  pub row_starts : length screen + length store < 2 ^ 64 → RowStarts u m j
  row_starts few =
      let z = sized u old p.x (p.y + j) p.wide target_row some in
      record {
        down = omega (arith, h.high);
        target = starts t.area.onscreen target_row few;
        up = omega (arith, h.tall);
        source = starts m.source.onscreen source_row few;
        count = omega (arith, z.short);
      }

  pub bits_fit : BitsFit t.area.onscreen m.source.onscreen (row_of u m j) m.operator screen store
  bits_fit = record {
    room = rows_fit u us old src p.x (p.y + j) p.sx (p.sy + j) p.wide target_row source_row h.depth some;
    clear = λ e. h.clear e some j l;
    sound = h.operator.sound;
  }

  -- ## Its dots

  row_dot : ℕ → Dot
  row_dot = patch_dot (pixels us src) p j

  row_seen : (i : ℕ) → i < p.wide → visible u t.clip (row_dot i) ≡ true
  unfolding row_dot
  row_seen i k = clip_visible h.ready (h.shown i j k l) (Copied (pixels us src (p.sx + i) (p.sy + j))) refl

  row_cut : Cut u t.clip row_dot (λ k. k) p.x (p.y + j) 0 p.wide p.wide
  unfolding row_dot
  row_cut = record {
    most = omega arith;
    column = λ k b. omega arith;
    row = λ k b. refl;
    hidden = λ k b o. absurd (none k b o);
    order_lt = λ k b. b;
    twice = λ k b. refl;
  }
    where
      none : (k : ℕ) → k < p.wide → (k < 0) ⊎ (0 + p.wide ≤ k) → ⊥
      none k b (inl a) = omega arith
      none k b (inr a) = omega arith

  row_hits : hits u t.clip (moved_dots m j src) ≡ p.wide
  unfolding row_dot
  row_hits = hits_shown u t.clip row_dot p.wide 0 ∙ shown_all (λ k. visible u t.clip (row_dot k)) p.wide 0 (λ k a b. row_seen k (omega arith))

  -- what its dots change is the stretch that is copied
  row_stretched : Stretched (copied m.operator (row_of u m j) src) (row_of u m j).row (row_of u m j).to ((row_of u m j).to + (row_of u m j).count) old
      (changes u (changes_of u t.clip t.pen (moved_dots m j src)) old)
  unfolding row_dot
  row_stretched =
      subst (λ (o : ℕ). Stretched (copied m.operator (row_of u m j) src) o (row_of u m j).to ((row_of u m j).to + (row_of u m j).count) old
      (changes u (changes_of u t.clip t.pen (moved_dots m j src)) old))
      (sym (row_is u old p.x (p.y + j) p.wide target_row))
      (dots_stretched u t.clip t.pen row_dot (λ k. k) p.x (p.y + j) 0 p.wide p.wide old (copied m.operator (row_of u m j) src)
      row_cut target_row.fits target_row.columns target_row.row
      (λ q k a b v. rw (zero-add q) (cond_true _ _ (row_seen q a)
      ∙ copied_pixel u us t.pen m.operator h.operator src source_row.fits h.ready.depth h.depth p.x (p.y + j) p.sx (p.sy + j) p.wide
      h.east source_row.row q k a b v)))

  module _ {screen' store' : List ℕ} (c : BitsCopied t.area.onscreen m.source.onscreen (row_of u m j) m.operator screen store screen' store')
      (a : Bytes screen) (b : Bytes store) (a' : Bytes screen') (b' : Bytes store') where
    row_changed : cond t.area.onscreen screen' store' ≡ changes u (changes_of u t.clip t.pen (moved_dots m j src)) old
    row_changed = stretched_same c.target row_stretched (cond_bytes t.area.onscreen screen' store' a' b')
        (changes_bytes u _ old (cond_bytes t.area.onscreen screen store a b))

    -- the row's words copied are the row moved
    pub row_moved : (before : ℕ) → t.picking ≡ false → canvas screen' store' (before + p.wide) ≡ moved_row t m j (canvas screen store before)
    unfolding moved_row
    row_moved before q = split t.area.onscreen
        (λ o. ap (λ (s : List ℕ). canvas screen' s (before + p.wide)) (sym (cond_true _ _ o) ∙ c.other ∙ cond_true _ _ o)
        ∙ screen_painted t (moved_dots m j src) screen store before p.wide row_hits q o
        (sym (cond_true _ _ o) ∙ row_changed ∙ ap (changes u (changes_of u t.clip t.pen (moved_dots m j src))) (cond_true _ _ o)))
        (λ o. ap (λ (s : List ℕ). canvas s store' (before + p.wide)) (sym (cond_false _ _ o) ∙ c.other ∙ cond_false _ _ o)
        ∙ store_painted t (moved_dots m j src) screen store before p.wide row_hits q o
        (sym (cond_false _ _ o) ∙ row_changed ∙ ap (changes u (changes_of u t.clip t.pen (moved_dots m j src))) (cond_false _ _ o)))

  -- in pick mode
  pub row_picked : (before : ℕ) → t.picking ≡ true → canvas screen store (before + p.wide) ≡ moved_row t m j (canvas screen store before)
  unfolding moved_row
  row_picked before q = picked_painted t (moved_dots m j src) screen store before p.wide row_hits q
