-- Copies, whole: a patch can be moved if its block lies in its bitmap, and moved it is the copy that was read
-- first.
use Rattle.std.proofs.Common.{◌≡◌, ℕ, ◌+◌, ◌-◌, ◌*◌, ◌/◌, ◌%◌, ◌<◌, ◌≤◌, Bool, true, false, cond, ◌⊎◌, List, length, refl, sym}
use Rattle.std.proofs.Common.{ap, ◌∙◌, inl, inr, ⊎_elim, mul-le-mul_right, mul_comm, mul-le-mul_left, arith}
use Rattle.model.specs.declared.Block.{Block}
use Rattle.model.specs.declared.Point.{Point}
use Rattle.model.specs.declared.Surface.{Surface}
use Rattle.model.specs.Coordinates.{place}
use Rattle.model.specs.Bitmaps.{word_of, grid_bit, place_bit, Depth, Fits}
use Rattle.model.specs.Copies.{Rectangle, rectangle_of, copy_dots, block_bad}
use Rattle.model.proofs.PlaceLaws.{depth_bounds, column_in_byte}
use Rattle.bitmaps.specs.declared.areas.Area.{Area}
use Rattle.bitmaps.specs.Areas.{Readable, rows_end}
use Rattle.canvas.specs.declared.Target.{Target}
use Rattle.canvas.specs.Canvas.{Canvas, painted_all}
use Rattle.canvas.specs.Targets.{Ready}
use Rattle.canvas.proofs.BufferLaws.{buffer_length}
use Rattle.fault_copies.specs.Sharing.{row_from, row_to}
use Rattle.fault_copies.proofs.BlockLaws.{block_bad_within, word_le}
use Rattle.row_copies.specs.declared.operators.Operator.{Operator}
use Rattle.row_copies.specs.Rows.{OperatorOf}
use Rattle.row_copies.proofs.PixelLinks.{slidable_rows}
use Rattle.draw_copies.specs.declared.Patch.{Patch}
use Rattle.draw_copies.specs.Transfers.{Patched, moved_all, SlidableRows, Movable, Copyable, CopySource}
use Rattle.draw_copies.proofs.MoveLaws.{Aside, TargetFits, shown_on, painted_patch, ReadFirst, transfer, moved_within, moved_apart}
use Rattle.draw_copies.proofs.CropLaws.{copy_cropped}

-- ## What is asked of a patch

pub ready_readable : {t : Target} {m n : ℕ} → Ready t m n → Readable t.area.surface (cond t.area.onscreen m n)
ready_readable h = record { depth = h.depth; right = h.right; small = h.small; long = h.long }

pub patch_movable : {t : Target} {a : Area} {from : Point} {b : Block} {p : Patch} {m n : ℕ} {operator : Operator} (up : Bool) → Patched t.clip from b p
    → Ready t m n → Readable a.surface (cond a.onscreen m n) → block_bad a.surface (rectangle_of b) ≡ false
    → a.surface.bits ≡ t.area.surface.bits → OperatorOf t.pen.op t.pen.mask operator → SlidableRows t (transfer a p up operator)
    → Movable t (transfer a p up operator) m n
patch_movable {t} {a} {b = b} {operator = operator} up k h r e depth made clear =
    let w = block_bad_within a.surface b e in
    rw k.is (record {
      ready = h;
      readable = r;
      east = omega (arith, k.columns.most, w.east);
      south = omega (arith, k.rows.most, w.south);
      shown = λ i j l m.
          let x = k.columns.inside i l in
          let y = k.rows.inside j m in
          record { west = x.0; east = x.1; north = y.0; south = y.1 };
      wide = k.columns.small;
      high = k.rows.small;
      tall = omega (arith, k.rows.most, w.tall);
      depth = depth;
      operator = made;
      clear = rw k.is at clear;
    })

-- ## The buffers on the way

ready_fits : {t : Target} (c : Canvas) → Ready t (length c.screen) (length c.store) → TargetFits t c
ready_fits {t} c h z s = record { depth = h.depth; right = h.right; long = omega (arith, h.long, same t.area.onscreen) }
  where
    same : (here : Bool) → length (cond here z.screen z.store) ≡ cond here (length c.screen) (length c.store)
    same true = s.screen
    same false = s.store

-- a target has bytes
ready_some : {t : Target} {m n : ℕ} → Ready t m n → t.area.surface.base < rows_end t.area.surface
ready_some {t} h =
    let u = t.area.surface in
    let a : 1 ≤ (u.left + u.width) * u.bits = mul-le-mul (omega (arith, h.east)) (depth_bounds h.depth).0 in
    let b : 1 ≤ (u.top + u.height) * u.words = mul-le-mul (omega (arith, h.south)) (omega (arith, h.right)) in
    omega arith
  where
    mul-le-mul : {x y : ℕ} → 1 ≤ x → 1 ≤ y → 1 ≤ x * y
    mul-le-mul {x} {y} p q = omega (arith, mul-le-mul_left x q)

-- ## Rows of a block beside the target

-- a pixel's byte is one of its word's two: the word of column c in row k
place_word : (s : Surface) (x y : ℕ) → Depth s.bits
    → (s.base + 2 * ((s.top + y) * s.words + word_of s.bits (s.left + x)) ≤ place_bit s x y / 8)
    × (place_bit s x y / 8 < s.base + 2 * ((s.top + y) * s.words + word_of s.bits (s.left + x)) + 2)
unfolding place_bit grid_bit
place_word s x y d = let p = depth_bounds d in (omega arith, omega arith)

-- the bytes of a row's pixels are aside from a surface, where the row's words are
row_aside : (s u : Surface) (b : Block) (j : ℕ) → Depth s.bits → (row_to s b j ≤ u.base) ⊎ (rows_end u ≤ row_from s b j)
    → (i : ℕ) → i ≤ b.dx → Aside u (place_bit s (b.x + i) (b.y + j) / 8)
row_aside s u b j d o i l = go o
  where
    here : (s.base + 2 * ((s.top + (b.y + j)) * s.words + word_of s.bits (s.left + (b.x + i))) ≤ place_bit s (b.x + i) (b.y + j) / 8)
        × (place_bit s (b.x + i) (b.y + j) / 8 < s.base + 2 * ((s.top + (b.y + j)) * s.words + word_of s.bits (s.left + (b.x + i))) + 2)
    here = place_word s (b.x + i) (b.y + j) d

    go : (row_to s b j ≤ u.base) ⊎ (rows_end u ≤ row_from s b j) → Aside u (place_bit s (b.x + i) (b.y + j) / 8)
    go (inl h) = inl (omega (arith, here.1, word_le s.bits (s.left + (b.x + i)) (s.left + (b.x + b.dx)) (omega arith)))
    go (inr h) = inr (omega (arith, here.0, word_le s.bits (s.left + b.x) (s.left + (b.x + i)) (omega arith)))

-- the words of a part of a row end and begin as the row's do: columns c to c + n - 1 of those from a to z
words_within : (bits a z c n : ℕ) → Depth bits → a ≤ c → c + n ≤ z + 1 → 0 < n
    → (word_of bits a ≤ c * bits / 16) × ((c * bits + n * bits + 15) / 16 ≤ word_of bits z + 1)
words_within bits a z c n d lo hi some = (word_le bits a c lo, ends d)
  where
    far : c * bits + n * bits ≤ z * bits + bits
    far = omega (arith, mul-le-mul_right bits hi)

    ends : Depth bits → (c * bits + n * bits + 15) / 16 ≤ word_of bits z + 1
    ends d = let e : z * bits % 16 + bits ≤ 16 = omega (arith, column_in_byte d z) in omega (arith, far)

-- ## Rows that do not meet

-- within one bitmap
pub within_slidable : {t : Target} {from : Point} {b : Block} {p : Patch} (screen store : List ℕ) (up : Bool) (operator : Operator)
    → Ready t (length screen) (length store) → Patched t.clip from b p → block_bad t.area.surface (rectangle_of b) ≡ false
    → SlidableRows t (transfer t.area p up operator)
within_slidable {t} {b = b} screen store up operator h k e =
    let u = t.area.surface in
    let w = block_bad_within u b e in
    let s = cond t.area.onscreen screen store in
    let f : Fits u s = record { depth = h.depth; right = h.right; long = rw (buffer_length t.area.onscreen screen store) h.long } in
    rw k.is (λ o some j l.
    let x = k.columns.inside (k.across.count - 1) (omega arith) in
    let y = k.rows.inside j l in
    slidable_rows u s k.across.at (k.down.at + j) (b.x + k.across.skip) (b.y + k.down.skip + j) k.across.count
    (record { fits = f; small = h.small; columns = omega (arith, x, h.east); row = omega (arith, y, h.south) })
    (record { fits = f; small = h.small; columns = omega (arith, k.columns.most, w.east); row = omega (arith, k.rows.most, w.south) }) some)

-- a row of a surface ends in it
row_ends : (u : Surface) (x y n : ℕ) → (u.left + u.width) * u.bits ≤ 16 * u.words → x + n ≤ u.width → y < u.height
    → u.base + 2 * (u.words * (u.top + y)) + 2 * (((u.left + x) * u.bits + n * u.bits + 15) / 16) ≤ rows_end u
row_ends u x y n right wide high =
    let c : (u.left + x + n) * u.bits ≤ (u.left + u.width) * u.bits = mul-le-mul_right u.bits (omega arith) in
    let t : (u.top + y + 1) * u.words ≤ (u.top + u.height) * u.words = mul-le-mul_right u.words (omega arith) in
    let m = mul_comm u.words (u.top + y) in
    let w : ((u.left + x) * u.bits + n * u.bits + 15) / 16 ≤ u.words = omega arith in
    omega arith

-- from a bitmap that shares no byte with the target
pub apart_slidable : {t : Target} {a : Area} {from : Point} {b : Block} {p : Patch} {m n : ℕ} (up : Bool) (operator : Operator)
    → Ready t m n → Patched t.clip from b p → Copyable t.area a b m n → SlidableRows t (transfer a p up operator)
apart_slidable {t} {a} {b = b} up operator h k w =
    let u = t.area.surface in
    let us = a.surface in
    rw k.is (λ o some j l.
    let x = k.columns.inside (k.across.count - 1) (omega arith) in
    let y = k.rows.inside j l in
    let sy : b.y + (k.down.skip + j) ≡ b.y + k.down.skip + j = omega arith in
    let m = mul_comm us.words (us.top + (b.y + k.down.skip + j)) in
    let v = words_within us.bits (us.left + b.x) (us.left + (b.x + b.dx)) (us.left + (b.x + k.across.skip)) k.across.count
    w.readable.depth (omega arith) (omega (arith, k.columns.most)) some in
    let n : k.across.count * us.bits ≡ k.across.count * u.bits = ap (λ (z : ℕ). k.across.count * z) w.depth in
    let e = row_ends u k.across.at (k.down.at + j) k.across.count h.right (omega (arith, x, h.east)) (omega (arith, y, h.south)) in
    inr (⊎_elim (λ g. inl (omega (arith, rw n at v.1, rw sy at g))) (λ g. inr (omega (arith, v.0, e, rw sy at g)))
    (w.unshared.rows (sym o) (ready_some h) (k.down.skip + j) (omega (arith, k.rows.most)))))

-- a patch of either source can be moved
pub source_movable : {t : Target} {a : Area} {from : Point} {b : Block} {p : Patch} (screen store : List ℕ) (up : Bool) (operator : Operator)
    → Ready t (length screen) (length store) → Patched t.clip from b p → CopySource t.area a b (length screen) (length store)
    → OperatorOf t.pen.op t.pen.mask operator → Movable t (transfer a p up operator) (length screen) (length store)
source_movable screen store up operator h k (inl (e, w)) made =
    rw e (patch_movable up k h (ready_readable h) w refl made (within_slidable screen store up operator h k w))
source_movable screen store up operator h k (inr w) made =
    patch_movable up k h w.readable w.within w.depth made (apart_slidable up operator h k w)

-- ## The copy

module _ (t : Target) (from : Point) (b : Block) (p : Patch) (c : Canvas)
    (h : Ready t (length c.screen) (length c.store)) (k : Patched t.clip from b p) where
  cropped : (a : Area) → block_bad a.surface (rectangle_of b) ≡ false
      → painted_patch t (shown_on a c) p c ≡ painted_all t (copy_dots (shown_on a c) (place from) (rectangle_of b)) c
  cropped a e =
      ap (λ (q : Patch). painted_patch t (shown_on a c) q c) k.is
      ∙ sym (copy_cropped t (shown_on a c) from b k.across k.down k.columns k.rows c)
      ∙ ap (λ (r : Rectangle). painted_all t (copy_dots (shown_on a c) (place from) r) c) (sym (block_bad_within a.surface b e).is)

  -- within the active bitmap
  pub copied_within : (up : Bool) (operator : Operator) → ReadFirst p up → block_bad t.area.surface (rectangle_of b) ≡ false
      → moved_all t (transfer t.area p up operator) c ≡ painted_all t (copy_dots (shown_on t.area c) (place from) (rectangle_of b)) c
  copied_within up operator first e = moved_within t p up operator c (ready_fits c h) first ∙ cropped t.area e

  -- from a bitmap that shares no byte with it
  pub copied_apart : (a : Area) (up : Bool) (operator : Operator) → Copyable t.area a b (length c.screen) (length c.store)
      → moved_all t (transfer a p up operator) c ≡ painted_all t (copy_dots (shown_on a c) (place from) (rectangle_of b)) c
  copied_apart a up operator w = moved_apart t (transfer a p up operator) c (ready_fits c h) (rw k.is aside) ∙ cropped a w.within
    where
      aside : a.onscreen ≡ t.area.onscreen → (i j : ℕ) → i < k.across.count → j < k.down.count
          → Aside t.area.surface (place_bit a.surface (b.x + k.across.skip + i) (b.y + k.down.skip + j) / 8)
      aside e i j l m =
          let x : b.x + k.across.skip + i ≡ b.x + (k.across.skip + i) = omega arith in
          let y : b.y + k.down.skip + j ≡ b.y + (k.down.skip + j) = omega arith in
          rw (x, y) (row_aside a.surface t.area.surface b (k.down.skip + j) w.readable.depth
          (w.unshared.rows e (ready_some h) (k.down.skip + j) (omega (arith, k.rows.most))) (k.across.skip + i) (omega (arith, k.columns.most)))

  -- from either source
  pub copied_from : (a : Area) (up : Bool) (operator : Operator) → ReadFirst p up → CopySource t.area a b (length c.screen) (length c.store)
      → moved_all t (transfer a p up operator) c ≡ painted_all t (copy_dots (shown_on a c) (place from) (rectangle_of b)) c
  copied_from a up operator first (inl (e, w)) = rw e (copied_within up operator first w)
  copied_from a up operator first (inr w) = copied_apart a up operator w
