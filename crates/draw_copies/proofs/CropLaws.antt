-- Columns or rows cropped to a clip's, and a copy cropped to its clip: what lies outside draws nothing.
use Rattle.std.proofs.Common.{◌≡◌, ℕ, suc, ◌+◌, ◌-◌, ◌<◌, ◌≤◌, false, ◌&&◌, ltb, leb, List, ℤ, pos, ◌+ℤ◌, sym, ap, ◌∙◌, arith, le-ltb}
use lib.IntN.{+ℤ_idr}
use Rattle.model.specs.Ranges.{listed, joined}
use Rattle.model.specs.declared.Block.{Block}
use Rattle.model.specs.declared.Point.{Point}
use Rattle.model.specs.declared.Source.TheVariants.{Copied}
use Rattle.model.specs.Coordinates.{at, coord, between, index, offset, place}
use Rattle.model.specs.Dots.{Dot, dot}
use Rattle.model.specs.Copies.{copy_dots}
use Rattle.model.proofs.Decisions.{cond_false}
use Rattle.coordinates.specs.Offsets.{index_in, unbiased, Between}
use Rattle.coordinates.specs.declared.Edges.{Edges}
use Rattle.coordinates.proofs.EdgeLaws.{within_true, within_early, within_late, unbiased_on, between_holds}
use Rattle.std.specs.Prelude.{Some, None}
use Rattle.canvas.specs.declared.Target.{Target}
use Rattle.canvas.specs.Canvas.{Canvas, painted, painted_all}
use Rattle.canvas.proofs.CanvasLaws.{painted_all_none, painted_all_joined}
use Rattle.canvas.proofs.TargetLaws.{painted_outside_x, painted_outside_y}
use Rattle.fault_copies.proofs.BlockLaws.{plain_rectangle}
use Rattle.draw_copies.specs.Steps.{steps}
use Rattle.draw_copies.specs.declared.Extent.{Extent}
use Rattle.draw_copies.proofs.StepLaws.{steps_are, steps_agree, steps_idle, steps_crop}
use Rattle.draw_copies.proofs.MoveLaws.{painted_at, listed_steps, painted_row, painted_patch}
use Rattle.draw_copies.specs.Transfers.{Cropped, patch_of}

-- ## From edges to an extent

-- the coordinate of pattern p is kept as b
module _ (lo hi p n b : ℕ) (e : Edges) (at : unbiased b ≡ coord p +ℤ pos 0) (edges : Between lo hi (unbiased b) false n e) where
  kept : coord p ≡ unbiased b
  kept = sym (at ∙ +ℤ_idr (coord p))

  step : (i : ℕ) → coord p +ℤ pos i ≡ unbiased (b + i)
  step i = ap (λ (z : ℤ). z +ℤ pos i) kept ∙ unbiased_on b i

  exact : (i : ℕ) → i < n → between lo hi (coord p +ℤ pos i) ≡ (leb e.first i && ltb i e.second)
  exact i l = ap (λ (z : ℤ). between lo hi (z +ℤ pos i)) kept ∙ edges.exactly i l

  -- what lies between the edges lies from lo to hi
  shown : (i : ℕ) → e.first ≤ i → i < e.second → (lo + 65536 ≤ b + i) × (b + i ≤ hi + 65536)
  shown i l k = between_holds lo hi (b + i)
      (ap (between lo hi) (sym (step i)) ∙ exact i (omega (arith, edges.last)) ∙ within_true e.first i e.second l k)

  pub first_high : e.first < e.second → 65536 ≤ b + e.first
  first_high l = omega (arith, shown e.first (omega arith) l)

  pub cropped_some : hi < 65536 → e.first < e.second
      → Cropped lo hi (coord p) n (record { skip = e.first; count = e.second - e.first; at = b + e.first - 65536 })
  cropped_some h l = record {
    most = omega (arith, edges.last);
    before = λ i k. exact i (omega (arith, edges.last)) ∙ within_early e.first i e.second k;
    behind = λ i k m. exact i m ∙ within_late e.first i e.second (omega arith);
    is = λ i k. step (e.first + i) ∙ rw (le-ltb (b + (e.first + i)) 65536 (omega (arith, first_high l))) (ap pos (along i));
    inside = λ i k. let s = shown (e.first + i) (omega arith) (omega arith) in (omega (arith, s), omega (arith, s, first_high l));
    small = omega (arith, first_high l, shown (e.second - 1) (omega arith) (omega arith));
  }
    where
      along : (i : ℕ) → b + (e.first + i) - 65536 ≡ b + e.first - 65536 + i
      along i = omega (arith, first_high l)

-- ## A copy's dots as numbered steps

joined_steps : (t : Target) (f : ℕ → List Dot) (n : ℕ) (c : Canvas) → painted_all t (joined 0 n f) c ≡ steps (λ j. painted_all t (f j)) n c
unfolding joined
joined_steps t f = steps_are (λ n. painted_all t (joined 0 n f)) (λ j. painted_all t (f j)) (painted_all_none t) (λ n. painted_all_joined t n f)

-- ## A copy cropped to its clip

outside_index : (lo hi : ℕ) (z : ℤ) → between lo hi z ≡ false → index_in lo hi z ≡ None
unfolding index_in
outside_index lo hi z e = cond_false (Some (index z)) None e

module _ (t : Target) (see : ℕ → ℕ → ℕ) (from : Point) (b : Block) (across down : Extent)
    (columns : Cropped t.clip.xmin t.clip.xmax (coord from.x) (b.dx + 1) across)
    (rows : Cropped t.clip.ymin t.clip.ymax (coord from.y) (b.dy + 1) down) where
  -- column i and row j of the copy
  copied : ℕ → ℕ → Dot
  copied j i = dot (offset (place from) (pos i) (pos j)) (Copied (see (b.x + i) (b.y + j)))

  -- row j of the copy
  row : ℕ → Canvas → Canvas
  row j c = steps (λ i. painted t (copied j i)) (suc b.dx) c

  copy_steps : (c : Canvas) → painted_all t (copy_dots see (place from) (plain_rectangle b)) c ≡ steps row (suc b.dy) c
  unfolding copy_dots copied row
  copy_steps c =
      joined_steps t (λ j. listed 0 (suc b.dx) (copied j)) (suc b.dy) c
      ∙ steps_agree (λ j. painted_all t (listed 0 (suc b.dx) (copied j))) row (suc b.dy) c (λ j l. listed_steps t (copied j) (suc b.dx) _)

  row_cropped : (j : ℕ) (c : Canvas) → row j c ≡ steps (λ i. painted t (copied j (across.skip + i))) across.count c
  unfolding copied row
  row_cropped j c = steps_crop (λ i. painted t (copied j i)) (suc b.dx) across.skip across.count c (omega (arith, columns.most))
      (λ i l m. painted_outside_x t _ m (outside_index _ _ _ (columns.before i l)))
      (λ i l k m. painted_outside_x t _ m (outside_index _ _ _ (columns.behind i l (omega arith))))

  row_outside : (j : ℕ) → between t.clip.ymin t.clip.ymax (coord from.y +ℤ pos j) ≡ false → (c : Canvas) → row j c ≡ c
  unfolding copied row
  row_outside j e c = steps_idle (λ i. painted t (copied j i)) (suc b.dx) c (λ i l m. painted_outside_y t _ m (outside_index _ _ _ e))

  pixel_shown : (j i : ℕ) → i < across.count → j < down.count → (c : Canvas)
      → painted t (copied (down.skip + j) (across.skip + i)) c
      ≡ painted_at t (across.at + i) (down.at + j) (see (b.x + across.skip + i) (b.y + down.skip + j)) c
  unfolding copied
  pixel_shown j i l k c =
      let x : b.x + (across.skip + i) ≡ b.x + across.skip + i = omega arith in
      let y : b.y + (down.skip + j) ≡ b.y + down.skip + j = omega arith in
      λ d. painted t (dot (at (columns.is i l d) (rows.is j k d)) (Copied (see (x d) (y d)))) c

  pub copy_cropped : (c : Canvas) → painted_all t (copy_dots see (place from) (plain_rectangle b)) c ≡ painted_patch t see (patch_of b across down) c
  unfolding painted_patch painted_row
  copy_cropped c =
      copy_steps c
      ∙ steps_crop row (suc b.dy) down.skip down.count c (omega (arith, rows.most))
      (λ j l. row_outside j (rows.before j l))
      (λ j l k. row_outside j (rows.behind j l (omega arith)))
      ∙ steps_agree (λ j. row (down.skip + j)) (painted_row t see (patch_of b across down)) down.count c
      (λ j l. row_cropped (down.skip + j) _
      ∙ steps_agree (λ i. painted t (copied (down.skip + j) (across.skip + i))) _ across.count _ (λ i k. pixel_shown j i k l _))
