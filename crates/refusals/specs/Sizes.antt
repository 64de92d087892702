-- Set-up's checks in two steps: 6, and then 7 to 11, which count on 6.
use Rattle.std.specs.Prelude.{ℕ, ◌≤◌, ◌≡◌, Bool, true, cond, List, ltb}
use Rattle.model.specs.declared.Geometry.{Geometry}
use Rattle.model.specs.declared.Row.{Row}
use Rattle.refusals.specs.declared.table.Findings.{Findings}
use Rattle.model.specs.Ranges.{any_below}
use Rattle.model.specs.Numbers.{refuse_screen, refuse_rectangle, refuse_store, refuse_overlap, refuse_shared}
use Rattle.model.specs.Bitmaps.{is_depth}
use Rattle.model.specs.Setup.{row_at, screen_bytes, rectangle_bad, store_bad, share_pixel, share_byte, any_pair}

-- the sizes that 6 lets pass
pub record Sized (g : Geometry) (n : ℕ) : Type 0 where
  pub width : g.width ≤ 4096
  pub height : g.height ≤ 4096
  pub depth : is_depth g.depth ≡ true
  pub count : n ≤ 8

-- some of the first n rows passes the test
unfoldable pub some_row : ℕ → (Row → Bool) → List Row → Bool
some_row n f rows = any_below n (λ k. f (row_at rows k))

-- some two of the first n rows pass the test: `any_pair` under a name of its own, so that a loop's proof sees
-- one term
unfoldable pub some_pair : ℕ → (Row → Row → Bool) → List Row → Bool
some_pair n f rows = any_pair n f rows

-- which of the refusals 8 to 11 the first n rows give
pub record Found (stores : ℕ) (g : Geometry) (rows : List Row) (n : ℕ) (f : Findings) : Type 0 where
  pub rectangle : f.rectangle ≡ some_row n (rectangle_bad g) rows
  pub store : f.store ≡ some_row n (store_bad stores) rows
  pub pixel : f.pixel ≡ some_pair n share_pixel rows
  pub byte : f.byte ≡ some_pair n share_byte rows

-- the first of the refusals 7 to 11 that applies, or 0
unfoldable pub table_checks : Geometry → ℕ → List Row → ℕ → ℕ → ℕ
table_checks g n rows screen stores =
    cond (ltb screen (screen_bytes g)) refuse_screen
    (cond (some_row n (rectangle_bad g) rows) refuse_rectangle
    (cond (some_row n (store_bad stores) rows) refuse_store
    (cond (some_pair n share_pixel rows) refuse_overlap
    (cond (some_pair n share_byte rows) refuse_shared 0))))
