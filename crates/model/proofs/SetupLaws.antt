-- What set-up's checks and refusal 12 say, where they refuse nothing.
use mathlib.Core.Path.{◌≡◌, refl, sym, ◌∙◌, subst}
use mathlib.Core.Logic.{◌≢◌, ◌⊎◌, inl, inr}
use mathlib.Core.Bool.{Bool, true, false, not, ◌&&◌, ◌||◌}
use mathlib.Core.List.{List}
use Prim.Native.Nat.{ℕ, zero, suc, ◌+◌, ◌*◌, ◌%◌, ◌≤◌, ◌<◌}
use native.Mathlib.Omega.{arith}
use native.Mathlib.Decide.{dec_lt, ℕ_discrete}
use native.Mathlib.Nat.{not-suc-le-zero}
use native.Mathlib.Numerals.{add-one}
use lib.Dec.{eqb, ltb}
use Rattle.model.specs.Numbers.{refuse_geometry, refuse_overlap, refuse_rectangle, refuse_screen, refuse_shared, refuse_store}
use Rattle.model.specs.declared.Geometry.{Geometry}
use Rattle.model.specs.declared.Row.{Row}
use Rattle.model.specs.Ranges.{any_below, out_of}
use Rattle.model.specs.declared.Bitmap.TheVariants as bitmap
use Rattle.model.specs.declared.Clip.{Clip}
use Rattle.model.specs.Bitmaps.{is_depth, share_span, Depth, pane_bitmap_bad, rule_broken}
use Rattle.model.specs.declared.Pane.{Pane}
use Rattle.model.specs.Faults.{clip_beyond, clip_outside}
use Rattle.model.specs.Scissor.{clip_empty, scissor_stale}
use Rattle.model.specs.Setup.{row_at, geometry_bad, screen_bytes, most_store, rectangle_bad, store_bad, share_pixel, share_byte, checks}
use Rattle.model.specs.Setup.{progress_bad, trap_bad, font_bad, pane_bad}
use borrow.Author.Tests.{ltb-false, lt-ltb, eqb-true, eqb-false, not-false}
use Rattle.model.proofs.Decisions.{both_true, both_of, either_false, either_true, cond_none, holds}

-- one more: the test at n joined to those below n
pub any_below_more : (f : ℕ → Bool) (n : ℕ) {b t : Bool} → b ≡ f n → t ≡ any_below n f → (b || t) ≡ any_below (n + 1) f
unfolding any_below
any_below_more f n e h = rw (add-one, e, h)

-- where no test holds, none of them does
pub any_below_lem : (n : ℕ) (f : ℕ → Bool) (k : ℕ) → any_below n f ≡ false → k < n → f k ≡ false
unfolding any_below
any_below_lem zero f k e h = absurd (not-suc-le-zero h)
any_below_lem (suc n) f k e h = go (ℕ_discrete k n) (λ l. any_below_lem n f k (either_false (f n) (any_below n f) e).1 l)
  where
    go : Dec (k ≡ n) → (k < n → f k ≡ false) → f k ≡ false
    go (yes q) g = rw q (either_false (f n) (any_below n f) e).0
    go (no q) g = g (omega arith)

any_pair_lem : (n : ℕ) (f : ℕ → ℕ → Bool) (i j : ℕ) → any_below n (λ j. any_below j (λ i. f i j)) ≡ false → i < j → j < n → f i j ≡ false
any_pair_lem n f i j e l h = any_below_lem j (λ i. f i j) i (any_below_lem n (λ j. any_below j (λ i. f i j)) j e h) l

pub depth_of : (b : ℕ) → is_depth b ≡ true → Depth b
depth_of b e = go1 (either_true _ _ e)
  where
    one : (n m : ℕ) → n * m ≡ 8 → eqb b n ≡ true → Depth b
    one n m h q = record { e = m; fills = subst (λ (z : ℕ). z * m ≡ 8) (sym (eqb-true b n q)) h }

    go3 : (eqb b 4 ≡ true) ⊎ (eqb b 8 ≡ true) → Depth b
    go3 (inl q) = one 4 2 refl q
    go3 (inr q) = one 8 1 refl q

    go2 : (eqb b 2 ≡ true) ⊎ ((eqb b 4 || eqb b 8) ≡ true) → Depth b
    go2 (inl q) = one 2 4 refl q
    go2 (inr q) = go3 (either_true _ _ q)

    go1 : (eqb b 1 ≡ true) ⊎ ((eqb b 2 || (eqb b 4 || eqb b 8)) ≡ true) → Depth b
    go1 (inl q) = one 1 8 refl q
    go1 (inr q) = go2 (either_true _ _ q)

-- no point of the screen is in both rectangles
unfoldable pub NoPixel : Row → Row → Type 0
NoPixel a b = (x y : ℕ) → a.left ≤ x → x < a.left + a.width → b.left ≤ x → x < b.left + b.width
    → a.top ≤ y → y < a.top + a.height → b.top ≤ y → y < b.top + b.height → ⊥

-- no place of the stores is in both stores
unfoldable pub NoByte : Row → Row → Type 0
NoByte a b = (i : ℕ) → a.start ≤ i → i < a.start + a.len → b.start ≤ i → i < b.start + b.len → ⊥

share_of_lem : (a m b n x : ℕ) → a ≤ x → x < a + m → b ≤ x → x < b + n → share_span a m b n ≡ true
share_of_lem a m b n x h1 h2 h3 h4 =
    both_of (lt-ltb 0 m (omega arith)) (both_of (lt-ltb 0 n (omega arith)) (both_of (lt-ltb a (b + n) (omega arith)) (lt-ltb b (a + m) (omega arith))))

no_pixel : (a b : Row) → share_pixel a b ≡ false → NoPixel a b
unfolding share_pixel NoPixel
no_pixel a b e x y h1 h2 h3 h4 h5 h6 h7 h8 =
    holds (sym e ∙ both_of (share_of_lem a.left a.width b.left b.width x h1 h2 h3 h4)
    (share_of_lem a.top a.height b.top b.height y h5 h6 h7 h8))

no_byte : (a b : Row) → share_byte a b ≡ false → NoByte a b
unfolding share_byte NoByte
no_byte a b e i h1 h2 h3 h4 = holds (sym e ∙ share_of_lem a.start a.len b.start b.len i h1 h2 h3 h4)

-- the geometry and the number of rows that 6 lets pass
pub record GeometryGood (g : Geometry) (n : ℕ) : Type 0 where
  pub width : g.width ≤ 4096
  pub height : g.height ≤ 4096
  pub depth : is_depth g.depth ≡ true
  pub count : n ≤ 8

-- a row's rectangle that 8 lets pass
pub record RectangleGood (g : Geometry) (r : Row) : Type 0 where
  pub wide : 0 < r.width
  pub tall : 0 < r.height
  pub right : r.left + r.width ≤ g.width
  pub bottom : r.top + r.height ≤ g.height

-- a row's store that 9 lets pass
pub record StoreGood (stores : ℕ) (r : Row) : Type 0 where
  pub even : r.len % 2 ≡ 0
  pub most : r.len ≤ most_store
  pub room : r.start + r.len ≤ stores

pub record Valid (g : Geometry) (n : ℕ) (rows : List Row) (screen stores : ℕ) : Type 0 where
  pub geometry : GeometryGood g n
  pub depth : Depth g.depth
  pub long : screen_bytes g ≤ screen
  pub rectangle : (k : ℕ) → k < n → RectangleGood g (row_at rows k)
  pub store : (k : ℕ) → k < n → StoreGood stores (row_at rows k)
  pub no_pixels : (i j : ℕ) → i < n → j < n → i ≢ j → NoPixel (row_at rows i) (row_at rows j)
  pub no_bytes : (i j : ℕ) → i < n → j < n → i ≢ j → NoByte (row_at rows i) (row_at rows j)

ordered : (n : ℕ) (rows : List Row) (P : Row → Row → Type 0) → ((a b : Row) → P a b → P b a) → ((i j : ℕ) → i < j → j < n → P (row_at rows i) (row_at rows j))
    → (i j : ℕ) → i < n → j < n → i ≢ j → P (row_at rows i) (row_at rows j)
ordered m rows P s f i j h k n = go (dec_lt i j)
  where
    go : Dec (i < j) → P (row_at rows i) (row_at rows j)
    go (yes l) = f i j l k
    go (no l) = s _ _ (f j i (omega arith) h)

out_of_most : (lo hi n : ℕ) → out_of lo hi n ≡ false → n ≤ hi
out_of_most lo hi n h = ltb-false hi n (either_false (ltb n lo) (ltb hi n) h).1

pub geometry_bad_good : (g : Geometry) (n : ℕ) → geometry_bad g n ≡ false → GeometryGood g n
unfolding geometry_bad
geometry_bad_good g n h =
    let a = either_false (out_of 1 4096 g.width) (out_of 1 4096 g.height || (not (is_depth g.depth) || out_of 1 8 n)) h in
    let b = either_false (out_of 1 4096 g.height) (not (is_depth g.depth) || out_of 1 8 n) a.1 in
    let c = either_false (not (is_depth g.depth)) (out_of 1 8 n) b.1 in
    record {
      width = out_of_most 1 4096 g.width a.0;
      height = out_of_most 1 4096 g.height b.0;
      depth = not-false (is_depth g.depth) c.0;
      count = out_of_most 1 8 n c.1;
    }

rectangle_bad_good : (g : Geometry) (r : Row) → rectangle_bad g r ≡ false → RectangleGood g r
unfolding rectangle_bad
rectangle_bad_good g r h =
    let x = ltb g.width (r.left + r.width) in
    let y = ltb g.height (r.top + r.height) in
    let a = either_false (eqb r.width 0) (eqb r.height 0 || (x || y)) h in
    let b = either_false (eqb r.height 0) (x || y) a.1 in
    let c = either_false x y b.1 in
    let w = eqb-false r.width 0 a.0 in
    let t = eqb-false r.height 0 b.0 in
    record {
      wide = omega arith;
      tall = omega arith;
      right = ltb-false g.width (r.left + r.width) c.0;
      bottom = ltb-false g.height (r.top + r.height) c.1;
    }

store_bad_good : (stores : ℕ) (r : Row) → store_bad stores r ≡ false → StoreGood stores r
unfolding store_bad
store_bad_good stores r h =
    let a = either_false (eqb (r.len % 2) 1) (ltb most_store r.len || ltb stores (r.start + r.len)) h in
    let b = either_false (ltb most_store r.len) (ltb stores (r.start + r.len)) a.1 in
    let e = eqb-false (r.len % 2) 1 a.0 in
    record { even = omega arith; most = ltb-false most_store r.len b.0; room = ltb-false stores (r.start + r.len) b.1 }

pub checks_say : (g : Geometry) (n : ℕ) (rows : List Row) (screen stores : ℕ) → checks g n rows screen stores ≡ 0 → Valid g n rows screen stores
unfolding checks NoPixel NoByte
checks_say g n rows screen stores e =
    let p6 = cond_none (geometry_bad g n) refuse_geometry _ tt e in
    let p7 = cond_none (ltb screen (screen_bytes g)) refuse_screen _ tt p6.1 in
    let p8 = cond_none (any_below n (λ k. rectangle_bad g (row_at rows k))) refuse_rectangle _ tt p7.1 in
    let p9 = cond_none (any_below n (λ k. store_bad stores (row_at rows k))) refuse_store _ tt p8.1 in
    let p10 = cond_none (any_below n (λ j. any_below j (λ i. share_pixel (row_at rows i) (row_at rows j)))) refuse_overlap _ tt p9.1 in
    let p11 = cond_none (any_below n (λ j. any_below j (λ i. share_byte (row_at rows i) (row_at rows j)))) refuse_shared 0 tt p10.1 in
    let q = geometry_bad_good g n p6.0 in
    record {
      geometry = q;
      depth = depth_of g.depth q.depth;
      long = ltb-false screen (screen_bytes g) p7.0;
      rectangle = λ k h. rectangle_bad_good g (row_at rows k) (any_below_lem n (λ k. rectangle_bad g (row_at rows k)) k p8.0 h);
      store = λ k h. store_bad_good stores (row_at rows k) (any_below_lem n (λ k. store_bad stores (row_at rows k)) k p9.0 h);
      no_pixels =
          ordered n rows NoPixel (λ a b f x y h1 h2 h3 h4 h5 h6 h7 h8. f x y h3 h4 h1 h2 h7 h8 h5 h6)
          (λ i j l h. no_pixel _ _ (any_pair_lem n (λ i j. share_pixel (row_at rows i) (row_at rows j)) i j p10.0 l h));
      no_bytes =
          ordered n rows NoByte (λ a b f x h1 h2 h3 h4. f x h3 h4 h1 h2) (λ i j l h. no_byte _ _
          (any_pair_lem n (λ i j. share_byte (row_at rows i) (row_at rows j)) i j p11.0 l h));
    }

-- ## The pane as the active bitmap, and its clip

-- the pane's own width, height and depth
pub record PaneBitmap (g : Geometry) (r : Row) (xmax ymax b : ℕ) : Type 0 where
  pub width : xmax + 1 ≡ r.width
  pub height : ymax + 1 ≡ r.height
  pub depth : b ≡ g.depth

pane_bitmap_bad_says : (g : Geometry) (r : Row) (xmax ymax b : ℕ) → pane_bitmap_bad g r xmax ymax b ≡ false → PaneBitmap g r xmax ymax b
unfolding pane_bitmap_bad
pane_bitmap_bad_says g r xmax ymax b h =
    let p = both_true (eqb (xmax + 1) r.width) (eqb (ymax + 1) r.height && eqb b g.depth) (not-false _ h) in
    let q = both_true (eqb (ymax + 1) r.height) (eqb b g.depth) p.1 in
    record { width = eqb-true (xmax + 1) r.width p.0; height = eqb-true (ymax + 1) r.height q.0; depth = eqb-true b g.depth q.1 }

pub rule_broken_pane : (g : Geometry) (r : Row) (xmax ymax b : ℕ) → rule_broken g r (bitmap.Pane xmax ymax b) ≡ false → PaneBitmap g r xmax ymax b
unfolding rule_broken
rule_broken_pane = pane_bitmap_bad_says

-- the four values of a clip are at most these
pub record ClipIn (xmax ymax : ℕ) (c : Clip) : Type 0 where
  pub left : c.xmin ≤ xmax
  pub top : c.ymin ≤ ymax
  pub right : c.xmax ≤ xmax
  pub bottom : c.ymax ≤ ymax

pub clip_beyond_says : (xmax ymax : ℕ) (c : Clip) → clip_beyond xmax ymax c ≡ false → ClipIn xmax ymax c
clip_beyond_says xmax ymax c h =
    let p = either_false (ltb xmax c.xmin) (ltb ymax c.ymin || (ltb xmax c.xmax || ltb ymax c.ymax)) h in
    let q = either_false (ltb ymax c.ymin) (ltb xmax c.xmax || ltb ymax c.ymax) p.1 in
    let u = either_false (ltb xmax c.xmax) (ltb ymax c.ymax) q.1 in
    record {
      left = ltb-false xmax c.xmin p.0;
      top = ltb-false ymax c.ymin q.0;
      right = ltb-false xmax c.xmax u.0;
      bottom = ltb-false ymax c.ymax u.1;
    }

-- a clip that holds a pixel
pub clip_empty_says : (c : Clip) → clip_empty c ≡ false → (c.xmin ≤ c.xmax) × (c.ymin ≤ c.ymax)
clip_empty_says c h =
    let p = either_false (ltb c.xmax c.xmin) (ltb c.ymax c.ymin) h in
    (ltb-false c.xmax c.xmin p.0, ltb-false c.ymax c.ymin p.1)

-- ## Refusal 12

-- what a record that it lets pass has none of
pub record Passed (g : Geometry) (r : Row) (p : Pane) : Type 0 where
  pub progress : progress_bad p.progress ≡ false
  pub trap : trap_bad p.progress.status p.flags ≡ false
  pub rule : rule_broken g r p.bitmap ≡ false
  pub clip : clip_outside p.bitmap p.clip ≡ false
  pub font : font_bad p.text.font ≡ false
  pub op : ltb 15 p.pen.op ≡ false
  pub path : ltb 3 p.text.path ≡ false
  pub rotation : ltb 3 p.text.rotation ≡ false
  pub returns : ltb 8 p.returns.count ≡ false
  pub scissor : scissor_stale r p ≡ false

pub pane_bad_says : (g : Geometry) (r : Row) (p : Pane) → pane_bad g r p ≡ false → Passed g r p
unfolding pane_bad
pane_bad_says g r p h =
    let a = either_false (progress_bad p.progress) _ h in
    let t = either_false (trap_bad p.progress.status p.flags) _ a.1 in
    let b = either_false (rule_broken g r p.bitmap) _ t.1 in
    let c = either_false (clip_outside p.bitmap p.clip) _ b.1 in
    let d = either_false (font_bad p.text.font) _ c.1 in
    let e = either_false (ltb 15 p.pen.op) _ d.1 in
    let f = either_false (ltb 3 p.text.path) _ e.1 in
    let i = either_false (ltb 3 p.text.rotation) _ f.1 in
    let j = either_false (ltb 8 p.returns.count) (scissor_stale r p) i.1 in
    record {
      progress = a.0;
      trap = t.0;
      rule = b.0;
      clip = c.0;
      font = d.0;
      op = e.0;
      path = f.0;
      rotation = i.0;
      returns = j.0;
      scissor = j.1;
    }
