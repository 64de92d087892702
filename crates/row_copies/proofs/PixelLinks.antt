-- The link to the definition: copied pixels of one row, their values all read first, follow the rule of a row's copy; and the pixels of two rows
-- leave it the room it asks for.
use mathlib.Core.Path.{◌≡◌, sym, ap, ap₂, ◌∙◌}
use mathlib.Core.Logic.{inl, inr}
use mathlib.Core.Bool.{Bool}
use mathlib.Core.List.{List}
use Prim.Native.Nat.{ℕ, ◌+◌, ◌-◌, ◌*◌, ◌/◌, ◌%◌, ◌≤◌, ◌<◌}
use native.Mathlib.Nat.{mul_comm, mul-le-mul_left}
use native.Mathlib.Decide.{ℕ_discrete, dec_lt}
use native.Mathlib.Omega.{arith}
use lib.ListN.{length}
use Rattle.model.specs.Words.{bit, bit_at}
use Rattle.model.specs.Operations.{new_bit}
use Rattle.model.specs.Bitmaps.{grid_bit, place_bit, place_shift, pixels, Depth, Fits}
use Rattle.model.specs.declared.Surface.{Surface}
use Rattle.model.specs.declared.Pen.{Pen}
use Rattle.model.specs.declared.Source.TheVariants.{Copied}
use Rattle.model.proofs.PixelLaws.{inside_of, pixels_in}
use Rattle.raster.proofs.ChangeLaws.{bit_fits}
use Rattle.strips.specs.Stretches.{across}
use Rattle.strips.specs.Strips.{InRow}
use Rattle.strips.proofs.FieldBits.{field_bit_at}
use Rattle.strips.proofs.StrokeLaws.{inked}
use Rattle.strips.proofs.StretchLaws.{row_byte, pixel_across, shift_at}
use Rattle.strips.proofs.RowLaws.{sized}
use Rattle.row_copies.specs.declared.operators.Operator.{Operator}
use Rattle.row_copies.specs.declared.rows.RowCopy.{RowCopy}
use Rattle.row_copies.specs.Rows.{OperatorOf, left_bit, copied, RowsFit, Slidable, row_copy_of}

-- ## A pixel's bits

row_first : (u : Surface) (x y : ℕ) → 8 * row_byte u y ≤ place_bit u x y
unfolding place_bit grid_bit
row_first u x y = omega arith

-- a bit of a row, found again from the left
spot_across : (o m : ℕ) → 8 * o ≤ m → 8 * o + 16 * (across o m / 16) + (15 - across o m % 16) ≡ m
spot_across o m h =
    let q : across o m / 16 ≡ (m - 8 * o) / 16 = omega arith in
    let r : across o m % 16 ≡ 15 - (m - 8 * o) % 16 = omega arith in
    rw (q, r) (back (m - 8 * o) m (omega arith))
  where
    back : (e m : ℕ) → m ≡ 8 * o + e → 8 * o + 16 * (e / 16) + (15 - (15 - e % 16)) ≡ m
    back e m h = omega arith

left_at : (s : List ℕ) (o m : ℕ) → 8 * o ≤ m → left_bit s o (across o m) ≡ bit_at s m
unfolding left_bit
left_at s o m h = ap (bit_at s) (spot_across o m h)

less : (p j : ℕ) → p + j - p ≡ j
less p j = omega arith

sum : (l x q b d m z : ℕ) → (l + (x + q)) * b + d + (m + z) * b - (l + x) * b ≡ (m + (z + q)) * b + d
sum l x q b d m z =
    let e : (l + (x + q)) * b + d + (m + z) * b ≡ (m + (z + q)) * b + d + (l + x) * b = omega arith in
    omega arith

-- the byte at which a row begins, as the code works it out
abbrev start : Surface → ℕ → ℕ
start u y = u.base + 2 * (u.words * (u.top + y))

row_start_lem : (u : Surface) (y : ℕ) → start u y ≡ row_byte u y
row_start_lem u y = ap (λ (k : ℕ). u.base + 2 * k) (mul_comm u.words (u.top + y))

-- pixel (x + q,y) of one surface is drawn with pixel (sx + q,sy) of another
module _ (u us : Surface) (pen : Pen) (operator : Operator) (made : OperatorOf pen.op pen.mask operator) (src : List ℕ) (fits : Fits us src)
    (depth : Depth u.bits) (same : us.bits ≡ u.bits) (x y sx sy n : ℕ) (wide : sx + n ≤ us.width) (high : sy < us.height) where
  abbrev o : ℕ
  o = row_byte u y

  abbrev so : ℕ
  so = row_byte us sy

  abbrev to : ℕ
  to = (u.left + x) * u.bits

  abbrev from : ℕ
  from = (us.left + sx) * us.bits

  abbrev rows : ℕ → ℕ → RowCopy
  rows r b = record { row = r; to = to; base = b; from = from; count = n * u.bits }

  moved : (q j : ℕ) → j < u.bits → across o (place_bit u (x + q) y + j) + from - to ≡ across so (place_bit us (sx + q) sy + j)
  moved q j l =
      let k : j < us.bits = omega arith in
      let a : across o (place_bit u (x + q) y + j) ≡ (u.left + (x + q)) * u.bits + (u.bits - 1 - (place_bit u (x + q) y + j - place_bit u (x + q) y))
      = pixel_across u depth (x + q) y (place_bit u (x + q) y + j) (omega arith) (omega arith) in
      let b : across so (place_bit us (sx + q) sy + j)
      ≡ (us.left + (sx + q)) * us.bits + (us.bits - 1 - (place_bit us (sx + q) sy + j - place_bit us (sx + q) sy))
      = pixel_across us fits.depth (sx + q) sy (place_bit us (sx + q) sy + j) (omega arith) (omega arith) in
      let c = less (place_bit u (x + q) y) j in
      let d = less (place_bit us (sx + q) sy) j in
      rw (a, b, c, d, same) (sum u.left x q u.bits (u.bits - 1 - j) us.left sx)

  row_pixel : (q j : ℕ) → q < n → j < u.bits → (v : Bool)
      → inked pen (Copied (pixels us src (sx + q) sy)) (place_shift u (x + q)) j v ≡ copied operator (rows o so) src (place_bit u (x + q) y + j) v
  unfolding copied
  row_pixel q j l k v =
      let c : sx + q < us.width = omega arith in
      let kk : j < us.bits = omega arith in
      let m : ℕ = place_bit u (x + q) y + j in
      ap₂ (λ (i : ℕ) (b : Bool). new_bit pen.op (bit pen.mask i) b v) (shift_at u depth (x + q) y j k)
      (ap (λ (z : ℕ). bit z j) (pixels_in us src (sx + q) sy (inside_of us (sx + q) sy c high))
      ∙ field_bit_at src (place_bit us (sx + q) sy) us.bits j (bit_fits us src fits (sx + q) sy) kk
      ∙ sym (left_at src so (place_bit us (sx + q) sy + j) (omega (arith, row_first us (sx + q) sy)))
      ∙ ap (left_bit src so) (sym (moved q j k)))
      ∙ sym (made.bits ((m - 8 * o) % 16) (omega arith) (left_bit src so (across o m + from - to)) v)

  -- THE LINK: a pixel's bit drawn with the copied pixel is what the rule of the row's copy makes of it
  pub copied_pixel : (q j : ℕ) → q < n → j < u.bits → (v : Bool)
      → inked pen (Copied (pixels us src (sx + q) sy)) (place_shift u (x + q)) j v
      ≡ copied operator (row_copy_of u us x y sx sy n) src (place_bit u (x + q) y + j) v
  copied_pixel q j l k v =
      row_pixel q j l k v
      ∙ ap₂ (λ (r b : ℕ). copied operator (rows r b) src (place_bit u (x + q) y + j) v) (sym (row_start_lem u y)) (sym (row_start_lem us sy))

-- ## RowsFit

fit_words : (o e w l : ℕ) → e ≤ 16 * w → o + 2 * w ≤ l → o + 2 * ((e + 15) / 16) ≤ l
fit_words o e w l h k = omega arith

-- the pixels of two rows leave the room that their copy asks for
pub rows_fit : (u us : Surface) (old src : List ℕ) (x y sx sy n : ℕ) → InRow u old x y n → InRow us src sx sy n → us.bits ≡ u.bits → 0 < n
    → RowsFit (row_copy_of u us x y sx sy n) old src
rows_fit u us old src x y sx sy n ru rs same k =
    let a = sized u old x y n ru k in
    let b = sized us src sx sy n rs k in
    let e : n * us.bits ≡ n * u.bits = ap (λ (z : ℕ). n * z) same in
    record {
      target = fit_words (start u y) ((u.left + x) * u.bits + n * u.bits) u.words (length old) a.fit a.room;
      source = rw e at (fit_words (start us sy) ((us.left + sx) * us.bits + n * us.bits) us.words (length src) b.fit b.room);
      short = a.short;
      near = rw e at b.short;
    }

-- two rows of one bitmap are one row, or share no byte
pub slidable_rows : (u : Surface) (s : List ℕ) (x y sx sy n : ℕ) → InRow u s x y n → InRow u s sx sy n → 0 < n → Slidable (row_copy_of u u x y sx sy n)
slidable_rows u s x y sx sy n r t k = go (ℕ_discrete sy y) (dec_lt y sy)
  where
    ends : (o p e w d : ℕ) → e ≤ 16 * w → o + 2 * w ≤ p → o + 2 * ((e + 15) / 16) ≤ p + 2 * (d / 16)
    ends o p e w d h l = omega arith

    below : (a b : ℕ) → a < b → start u a + 2 * u.words ≤ start u b
    below a b h = let m : u.words * (u.top + a + 1) ≤ u.words * (u.top + b) = mul-le-mul_left u.words (omega arith) in omega arith

    go : Dec (sy ≡ y) → Dec (y < sy) → Slidable (row_copy_of u u x y sx sy n)
    go (yes e) _ = inl (ap (start u) e)
    go (no e) (yes l) = inr (inr (ends (start u y) (start u sy) ((u.left + x) * u.bits + n * u.bits)
        u.words ((u.left + sx) * u.bits) (sized u s x y n r k).fit (below y sy l)))
    go (no e) (no l) = inr (inl (ends (start u sy) (start u y) ((u.left + sx) * u.bits + n * u.bits)
        u.words ((u.left + x) * u.bits) (sized u s sx sy n t k).fit (below sy y (omega arith))))
