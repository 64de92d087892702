-- A stretch of one row: the run pixel by pixel, a filled part and a word under a cover are each one, and stretches that meet make one.
use mathlib.Core.Path.{◌≡◌, refl, sym, ap, ◌∙◌}
use mathlib.Core.Logic.{◌⊎◌, inl, inr}
use mathlib.Core.Bool.{Bool, true, false, cond}
use mathlib.Core.List.{List}
use Prim.Native.Nat.{ℕ, ◌+◌, ◌-◌, ◌*◌, ◌/◌, ◌%◌, ◌≤◌, ◌<◌}
use native.Mathlib.Omega.{arith}
use native.Mathlib.Decide.{dec_lt}
use native.Mathlib.Nat.{mul-le-mul_right, div-add-mod', mod-lt}
use lib.Arith.{digits_div}
use Rattle.model.specs.Words.{bit_at}
use Rattle.model.specs.Bitmaps.{grid_bit, place_bit, place_shift, Depth, Fits}
use Rattle.model.specs.declared.Surface.{Surface}
use Rattle.model.specs.declared.Pen.{Pen}
use Rattle.model.proofs.Decisions.{holds, split}
use Rattle.model.proofs.PlaceLaws.{column_in_byte, depth_bounds}
use Rattle.strips.specs.Stretches.{across, In, Out, Stretched}
use Rattle.strips.proofs.FieldBits.{Bytes, same_buffers}
use Rattle.strips.specs.Strokes.{Strokes}
use Rattle.strips.proofs.StrokeLaws.{inked, Beside, Once, bit_beside, Stroked}

-- ## Stretches of a row

side : (o lo hi m : ℕ) → In o lo hi m ⊎ Out o lo hi m
side o lo hi m = go (dec_lt m (8 * o)) (dec_lt (across o m) lo) (dec_lt (across o m) hi)
  where
    go : Dec (m < 8 * o) → Dec (across o m < lo) → Dec (across o m < hi) → In o lo hi m ⊎ Out o lo hi m
    go (yes h) _ _ = inr (inl h)
    go (no h) (yes k) _ = inr (inr (inl k))
    go (no h) (no k) (yes l) = inl (record { row = omega arith; from = omega arith; to = l })
    go (no h) (no k) (no l) = inr (inr (inr (omega arith)))

-- the same stretch by the same rule gives the same bytes
pub stretched_same : {g : ℕ → Bool → Bool} {o lo hi : ℕ} {old s t : List ℕ} → Stretched g o lo hi old s → Stretched g o lo hi old t → Bytes s → Bytes t → s ≡ t
stretched_same {g} {o} {lo} {hi} {old} {s} {t} p q a b = same_buffers s t (p.length ∙ sym q.length) a b (λ m. at m (side o lo hi m))
  where
    at : (m : ℕ) → In o lo hi m ⊎ Out o lo hi m → bit_at s m ≡ bit_at t m
    at m (inl i) = p.inside m i ∙ sym (q.inside m i)
    at m (inr i) = p.outside m i ∙ sym (q.outside m i)

-- one stretch and then the next
pub stretched_then : {g : ℕ → Bool → Bool} {o lo mid hi : ℕ} {old t new : List ℕ} → Stretched g o lo mid old t → Stretched g o mid hi t new
    → lo ≤ mid → mid ≤ hi → Stretched g o lo hi old new
stretched_then {g} {o} {lo} {mid} {hi} {old} {t} {new} p q h k = record {
  length = q.length ∙ p.length;
  inside = λ m i. at m i (dec_lt (across o m) mid);
  outside = λ m i. q.outside m (over m i) ∙ p.outside m (under m i);
}
  where
    over : (m : ℕ) → Out o lo hi m → Out o mid hi m
    over m (inl i) = inl i
    over m (inr (inl i)) = inr (inl (omega arith))
    over m (inr (inr i)) = inr (inr i)

    under : (m : ℕ) → Out o lo hi m → Out o lo mid m
    under m (inl i) = inl i
    under m (inr (inl i)) = inr (inl i)
    under m (inr (inr i)) = inr (inr (omega arith))

    at : (m : ℕ) → In o lo hi m → Dec (across o m < mid) → bit_at new m ≡ g m (bit_at old m)
    at m i (yes l) = q.outside m (inr (inl l)) ∙ p.inside m (record { row = i.row; from = i.from; to = l })
    at m i (no l) =
        let e : mid ≤ across o m = omega arith in
        q.inside m (record { row = i.row; from = e; to = i.to }) ∙ ap (g m) (p.outside m (inr (inr e)))

-- .. by a rule that is the same at its bits
pub stretched_by : {g h : ℕ → Bool → Bool} {o lo hi : ℕ} {old new : List ℕ} → ((m : ℕ) → In o lo hi m → (v : Bool) → g m v ≡ h m v)
    → Stretched g o lo hi old new → Stretched h o lo hi old new
stretched_by e p = record { length = p.length; inside = λ m i. p.inside m i ∙ e m i _; outside = p.outside }

-- ## The run, pixel by pixel

-- the byte at which row y begins
abbrev pub row_byte : Surface → ℕ → ℕ
row_byte u y = u.base + 2 * ((u.top + y) * u.words)

-- where pixel (x,y) lies in its row: its bits before it are z
record Spread (u : Surface) (x y z : ℕ) : Type 0 where
  room : z % 16 + u.bits ≤ 16
  place : place_bit u x y ≡ 8 * row_byte u y + 16 * (z / 16) + (16 - u.bits - z % 16)
  shift : place_shift u x ≡ 16 - u.bits - z % 16

spread_of : (u : Surface) → Depth u.bits → (x y : ℕ) → Spread u x y ((u.left + x) * u.bits)
unfolding place_bit place_shift grid_bit
spread_of u d x y = record {
  room = omega (arith, column_in_byte d (u.left + x));
  place = omega arith;
  shift = refl;
}

from_left : (z b k : ℕ) → z % 16 + b ≤ 16 → k < b → 16 * (z / 16) + (15 - (16 - b - z % 16 + k)) ≡ z + (b - 1 - k)
from_left z b k h l = omega arith

-- bit m of pixel (x,y), from the left
pub pixel_across : (u : Surface) → Depth u.bits → (x y m : ℕ) → place_bit u x y ≤ m → m < place_bit u x y + u.bits
    → across (row_byte u y) m ≡ (u.left + x) * u.bits + (u.bits - 1 - (m - place_bit u x y))
pixel_across u d x y m a c =
    let o : ℕ = row_byte u y in
    let s = spread_of u d x y in
    let z : ℕ = (u.left + x) * u.bits in
    let e : m - 8 * o ≡ 16 * (z / 16) + (16 - u.bits - z % 16 + (m - place_bit u x y)) = omega (arith, s.place, s.room) in
    let q : (m - 8 * o) / 16 ≡ z / 16 = omega (arith, s.room) in
    let r : (m - 8 * o) % 16 ≡ 16 - u.bits - z % 16 + (m - place_bit u x y) = omega (arith, s.room) in
    rw (q, r) (from_left z u.bits (m - place_bit u x y) s.room (omega arith))

-- its column
pub column_at : (u : Surface) → Depth u.bits → (x y j : ℕ) → j < u.bits → across (row_byte u y) (place_bit u x y + j) / u.bits ≡ u.left + x
column_at u d x y j l =
    rw (pixel_across u d x y (place_bit u x y + j) (omega arith) (omega arith))
    (digits_div (u.left + x) (let h : u.bits - 1 - (place_bit u x y + j - place_bit u x y) < u.bits = omega arith in h))

pub true_false : true ≡ false → ⊥
true_false e = holds (sym e)

quotient_lt : (v b n : ℕ) → v < n * b → v / b < n
quotient_lt v b n h = go (dec_lt (v / b) n)
  where
    go : Dec (v / b < n) → v / b < n
    go (yes l) = l
    go (no l) = let k : n ≤ v / b = omega arith in absurd (omega (arith, mul-le-mul_right b k, div-add-mod' v b))

-- pixels x .. x + n - 1 of row y are those of N strokes, each one of them: stroke `which q` for pixel x + q
pub record Along (f : Strokes) (x y n N : ℕ) (which : ℕ → ℕ) : Type 0 where
  pub index : (q : ℕ) → q < n → which q < N
  pub column : (q : ℕ) → q < n → f.on (which q) ≡ true → f.x (which q) ≡ x + q
  pub row : (q : ℕ) → q < n → f.on (which q) ≡ true → f.y (which q) ≡ y
  pub back : (p : ℕ) → p < N → f.on p ≡ true → ℕ
  pub within : (p : ℕ) (l : p < N) (e : f.on p ≡ true) → back p l e < n
  pub only : (p : ℕ) (l : p < N) (e : f.on p ≡ true) → which (back p l e) ≡ p

module _ (u : Surface) (x y n N : ℕ) {f : Strokes} {which : ℕ → ℕ} (al : Along f x y n N which) (wide : x + n ≤ u.width) (high : y < u.height) where
  column_of_lem : (p : ℕ) (l : p < N) (e : f.on p ≡ true) → f.x p ≡ x + al.back p l e
  column_of_lem p l e =
      let w = al.only p l e in
      ap f.x (sym w) ∙ al.column (al.back p l e) (al.within p l e) (ap f.on w ∙ e)

  row_of : (p : ℕ) (l : p < N) (e : f.on p ≡ true) → f.y p ≡ y
  row_of p l e =
      let w = al.only p l e in
      ap f.y (sym w) ∙ al.row (al.back p l e) (al.within p l e) (ap f.on w ∙ e)

  pub along_once : Once u f 0 N
  along_once = record {
    column = λ p a b e. let l : p < N = omega arith in omega (arith, column_of_lem p l e, al.within p l e);
    row = λ p a b e. let l : p < N = omega arith in omega (arith, row_of p l e);
    once = λ p q a b c d e g m.
        let l : p < N = omega arith in
        let k : q < N = omega arith in
        inl (λ z.
        let s : al.back p l e ≡ al.back q k g = omega (arith, column_of_lem p l e, column_of_lem q k g) in
        m (sym (al.only p l e) ∙ ap which s ∙ al.only q k g));
  }

  module _ (old : List ℕ) (fits : Fits u old) where
    abbrev o : ℕ
    o = row_byte u y

    abbrev lo : ℕ
    lo = (u.left + x) * u.bits

    -- bit t of pixel p, from the left, is bit lo + p × b + t of the row
    spread_at : (p : ℕ) → Spread u (x + p) y (lo + p * u.bits)
    spread_at p =
        let e : (u.left + (x + p)) * u.bits ≡ lo + p * u.bits = omega arith in
        rw e at (spread_of u fits.depth (x + p) y)

    -- a bit of pixel p, from the left
    bit_across : (p m : ℕ) → place_bit u (x + p) y ≤ m → m < place_bit u (x + p) y + u.bits
        → across o m ≡ lo + p * u.bits + (u.bits - 1 - (m - place_bit u (x + p) y))
    bit_across p m a c =
        let e : (u.left + (x + p)) * u.bits ≡ lo + p * u.bits = omega arith in
        rw e at (pixel_across u fits.depth (x + p) y m a c)

    -- a bit of the stretch is one of a pixel
    record Found (m : ℕ) : Type 0 where
      q : ℕ
      j : ℕ
      q_lt : q < n
      j_lt : j < u.bits
      here : m ≡ place_bit u (x + q) y + j

    found : (m : ℕ) → In o lo (lo + n * u.bits) m → Found m
    found m i =
        let q : ℕ = (across o m - lo) / u.bits in
        let t : ℕ = (across o m - lo) % u.bits in
        let z : across o m ≡ lo + q * u.bits + t = omega (arith, i.from, div-add-mod' (across o m - lo) u.bits) in
        let l : t < u.bits = mod-lt (across o m - lo) (depth_bounds fits.depth).0 in
        let s = spread_at q in
        record {
          q = q;
          j = u.bits - 1 - t;
          q_lt = quotient_lt (across o m - lo) u.bits n (omega (arith, i.from, i.to));
          j_lt = omega arith;
          here = omega (arith, i.row, s.room, s.place);
        }

    beside : (m q : ℕ) → q < n → Out o lo (lo + n * u.bits) m → Beside u (x + q) y m
    beside m q l i = go (dec_lt m (place_bit u (x + q) y)) (dec_lt m (place_bit u (x + q) y + u.bits))
      where
        never : place_bit u (x + q) y ≤ m → m < place_bit u (x + q) y + u.bits → Out o lo (lo + n * u.bits) m → ⊥
        never a c (inl i) = let s = spread_at q in omega (arith, s.place)
        never a c (inr (inl i)) = omega (arith, bit_across q m a c)
        never a c (inr (inr i)) = omega (arith, bit_across q m a c, mul-le-mul_right u.bits l)

        go : Dec (m < place_bit u (x + q) y) → Dec (m < place_bit u (x + q) y + u.bits) → Beside u (x + q) y m
        go (yes a) _ = inl a
        go (no a) (yes c) = absurd (never (omega arith) c i)
        go (no a) (no c) = inr (omega arith)

    pub drawn_stretched : {pen : Pen} {new : List ℕ} (g : ℕ → Bool → Bool) → Stroked u pen f N old new
        → ((q j : ℕ) → q < n → j < u.bits → (v : Bool)
        → cond (f.on (which q)) (inked pen (f.source (which q)) (place_shift u (x + q)) j v) v ≡ g (place_bit u (x + q) y + j) v)
        → Stretched g o lo (lo + n * u.bits) old new
    drawn_stretched {pen} {new} g h e = record {
      length = h.length;
      inside = λ m i. let w = found m i in rw w.here (at w.q w.j w.q_lt w.j_lt);
      outside = λ m i. h.outside m λ p l k. rw (column_of_lem p l k, row_of p l k) (beside m (al.back p l k) (al.within p l k) i);
    }
      where
        at : (q j : ℕ) → q < n → j < u.bits → bit_at new (place_bit u (x + q) y + j) ≡ g (place_bit u (x + q) y + j) (bit_at old (place_bit u (x + q) y + j))
        at q j l k = split (f.on (which q))
            (λ t. let a = al.column q l t in let b = al.row q l t in
            rw (a, b) at (h.inside (which q) j (al.index q l) t k) ∙ (rw t at (e q j l k (bit_at old (place_bit u (x + q) y + j)))))
            (λ t. h.outside (place_bit u (x + q) y + j)
            (λ p c s. rw (column_of_lem p c s, row_of p c s)
            (bit_beside u old fits (x + q) y (x + al.back p c s) y j (omega arith) (omega (arith, al.within p c s)) (inl (other q p c s t)) k))
            ∙ (rw t at (e q j l k (bit_at old (place_bit u (x + q) y + j)))))
          where
            other : (q p : ℕ) (c : p < N) (s : f.on p ≡ true) → f.on (which q) ≡ false → x + q ≡ x + al.back p c s → ⊥
            other q p c s t z =
                let w : q ≡ al.back p c s = omega arith in
                absurd (true_false (sym s ∙ sym (ap f.on (ap which w ∙ al.only p c s)) ∙ t))

-- bit j of a pixel, in its word
pub shift_at : (u : Surface) → Depth u.bits → (x y j : ℕ) → j < u.bits → place_shift u x + j ≡ (place_bit u x y + j - 8 * row_byte u y) % 16
shift_at u d x y j l = let s = spread_of u d x y in omega (arith, s.room, s.place, s.shift)
