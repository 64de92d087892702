-- From one pixel of a trace to the next: where each lies, and the step between them.
use Rattle.std.proofs.Common.{◌≡◌, ℕ, zero, suc, ◌+◌, ◌-◌, ◌*◌, ◌%◌, ◌^◌, ◌<◌, ◌≤◌, Bool, true, false, cond, ltb, ℤ, pos, ◌+ℤ◌, sym, refl, ap, ◌∙◌, ap₂}
use Rattle.std.proofs.Common.{mul-le-mul_right, mul_comm, mul-le-mul_left, arith, ltb-false, ltb-true}
use lib.IntN.{ -ℤ-+ℤ_cancel}
use Rattle.model.specs.Coordinates.{negative, index}
use Rattle.model.specs.declared.Surface.{Surface}
use Rattle.model.proofs.Decisions.{split, cond_true, cond_false}
use Rattle.model.proofs.PlaceLaws.{depth_bounds}
use Rattle.bitmaps.specs.Areas.{rows_end}
use Rattle.coordinates.specs.Offsets.{directed, unbiased}
use Rattle.coordinates.proofs.EdgeLaws.{unbiased_on}
use Rattle.spans.proofs.DrawLaws.{index_unbiased}
use Rattle.strips.proofs.StretchLaws.{true_false}
use Rattle.traces.specs.declared.Trace.{Trace}
use Rattle.traces.specs.declared.slopes.Axes.{Axes}
use Rattle.traces.specs.declared.walks.Spot.{Spot}
use Rattle.traces.specs.Slopes.{minor_of, rest_of}
use Rattle.traces.specs.Traces.{trace_at}
use Rattle.traces.specs.Walks.{column_on, row_on, bit_before, Located, Locatable, spot_at, step_of, steps_of, next_spot, spot_no}
use Rattle.traces.proofs.SlopeLaws.{minor_most, straight_at, straight_rest, diagonal_at, diagonal_rest}

-- ## A coordinate that is kept 65,536 larger

unbiased_pos : (x k : ℕ) → unbiased x ≡ pos k → x ≡ k + 65536
unbiased_pos x k h = split (ltb x 65536)
    (λ e. absurd (true_false (rw e at (ap negative h))))
    (λ e. let l = ltb-false x 65536 e in let f : x - 65536 ≡ k = sym (index_unbiased x) ∙ ap index h in omega arith)

-- so many pixels on or back from x, it is c
pub record Kept (x k c : ℕ) (back : Bool) : Type 0 where
  pub enough : back ≡ true → k ≤ x
  pub sum : cond back (x - k) (x + k) ≡ c + 65536

pub kept : (x k c : ℕ) (back : Bool) → unbiased x +ℤ directed back k ≡ pos c → Kept x k c back
kept x k c false h =
    let e = unbiased_pos (x + k) c (sym (unbiased_on x k) ∙ h) in
    record { enough = λ z. absurd (true_false (sym z)); sum = e }
kept x k c true h =
    let e = unbiased_pos x (c + k) (sym (-ℤ-+ℤ_cancel (unbiased x) (pos k)) ∙ ap (λ (z : ℤ). z +ℤ pos k) h) in
    record { enough = λ z. omega arith; sum = omega arith }

-- q is one on or back from p
abbrev Beyond : Bool → ℕ → ℕ → Type 0
Beyond false p q = q ≡ p + 1
Beyond true p q = p ≡ q + 1

beyond : (x k p q : ℕ) (back : Bool) → unbiased x +ℤ directed back k ≡ pos p → unbiased x +ℤ directed back (k + 1) ≡ pos q → Beyond back p q
beyond x k p q false h g =
    let a = (kept x k p false h).sum in
    let b = (kept x (k + 1) q false g).sum in
    omega arith
beyond x k p q true h g =
    let a = (kept x k p true h).sum in
    let b = (kept x (k + 1) q true g).sum in
    let c = (kept x (k + 1) q true g).enough refl in
    omega arith

-- ## The bits before a pixel

-- a step that wraps, from a to b
step_to : (back : Bool) (a b n : ℕ) → a < 2 ^ 64 → b < 2 ^ 64 → cond back a b ≡ cond back b a + n → (a + step_of back n) % 2 ^ 64 ≡ b
step_to false a b n h k e = omega arith
step_to true a b n h k e = omega arith

-- a coordinate that many on or back, where it is c
moved_to : (x k c : ℕ) (back : Bool) → Kept x k c back → x < 2 ^ 64 → c ≤ 2 ^ 35 → (x + step_of back k) % 2 ^ 64 ≡ c + 65536
moved_to x k c false w h l = omega (arith, w.sum)
moved_to x k c true w h l = omega (arith, w.sum, w.enough refl)

module _ (u : Surface) (right : (u.left + u.width) * u.bits ≤ 16 * u.words) (near : rows_end u ≤ 2 ^ 32) where
  -- they are few
  pub bits_few : (x y : ℕ) → x < u.width → y < u.height → bit_before u x y ≤ 2 ^ 35
  bits_few x y h k =
      let a : (u.left + x) * u.bits ≤ (u.left + u.width) * u.bits = mul-le-mul_right u.bits (omega arith) in
      let b : u.words * (u.top + y + 1) ≤ u.words * (u.top + u.height) = mul-le-mul_left u.words (omega arith) in
      let c : u.words * (u.top + u.height) ≡ (u.top + u.height) * u.words = mul_comm u.words (u.top + u.height) in
      omega arith

  -- a step along x, and along y
  across : (back : Bool) (p q y : ℕ) → Beyond back p q → p < u.width → q < u.width → y < u.height
      → (bit_before u p y + step_of back u.bits) % 2 ^ 64 ≡ bit_before u q y
  across false p q y e h k l =
      step_to false (bit_before u p y) (bit_before u q y) u.bits (omega (arith, bits_few p y h l)) (omega (arith, bits_few q y k l)) (rw e (omega arith))
  across true p q y e h k l =
      step_to true (bit_before u p y) (bit_before u q y) u.bits (omega (arith, bits_few p y h l)) (omega (arith, bits_few q y k l)) (rw e (omega arith))

  down : (back : Bool) (x p q : ℕ) → Beyond back p q → x < u.width → p < u.height → q < u.height
      → (bit_before u x p + step_of back (16 * u.words)) % 2 ^ 64 ≡ bit_before u x q
  down false x p q e h k l =
      step_to false (bit_before u x p) (bit_before u x q) (16 * u.words) (omega (arith, bits_few x p h k)) (omega (arith, bits_few x q h l))
      (rw e (omega arith))
  down true x p q e h k l =
      step_to true (bit_before u x p) (bit_before u x q) (16 * u.words) (omega (arith, bits_few x p h k)) (omega (arith, bits_few x q h l))
      (rw e (omega arith))

-- pixel i's column and row as the code works them out, and the numbers on the way
pub record SpotSized (u : Surface) (s : Trace) (i x y : ℕ) : Type 0 where
  pub column : x - 65536 ≡ column_on s i
  pub row : y - 65536 ≡ row_on s i
  pub east : 65536 ≤ x
  pub south : 65536 ≤ y
  pub top : u.top + (y - 65536) ≤ 2 ^ 35
  pub rows : u.words * (u.top + (y - 65536)) ≤ 2 ^ 35
  pub left : u.left + (x - 65536) ≤ 2 ^ 35
  pub bits : bit_before u (x - 65536) (y - 65536) ≤ 2 ^ 35

module _ (u : Surface) (s : Trace) (i : ℕ) (l : Locatable u s i) {at : ℕ} (e : at ≡ minor_of s.axes i) where
  pub offset_small : at ≤ 32768
  offset_small = omega (arith, e, minor_most s.axes l.small.sloped i l.located.number, l.small.sloped.order, l.small.sloped.small)

  -- how far the pixel is along x and along y, by the code
  module _ {ox oy : ℕ} (ex : ox ≡ cond s.axes.level i at) (ey : oy ≡ cond s.axes.level at i) where
    x_kept : Kept s.x ox (column_on s i) s.heading.left
    x_kept = kept s.x ox (column_on s i) s.heading.left
        (ap (λ (k : ℕ). unbiased s.x +ℤ directed s.heading.left k) (ex ∙ ap (cond s.axes.level i) e) ∙ l.located.x)

    y_kept : Kept s.y oy (row_on s i) s.heading.up
    y_kept = kept s.y oy (row_on s i) s.heading.up
        (ap (λ (k : ℕ). unbiased s.y +ℤ directed s.heading.up k) (ey ∙ ap (λ (k : ℕ). cond s.axes.level k i) e) ∙ l.located.y)

    pub spot_sized : {dx dy : ℕ} → dx ≡ step_of s.heading.left ox → dy ≡ step_of s.heading.up oy
        → SpotSized u s i ((s.x + dx) % 2 ^ 64) ((s.y + dy) % 2 ^ 64)
    spot_sized {dx} {dy} p q =
        let b = bits_few u l.right l.near (column_on s i) (row_on s i) l.located.column l.located.row in
        let d = depth_bounds l.depth in
        let m : (u.left + column_on s i) * 1 ≤ (u.left + column_on s i) * u.bits = mul-le-mul_left (u.left + column_on s i) d.0 in
        let w : (u.left + u.width) * 1 ≤ (u.left + u.width) * u.bits = mul-le-mul_left (u.left + u.width) d.0 in
        let v : 0 < u.words = omega (arith, l.right, l.located.column) in
        let t : 1 * (u.top + row_on s i) ≤ u.words * (u.top + row_on s i) = mul-le-mul_right (u.top + row_on s i) v in
        let e = moved_to s.x ox (column_on s i) s.heading.left x_kept (omega (arith, l.small.x)) (omega arith) in
        let f = moved_to s.y oy (row_on s i) s.heading.up y_kept (omega (arith, l.small.y)) (omega arith) in
        let c : (s.x + dx) % 2 ^ 64 - 65536 ≡ column_on s i = rw p (omega arith) in
        let r : (s.y + dy) % 2 ^ 64 - 65536 ≡ row_on s i = rw q (omega arith) in
        record {
          column = c;
          row = r;
          east = rw p (omega arith);
          south = rw q (omega arith);
          top = omega arith;
          rows = rw r (omega arith);
          left = omega arith;
          bits = rw (c, r) b;
        }

-- one step and another are their sum
both_steps : (a m n : ℕ) → (a + (m + n) % 2 ^ 64) % 2 ^ 64 ≡ ((a + m) % 2 ^ 64 + n) % 2 ^ 64
both_steps a m n = omega arith

-- ## From pixel i to pixel i + 1

module _ (u : Surface) (s : Trace) (i : ℕ) (l : Locatable u s i) (there : Located u s (i + 1)) where
  abbrev a : Axes
  a = s.axes

  abbrev here : Located u s i
  here = l.located

  abbrev x₀ : ℕ
  x₀ = column_on s i

  abbrev x₁ : ℕ
  x₁ = column_on s (i + 1)

  abbrev y₀ : ℕ
  y₀ = row_on s i

  abbrev y₁ : ℕ
  y₁ = row_on s (i + 1)

  some : 0 < a.larger
  some = omega (arith, there.number)

  -- its column and its row change, or not
  x_goes : (trace_at a (i + 1)).x ≡ (trace_at a i).x + 1 → Beyond s.heading.left x₀ x₁
  x_goes e = beyond s.x (trace_at a i).x x₀ x₁ s.heading.left here.x
      (ap (λ (n : ℕ). unbiased s.x +ℤ directed s.heading.left n) (sym e) ∙ there.x)

  x_stays : (trace_at a (i + 1)).x ≡ (trace_at a i).x → x₁ ≡ x₀
  x_stays e = ap (λ (n : ℕ). index (unbiased s.x +ℤ directed s.heading.left n)) e

  y_goes : (trace_at a (i + 1)).y ≡ (trace_at a i).y + 1 → Beyond s.heading.up y₀ y₁
  y_goes e = beyond s.y (trace_at a i).y y₀ y₁ s.heading.up here.y
      (ap (λ (n : ℕ). unbiased s.y +ℤ directed s.heading.up n) (sym e) ∙ there.y)

  y_stays : (trace_at a (i + 1)).y ≡ (trace_at a i).y → y₁ ≡ y₀
  y_stays e = ap (λ (n : ℕ). index (unbiased s.y +ℤ directed s.heading.up n)) e

  -- the rest is small: the step is along the major axis alone
  module _ (low : rest_of a i < 2 * a.larger - 2 * a.smaller) where
    same : minor_of a (i + 1) ≡ minor_of a i
    same = straight_at a l.small.sloped i some low

    straight_bit : (bit_before u x₀ y₀ + (steps_of u s).straight) % 2 ^ 64 ≡ bit_before u x₁ y₁
    straight_bit = split a.level
        (λ v. ap (λ (n : ℕ). (bit_before u x₀ y₀ + n) % 2 ^ 64) (cond_true _ _ v)
        ∙ across u l.right l.near s.heading.left x₀ x₁ y₀ (x_goes (rw v refl)) here.column there.column here.row
        ∙ ap (bit_before u x₁) (sym (y_stays (rw v same))))
        (λ v. ap (λ (n : ℕ). (bit_before u x₀ y₀ + n) % 2 ^ 64) (cond_false _ _ v)
        ∙ down u l.right l.near s.heading.up x₀ y₀ y₁ (y_goes (rw v refl)) here.column here.row there.row
        ∙ ap (λ (x : ℕ). bit_before u x y₁) (sym (x_stays (rw v same))))

  -- it is not: the step is along both axes
  module _ (high : 2 * a.larger - 2 * a.smaller ≤ rest_of a i) where
    more : minor_of a (i + 1) ≡ minor_of a i + 1
    more = diagonal_at a l.small.sloped i some high

    diagonal_bit : (bit_before u x₀ y₀ + (steps_of u s).diagonal) % 2 ^ 64 ≡ bit_before u x₁ y₁
    diagonal_bit =
        both_steps (bit_before u x₀ y₀) (step_of s.heading.left u.bits) (step_of s.heading.up (16 * u.words))
        ∙ ap (λ (n : ℕ). (n + step_of s.heading.up (16 * u.words)) % 2 ^ 64)
        (across u l.right l.near s.heading.left x₀ x₁ y₀ (x_goes (split a.level (λ v. rw v refl) (λ v. rw v more)))
        here.column there.column here.row)
        ∙ down u l.right l.near s.heading.up x₁ y₀ y₁ (y_goes (split a.level (λ v. rw v more) (λ v. rw v refl)))
        there.column here.row there.row

  abbrev spot_with : ℕ → ℕ → Spot
  spot_with b r = record { bit = b; rest = r }

  pub spot_next : next_spot (spot_at u s i) (steps_of u s) ≡ spot_at u s (i + 1)
  unfolding next_spot
  spot_next = split (ltb (rest_of a i) (2 * a.larger - 2 * a.smaller))
      (λ e. let h = ltb-true (rest_of a i) (2 * a.larger - 2 * a.smaller) e in
      rw e (ap₂ spot_with (straight_bit h) (sym (straight_rest a l.small.sloped i some h))))
      (λ e. let h = ltb-false (rest_of a i) (2 * a.larger - 2 * a.smaller) e in
      rw e (ap₂ spot_with (diagonal_bit h) (sym (diagonal_rest a l.small.sloped i some h))))

-- spot k from pixel i on is that of pixel i + k
pub spot_no_lem : (u : Surface) (s : Trace) (i n : ℕ) → ((k : ℕ) → k < n → Locatable u s (i + k)) → (k : ℕ) → k < n
    → spot_no (spot_at u s i) (steps_of u s) k ≡ spot_at u s (i + k)
unfolding spot_no
spot_no_lem u s i n l zero h = let e : i ≡ i + 0 = omega arith in ap (spot_at u s) e
spot_no_lem u s i n l (suc k) h =
    let e : i + suc k ≡ i + k + 1 = omega arith in
    ap (λ (z : Spot). next_spot z (steps_of u s)) (spot_no_lem u s i n l k (omega arith))
    ∙ spot_next u s (i + k) (l k (omega arith)) (rw e at (l (suc k) h).located)
    ∙ ap (spot_at u s) (sym e)
