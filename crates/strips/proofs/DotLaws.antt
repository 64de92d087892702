-- The dots of a horizontal run, to the right or to the left, cut to the clip: they are the pixels of one stretch.
use mathlib.Core.Path.{◌≡◌, sym, ap, ◌∙◌}
use mathlib.Core.Logic.{◌⊎◌, inl, inr}
use mathlib.Core.Bool.{Bool, true, false, cond}
use mathlib.Core.List.{List}
use Prim.Native.Nat.{ℕ, ◌+◌, ◌-◌, ◌*◌, ◌≤◌, ◌<◌}
use native.Mathlib.Omega.{arith}
use native.Mathlib.Decide.{dec_lt}
use Rattle.model.specs.Ranges.{listed}
use Rattle.model.specs.Bitmaps.{place_bit, place_shift, Fits}
use Rattle.model.specs.Coordinates.{index}
use Rattle.model.specs.Pixels.{changes}
use Rattle.model.specs.Dots.{Dot, visible, changes_of}
use Rattle.model.specs.declared.Clip.{Clip}
use Rattle.model.specs.declared.Surface.{Surface}
use Rattle.model.specs.declared.Pen.{Pen}
use Rattle.strips.specs.Stretches.{Stretched}
use Rattle.strips.proofs.StrokeLaws.{inked, dot_strokes, dots_strokes, run_stroked}
use Rattle.strips.proofs.WindowLaws.{Window}
use Rattle.strips.proofs.StretchLaws.{Along, row_byte, true_false, along_once, drawn_stretched}

-- of N dots those from i on, n of them, are at x .. x + n - 1 of row y, in an order, and no other is visible
pub record Cut (u : Surface) (clip : Clip) (f : ℕ → Dot) (order : ℕ → ℕ) (x y i n N : ℕ) : Type 0 where
  pub most : i + n ≤ N
  pub column : (k : ℕ) → k < n → index (f (i + k)).place.x ≡ x + order k
  pub row : (k : ℕ) → k < n → index (f (i + k)).place.y ≡ y
  pub hidden : (k : ℕ) → k < N → (k < i) ⊎ (i + n ≤ k) → visible u clip (f k) ≡ false
  pub order_lt : (k : ℕ) → k < n → order k < n
  pub twice : (k : ℕ) → k < n → order (order k) ≡ k

module _ {u : Surface} {clip : Clip} {f : ℕ → Dot} {order : ℕ → ℕ} {x y i n N : ℕ} (c : Cut u clip f order x y i n N) where
  seen : (p : ℕ) → p < N → visible u clip (f p) ≡ true → (i ≤ p) × (p < i + n)
  seen p l e = go (dec_lt p i) (dec_lt p (i + n))
    where
      go : Dec (p < i) → Dec (p < i + n) → (i ≤ p) × (p < i + n)
      go (yes a) _ = absurd (true_false (sym e ∙ c.hidden p l (inl a)))
      go (no a) (yes b) = (omega arith, b)
      go (no a) (no b) = absurd (true_false (sym e ∙ c.hidden p l (inr (omega arith))))

  pub cut_window : Window u clip f i n N
  cut_window = record { most = c.most; hidden = c.hidden }

  pub along_cut : Along (dot_strokes u clip f) x y n N (λ q. i + order q)
  along_cut = record {
    index = λ q l. omega (arith, c.most, c.order_lt q l);
    column = λ q l e. c.column (order q) (c.order_lt q l) ∙ ap (λ (k : ℕ). x + k) (c.twice q l);
    row = λ q l e. c.row (order q) (c.order_lt q l);
    back = λ p l e. order (p - i);
    within = λ p l e. let s = seen p l e in c.order_lt (p - i) (omega arith);
    only = λ p l e. let s = seen p l e in let h : p - i < n = omega arith in
        ap (λ (k : ℕ). i + k) (c.twice (p - i) h) ∙ (let z : i + (p - i) ≡ p = omega arith in z);
  }

-- the changes of a run's dots, clip and transparency as they are, make one stretch
pub dots_stretched : (u : Surface) (clip : Clip) (pen : Pen) (f : ℕ → Dot) (order : ℕ → ℕ) (x y i n N : ℕ) (old : List ℕ) (g : ℕ → Bool → Bool)
    → Cut u clip f order x y i n N → Fits u old → x + n ≤ u.width → y < u.height
    → ((q j : ℕ) → q < n → j < u.bits → (v : Bool)
    → cond (visible u clip (f (i + order q))) (inked pen (f (i + order q)).source (place_shift u (x + q)) j v) v ≡ g (place_bit u (x + q) y + j) v)
    → Stretched g (row_byte u y) ((u.left + x) * u.bits) ((u.left + x) * u.bits + n * u.bits) old (changes u (changes_of u clip pen (listed 0 N f)) old)
dots_stretched u clip pen f order x y i n N old g c t w h e =
    rw (dots_strokes u clip pen f 0 N)
    (drawn_stretched u x y n N (along_cut c) w h old t g (run_stroked u pen (dot_strokes u clip f) N old t (along_once u x y n N (along_cut c) w h)) e)

-- ## Leftwards: n - 1 - k

pub left_lt : (n k : ℕ) → k < n → n - 1 - k < n
left_lt n k l = omega arith

pub left_twice : (n k : ℕ) → k < n → n - 1 - (n - 1 - k) ≡ k
left_twice n k l = omega arith
