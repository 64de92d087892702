-- Dots one after another in a buffer, and dots of which only some that follow one another may be visible.
use mathlib.Core.Path.{◌≡◌, refl, sym, ap, ◌∙◌}
use mathlib.Core.Logic.{◌⊎◌, inl, inr}
use mathlib.Core.Bool.{false, cond}
use mathlib.Core.List.{List}
use Prim.Native.Nat.{ℕ, zero, suc, ◌+◌, ◌-◌, ◌≤◌, ◌<◌}
use native.Mathlib.Omega.{arith}
use Rattle.model.specs.Ranges.{listed}
use Rattle.model.specs.Pixels.{change, changes}
use Rattle.model.specs.Dots.{Dot, visible, change_of, changes_of}
use Rattle.model.specs.declared.Clip.{Clip}
use Rattle.model.specs.declared.Surface.{Surface}
use Rattle.model.specs.declared.Pen.{Pen}
use Rattle.model.proofs.Decisions.{cond_false}
use Rattle.strips.proofs.StrokeLaws.{changes_keep}

-- of N dots at most those from i on, n of them, are visible
pub record Window (u : Surface) (clip : Clip) (f : ℕ → Dot) (i n N : ℕ) : Type 0 where
  pub most : i + n ≤ N
  pub hidden : (k : ℕ) → k < N → (k < i) ⊎ (i + n ≤ k) → visible u clip (f k) ≡ false

-- one dot in a buffer
abbrev pub plotted : Surface → Clip → Pen → Dot → List ℕ → List ℕ
plotted u clip pen d s = cond (visible u clip d) (change u (change_of u pen d) s) s

module _ (u : Surface) (clip : Clip) (pen : Pen) (f : ℕ → Dot) where
  -- dots i, i + 1, .. : n of them
  abbrev pub drawn_dots : ℕ → ℕ → List ℕ → List ℕ
  drawn_dots i n s = changes u (changes_of u clip pen (listed i n f)) s

  drawn_first : (i n : ℕ) (s : List ℕ) → drawn_dots i (suc n) s ≡ drawn_dots (suc i) n (plotted u clip pen (f i) s)
  unfolding changes_of listed
  drawn_first i n s = changes_keep u (visible u clip (f i)) _ _ s

  drawn_add : (m n i : ℕ) (s : List ℕ) → drawn_dots i (m + n) s ≡ drawn_dots (i + m) n (drawn_dots i m s)
  unfolding changes_of listed changes
  drawn_add zero n i s =
      let e : 0 + n ≡ n = omega arith in
      let g : i + 0 ≡ i = omega arith in
      rw (e, g) refl
  drawn_add (suc m) n i s =
      let e : suc m + n ≡ suc (m + n) = omega arith in
      let g : i + suc m ≡ suc i + m = omega arith in
      ap (λ (k : ℕ). drawn_dots i k s) e ∙ drawn_first i (m + n) s ∙ drawn_add m n (suc i) (plotted u clip pen (f i) s)
      ∙ rw g (ap (drawn_dots (suc i + m) n) (sym (drawn_first i m s)))

  -- one dot more
  pub drawn_next : (i n : ℕ) (s : List ℕ) → drawn_dots i (n + 1) s ≡ plotted u clip pen (f (i + n)) (drawn_dots i n s)
  unfolding changes_of listed changes
  drawn_next i n s = drawn_add n 1 i s ∙ drawn_first (i + n) 0 (drawn_dots i n s)

  drawn_none : (n i : ℕ) (s : List ℕ) → ((k : ℕ) → i ≤ k → k < i + n → visible u clip (f k) ≡ false) → drawn_dots i n s ≡ s
  unfolding changes_of listed changes
  drawn_none zero i s h = refl
  drawn_none (suc n) i s h =
      drawn_first i n s ∙ ap (drawn_dots (suc i) n) (cond_false _ _ (h i (omega arith) (omega arith)))
      ∙ drawn_none n (suc i) s (λ k a b. h k (omega arith) (omega arith))

  -- only the dots of the window change anything
  pub window_drawn : {i n N : ℕ} → Window u clip f i n N → (s : List ℕ) → drawn_dots 0 N s ≡ drawn_dots i n s
  window_drawn {i} {n} {N} w s =
      let e : N ≡ i + (n + (N - (i + n))) = omega (arith, w.most) in
      let z : 0 + i ≡ i = omega arith in
      ap (λ (k : ℕ). drawn_dots 0 k s) e ∙ drawn_add i (n + (N - (i + n))) 0 s
      ∙ rw z (ap (drawn_dots i (n + (N - (i + n)))) (drawn_none i 0 s (λ k a b. w.hidden k (omega (arith, w.most)) (inl (omega arith))))
      ∙ drawn_add n (N - (i + n)) i s
      ∙ drawn_none (N - (i + n)) (i + n) (drawn_dots i n s) (λ k a b. w.hidden k (omega (arith, w.most)) (inr (omega arith))))
