-- What changes to a pane's pixels do: they keep every bit that is not one of them, and what they leave there depends only on what was there.
use mathlib.Core.Path.{◌≡◌, refl, sym, ap, ap₂, ◌∙◌, subst, fun_ext}
use mathlib.Core.Logic.{◌≢◌, ◌⊎◌, inl, inr}
use mathlib.Core.Bool.{Bool, true, false, cond, ◌&&◌}
use mathlib.Core.List.{List, [], ◌∷◌}
use Prim.Native.Nat.{ℕ, ◌+◌, ◌/◌, ◌%◌, ◌≤◌, ◌<◌}
use native.Mathlib.Omega.{arith}
use native.Mathlib.Decide.{dec_lt}
use lib.ListN.{length}
use lib.Dec.{eqb}
use Rattle.model.specs.Words.{bit, num, bit_at, field_at, put_field}
use Rattle.model.specs.Bitmaps.{Surface, Depth, Fits, place_bit, inside, pixels}
use Rattle.model.specs.Pixels.{Change, change, changes}
use Rattle.model.proofs.FieldLaws.{length_put, put_keeps, put_field_lem, field_bits}
use Rattle.model.proofs.PlaceLaws.{in_byte, in_rows, apart}
use borrow.Author.Tests.{ltb-true, lt-ltb, eqb-true, eqb-false}
use Rattle.model.proofs.Decisions.{split, cond_true, cond_false, both_true, both_of}

-- bit n of the screen is one of the pane's
pub record InPane (u : Surface) (n : ℕ) : Type 0 where
  pub x : ℕ
  pub y : ℕ
  pub x_in : x < u.width
  pub y_in : y < u.height
  pub from : place_bit u x y ≤ n
  pub to : n < place_bit u x y + u.bits

-- the two screens agree but for the pane's bits
pub record Framed (u : Surface) (s t : List ℕ) : Type 0 where
  pub length : length t ≡ length s
  pub bits : (n : ℕ) → (InPane u n → ⊥) → bit_at t n ≡ bit_at s n

pub inside_true : (u : Surface) (x y : ℕ) → inside u x y ≡ true → (x < u.width) × (y < u.height)
unfolding inside
inside_true u x y e = let h = both_true _ _ e in (ltb-true x u.width h.0, ltb-true y u.height h.1)

pub inside_of : (u : Surface) (x y : ℕ) → x < u.width → y < u.height → inside u x y ≡ true
unfolding inside
inside_of u x y h k = both_of (lt-ltb x u.width h) (lt-ltb y u.height k)

pub pixels_in : (u : Surface) (s : List ℕ) (x y : ℕ) → inside u x y ≡ true → pixels u s x y ≡ field_at s (place_bit u x y) u.bits
unfolding pixels
pixels_in u s x y e = cond_true _ _ e

pixels_out : (u : Surface) (s : List ℕ) (x y : ℕ) → inside u x y ≡ false → pixels u s x y ≡ 0
unfolding pixels
pixels_out u s x y e = cond_false _ _ e

-- what a pane shows is fixed by its own pixels' values, and those by its own bits
pub same_pixels : (u : Surface) (s t : List ℕ)
    → ((x y : ℕ) → x < u.width → y < u.height → field_at s (place_bit u x y) u.bits ≡ field_at t (place_bit u x y) u.bits)
    → pixels u s ≡ pixels u t
same_pixels u s t h = fun_ext λ x. fun_ext λ y. split (inside u x y)
    (λ e. let k = inside_true u x y e in pixels_in u s x y e ∙ h x y k.0 k.1 ∙ sym (pixels_in u t x y e))
    (λ e. pixels_out u s x y e ∙ sym (pixels_out u t x y e))

pub same_bits : (u : Surface) (s t : List ℕ) → Depth u.bits → ((n : ℕ) → InPane u n → bit_at s n ≡ bit_at t n) → pixels u s ≡ pixels u t
unfolding place_bit
same_bits u s t d h = same_pixels u s t λ x y k l. field_bits s t (place_bit u x y) u.bits (in_byte u.base u.words u.bits d _ _)
    λ j m. h (place_bit u x y + j) (record { x = x; y = y; x_in = k; y_in = l; from = omega arith; to = omega arith })

module _ (u : Surface) (c : Change) (s : List ℕ) (f : Fits u s) where
  at : ℕ
  at = place_bit u c.x c.y

  -- one change, made
  made : List ℕ
  made = put_field s at u.bits (c.new (pixels u s c.x c.y))

  module _ (e : inside u c.x c.y ≡ true) where
    change_made : change u c s ≡ made
    unfolding change made at
    change_made = cond_true _ _ e

    in_buffer : at / 8 < length s
    unfolding at place_bit
    in_buffer =
        let k = inside_true u c.x c.y e in
        let h = in_rows u.base u.words u.bits f.depth (u.left + u.width) f.right (u.left + c.x) (u.top + c.y) (u.top + u.height)
        (omega arith) (omega arith) in
        omega (arith, f.long)

    in_one_byte : at % 8 + u.bits ≤ 8
    unfolding at place_bit
    in_one_byte = in_byte u.base u.words u.bits f.depth _ _

    -- the bits of a change that is made are the pane's
    made_keeps : (n : ℕ) → (n < at) ⊎ (at + u.bits ≤ n) → bit_at made n ≡ bit_at s n
    unfolding made
    made_keeps n o = put_keeps s at u.bits _ n in_buffer in_one_byte o

    made_field : field_at made at u.bits ≡ num u.bits (bit (c.new (pixels u s c.x c.y)))
    unfolding made
    made_field = put_field_lem s at u.bits _ in_buffer in_one_byte

    length_made : length made ≡ length s
    unfolding made
    length_made = length_put s at u.bits _

    beside : (n : ℕ) → (InPane u n → ⊥) → (n < at) ⊎ (at + u.bits ≤ n)
    unfolding at
    beside n h = go (dec_lt n at) (dec_lt n (at + u.bits))
      where
        k : (c.x < u.width) × (c.y < u.height)
        k = inside_true u c.x c.y e

        go : Dec (n < at) → Dec (n < at + u.bits) → (n < at) ⊎ (at + u.bits ≤ n)
        go (yes l) _ = inl l
        go (no l) (yes m) = absurd (h (record { x = c.x; y = c.y; x_in = k.0; y_in = k.1; from = omega arith; to = m }))
        go (no l) (no m) = inr (omega arith)

    -- another pixel of the pane keeps its value
    made_other : (x y : ℕ) → x < u.width → y < u.height → (x ≢ c.x) ⊎ (y ≢ c.y) → field_at made (place_bit u x y) u.bits
        ≡ field_at s (place_bit u x y) u.bits
    unfolding at place_bit
    made_other x y h k o =
        field_bits made s (place_bit u x y) u.bits (in_byte u.base u.words u.bits f.depth _ _) λ j l. made_keeps (place_bit u x y + j)
        (side j l far)
      where
        m : (c.x < u.width) × (c.y < u.height)
        m = inside_true u c.x c.y e

        shift : (x ≢ c.x) ⊎ (y ≢ c.y) → (u.left + x ≢ u.left + c.x) ⊎ (u.top + y ≢ u.top + c.y)
        shift (inl n) = inl (omega arith)
        shift (inr n) = inr (omega arith)

        far : (place_bit u x y + u.bits ≤ at) ⊎ (at + u.bits ≤ place_bit u x y)
        far = apart u.base u.words u.bits f.depth (u.left + u.width) f.right _ _ _ _ (omega arith) (omega (arith, m.0)) (shift o)

        side : (j : ℕ) → j < u.bits → (place_bit u x y + u.bits ≤ at) ⊎ (at + u.bits ≤ place_bit u x y) → (place_bit u x y + j < at)
            ⊎ (at + u.bits ≤ place_bit u x y + j)
        side j l (inl n) = inl (omega arith)
        side j l (inr n) = inr (omega arith)

  unmade : inside u c.x c.y ≡ false → change u c s ≡ s
  unfolding change
  unmade e = cond_false _ _ e

  pub change_frame : Framed u s (change u c s)
  change_frame = split (inside u c.x c.y)
      (λ e. subst (Framed u s) (sym (change_made e)) (record { length = length_made e; bits = λ n h. made_keeps e n (beside e n h) }))
      (λ e. subst (Framed u s) (sym (unmade e)) (record { length = refl; bits = λ n h. refl }))

-- what a change makes of what the pane shows
pub redraw : Surface → Change → (ℕ → ℕ → ℕ) → ℕ → ℕ → ℕ
redraw u c pixel_of x y =
    cond (inside u c.x c.y) (cond (◌&&◌ (eqb x c.x) (eqb y c.y)) (num u.bits (bit (c.new (pixel_of c.x c.y)))) (pixel_of x y)) (pixel_of x y)

pub pixels_change : (u : Surface) (c : Change) (s : List ℕ) → Fits u s → pixels u (change u c s) ≡ redraw u c (pixels u s)
unfolding redraw at
pixels_change u c s f = fun_ext λ x. fun_ext λ y. split (inside u c.x c.y)
    (λ e. ap (λ t. pixels u t x y) (change_made u c s f e) ∙ drawn e x y ∙ sym (cond_true _ _ e))
    (λ e. ap (λ t. pixels u t x y) (unmade u c s f e) ∙ sym (cond_false _ _ e))
  where
    m : List ℕ
    m = made u c s f

    v : ℕ
    v = num u.bits (bit (c.new (pixels u s c.x c.y)))

    unequal : (x y : ℕ) → ◌&&◌ (eqb x c.x) (eqb y c.y) ≡ false → (x ≢ c.x) ⊎ (y ≢ c.y)
    unequal x y d = go (eqb x c.x) refl
      where
        go : (t : Bool) → eqb x c.x ≡ t → (x ≢ c.x) ⊎ (y ≢ c.y)
        go true u = inr (eqb-false y c.y (sym (ap (λ t. ◌&&◌ t (eqb y c.y)) u) ∙ d))
        go false u = inl (eqb-false x c.x u)

    drawn : inside u c.x c.y ≡ true → (x y : ℕ) → pixels u m x y ≡ cond (◌&&◌ (eqb x c.x) (eqb y c.y)) v (pixels u s x y)
    drawn e x y = split (◌&&◌ (eqb x c.x) (eqb y c.y)) here there
      where
        here : ◌&&◌ (eqb x c.x) (eqb y c.y) ≡ true → pixels u m x y ≡ cond (◌&&◌ (eqb x c.x) (eqb y c.y)) v (pixels u s x y)
        here d =
            let k = both_true _ _ d in
            ap₂ (pixels u m) (eqb-true x c.x k.0) (eqb-true y c.y k.1) ∙ pixels_in u m c.x c.y e ∙ made_field u c s f e
            ∙ sym (cond_true _ _ d)

        there : ◌&&◌ (eqb x c.x) (eqb y c.y) ≡ false → pixels u m x y ≡ cond (◌&&◌ (eqb x c.x) (eqb y c.y)) v (pixels u s x y)
        there d = split (inside u x y)
            (λ i. let k = inside_true u x y i in pixels_in u m x y i ∙ made_other u c s f e x y k.0 k.1 (unequal x y d) ∙ sym (pixels_in u s x y i))
            (λ i. pixels_out u m x y i ∙ sym (pixels_out u s x y i))
            ∙ sym (cond_false _ _ d)

-- and so for a list of them
pub fits_framed : (u : Surface) (s t : List ℕ) → length t ≡ length s → Fits u s → Fits u t
fits_framed u s t e f = record { depth = f.depth; right = f.right; long = omega (arith, f.long) }

pub framed_refl : (u : Surface) (s : List ℕ) → Framed u s s
framed_refl u s = record { length = refl; bits = λ n h. refl }

pub framed_trans : (u : Surface) (s t v : List ℕ) → Framed u s t → Framed u t v → Framed u s v
framed_trans u s t v a b = record { length = b.length ∙ a.length; bits = λ n h. b.bits n h ∙ a.bits n h }

pub changes_frame : (u : Surface) (cs : List Change) (s : List ℕ) → Fits u s → Framed u s (changes u cs s)
unfolding changes
changes_frame u [] s f = framed_refl u s
changes_frame u (c ∷ cs) s f =
    let a = change_frame u c s f in
    framed_trans u s (change u c s) _ a (changes_frame u cs (change u c s) (fits_framed u s _ a.length f))

pub changes_agree : (u : Surface) (cs : List Change) (s t : List ℕ) → Fits u s → Fits u t
    → pixels u s ≡ pixels u t → pixels u (changes u cs s) ≡ pixels u (changes u cs t)
unfolding changes
changes_agree u [] s t f h e = e
changes_agree u (c ∷ cs) s t f h e =
    changes_agree u cs (change u c s) (change u c t)
    (fits_framed u s _ (change_frame u c s f).length f) (fits_framed u t _ (change_frame u c t h).length h)
    (pixels_change u c s f ∙ ap (redraw u c) e ∙ sym (pixels_change u c t h))
