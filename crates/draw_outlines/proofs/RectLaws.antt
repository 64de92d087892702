-- RECT's dots by their numbers: the four sides, one after the other, are one list of places, which take one pattern index after the other.
use mathlib.Core.Path.{◌≡◌, refl, sym, ap, ap₂, ◌∙◌}
use mathlib.Core.Bool.{Bool, true, false, cond, ◌||◌}
use mathlib.Core.List.{List, [], ◌∷◌, ◌++◌, append-nil}
use Prim.Native.Nat.{ℕ, zero, suc, ◌+◌, ◌-◌, ◌<◌}
use native.Mathlib.Omega.{arith}
use lib.Dec.{eqb}
use lib.IntN.{ℤ, nat_abs}
use Rattle.model.specs.Ranges.{listed}
use Rattle.model.specs.Coordinates.{Place, place}
use Rattle.model.specs.declared.Point.{Point}
use Rattle.model.specs.declared.Pen.{Pen}
use Rattle.model.specs.declared.Source.{Source}
use Rattle.model.specs.Pixels.{pattern_source}
use Rattle.model.specs.Dots.{dot}
use Rattle.model.specs.Lines.{patterned, rectangle}
use Rattle.model.proofs.OutlineLaws.{once_sides}
use Rattle.model.proofs.DotLaws.{patterned_listed}
use Rattle.coordinates.proofs.SignedLaws.{sign_as_directed}
use Rattle.canvas.specs.declared.Course.{Course}
use Rattle.canvas.specs.declared.Offset.{Offset}
use Rattle.canvas.specs.Targets.{course_of, place_on}
use Rattle.draw_outlines.specs.declared.Outline.{Outline}
use Rattle.draw_outlines.specs.Outlines.{outline_length, offset_by, outline_at, outline_dot}

-- ## Lists by numbers

-- n of one list and then the rest, where they are the elements of another from s on
pub listed_part : {A : Type 0} (n m s i : ℕ) (f g : ℕ → A) (rest : List A) → ((k : ℕ) → k < n → f (i + k) ≡ g (s + k)) → rest ≡ listed (s + n) m g
    → listed i n f ++ rest ≡ listed s (n + m) g
unfolding listed
listed_part zero m s i f g rest h e =
    let es : s + 0 ≡ s = omega arith in
    let em : m ≡ 0 + m = omega arith in
    e ∙ ap₂ (λ (j l : ℕ). listed j l g) es em
listed_part {A} (suc n) m s i f g rest h e =
    let ei : i + 0 ≡ i = omega arith in
    let es : s + 0 ≡ s = omega arith in
    let en : s + suc n ≡ suc s + n = omega arith in
    let em : suc (n + m) ≡ suc n + m = omega arith in
    ap₂ {C = List A} (λ x xs. x ∷ xs) (rw (ei, es) at (h 0 (omega arith)))
    (listed_part n m (suc s) (suc i) f g rest
    (λ k l.
    let fi : i + suc k ≡ suc i + k = omega arith in
    let fs : s + suc k ≡ suc s + k = omega arith in
    rw (fi, fs) at (h (suc k) (omega arith)))
    (rw en at e))
    ∙ ap (λ (l : ℕ). listed s l g) em

-- no places or the listed ones are the first none or all of them
listed_none : {A : Type 0} (t : Bool) (i n : ℕ) (f : ℕ → A) → cond t [] (listed i n f) ≡ listed i (cond t 0 n) f
unfolding listed
listed_none true i n f = refl
listed_none false i n f = refl

-- ## The outline

-- how many new pixels the last two sides have
back : ℕ → ℕ → ℕ
back a b = cond (eqb b 0) 0 a

down : ℕ → ℕ → ℕ
down a b = cond (eqb a 0 || eqb b 0) 0 (b - 1)

back_lt : (a b k : ℕ) → k < back a b → k < a
unfolding back
back_lt a b k h = grind arith

down_lt : (a b k : ℕ) → k < down a b → (k < b - 1) × (back a b ≡ a)
unfolding back down
down_lt a b k h = grind arith

sides_length : (a b : ℕ) → suc a + (b + (back a b + (down a b + 0))) ≡ outline_length a b
unfolding back down
sides_length a b = grind arith

-- which offset pixel i has, k being its number on its side
module _ (a b i k : ℕ) where
  side1 : i ≡ k → k < suc a → offset_by k 0 ≡ outline_at a b i
  side1 e h = grind arith

  side2 : i ≡ suc a + k → k < b → offset_by a (1 + k) ≡ outline_at a b i
  side2 e h = grind arith

  side3 : i ≡ suc a + b + k → k < a → offset_by (a - (1 + k)) b ≡ outline_at a b i
  side3 e h = grind arith

  side4 : i ≡ suc a + b + a + k → k < b - 1 → offset_by 0 (b - (1 + k)) ≡ outline_at a b i
  side4 e h = grind arith

-- i along x and j along y on the course
abbrev spot : Course → ℕ → ℕ → Place
spot c i j = place_on c (offset_by i j)

-- the four sides are the outline
outline_places : (c : Course) (a b : ℕ)
    → listed 0 (suc a) (λ i. spot c i 0)
    ++ (listed 1 b (λ j. spot c a j)
    ++ (listed 1 (back a b) (λ i. spot c (a - i) b)
    ++ listed 1 (down a b) (λ j. spot c 0 (b - j))))
    ≡ listed 0 (outline_length a b) (λ i. place_on c (outline_at a b i))
unfolding listed
outline_places c a b =
    listed_part (suc a) (b + (back a b + (down a b + 0))) 0 0 (λ i. spot c i 0) g _
    (λ k l. ap (place_on c) (side1 a b (0 + k) (0 + k) refl (omega arith)))
    (listed_part b (back a b + (down a b + 0)) (0 + suc a) 1 (λ j. spot c a j) g _
    (λ k l. ap (place_on c) (side2 a b (0 + suc a + k) k (omega arith) l))
    (listed_part (back a b) (down a b + 0) (0 + suc a + b) 1 (λ i. spot c (a - i) b) g _
    (λ k l. ap (place_on c) (side3 a b (0 + suc a + b + k) k (omega arith) (back_lt a b k l)))
    (sym (append-nil _)
    ∙ listed_part (down a b) 0 (0 + suc a + b + back a b) 1 (λ j. spot c 0 (b - j)) g []
    (λ k l. let w = down_lt a b k l in ap (place_on c) (side4 a b (0 + suc a + b + back a b + k) k (omega arith) w.0)) refl)))
    ∙ ap (λ (n : ℕ). listed 0 n g) (sides_length a b)
  where
    g : ℕ → Place
    g i = place_on c (outline_at a b i)

-- ## RECT

-- a dot drawn where pixel i lies
pub outline_dot_drawn : (pen : Pen) (o : Outline) (i : ℕ) {p : Offset} {source : Source} → p ≡ outline_at o.a o.b i → source ≡ pattern_source pen i
    → dot (place_on o.course p) source ≡ outline_dot pen o i
unfolding outline_dot
outline_dot_drawn pen o i e s = ap₂ (λ (p : Offset) (q : Source). dot (place_on o.course p) q) e s

-- RECT's dots by their numbers
pub rectangle_dots : (pen : Pen) (from : Point) (dx dy : ℤ) {course : Course} {a b : ℕ}
    → course ≡ course_of from dx dy → a ≡ nat_abs dx → b ≡ nat_abs dy
    → (rectangle pen from dx dy).dots ≡ listed 0 (outline_length a b) (outline_dot pen (record { course = course; a = a; b = b }))
unfolding rectangle outline_dot back down
rectangle_dots pen from dx dy {a = a} {b = b} e ea eb =
    ap (patterned pen 0)
    (once_sides (place from) dx dy ∙ (simp (ea, eb, sign_as_directed dx, sign_as_directed dy, listed_none))
    ∙ outline_places (course_of from dx dy) a b)
    ∙ patterned_listed pen (λ k. k) (λ k. refl) (outline_length a b) 0 (λ i. place_on (course_of from dx dy) (outline_at a b i))
    ∙ ap (λ (c : Course). listed 0 (outline_length a b) (outline_dot pen (record { course = c; a = a; b = b }))) (sym e)
