-- CIRCLE's points (02, A.1): "these are all such points and no others", and each is there once.
use mathlib.Core.Path.{◌≡◌, refl, sym, ap, ◌∙◌}
use mathlib.Core.Logic.{◌⊎◌, inl, inr, ⊎_elim, ∥∥₁_elim}
use mathlib.Core.HLevel.{⊥_prop}
use mathlib.Core.Bool.{true, false, ◌&&◌, false≢true}
use mathlib.Core.List.Memᴰ
use mathlib.Core.List.{List, [], ◌∷◌, ◌++◌, Memᴰ}
use mathlib.Core.List.{Nodup, Nodup-nil, Nodup-cons, Pairwise-singleton}
use Prim.Native.Nat.{ℕ, zero, suc, ◌+◌, ◌-◌, ◌*◌, ◌≤◌, ◌<◌}
use native.Mathlib.Nat.{le_of_lt, max-eq_left, max-eq_right, mul-le-mul}
use native.Mathlib.Omega.{arith, min_cases}
use native.Mathlib.Decide.{ℕ_discrete, dec_le}
use lib.Dec.{leb, eqb-suc-zero}
use lib.IntN.{ℤ, pos, negsuc, nat_abs}
use borrow.Author.Tests.{ltb-true, leb-true, le-leb, eqb-true}
use Rattle.model.specs.Ranges.{joined}
use Rattle.model.specs.Coordinates.{Place, at, same_place}
use Rattle.model.specs.Lines.{major, minor, visited, once}
use Rattle.model.specs.Circles.{on_circle, mirrored, reflections, reflections_on, circle_points, circle_point, CirclePoints}
use Rattle.model.proofs.Decisions.{split, both_true, both_of, either_false}
use Rattle.model.proofs.OutlineLaws.{same_true, same_refl, abs_neg, or_none, or_left, once_skip, once_take}

-- ## A list with each place once

pub same_place_lem : (p q : Place) → same_place p q ≡ true → p ≡ q
same_place_lem p q e = let h = both_true _ _ e in λ i. at (same_true p.x q.x h.0 i) (same_true p.y q.y h.1 i)

place_same : (p : Place) → same_place p p ≡ true
place_same p = both_of (same_refl p.x) (same_refl p.y)

-- the first of a list is left if it was not seen
module _ (p : Place) (seen l : List Place) where
  once_cases : {q : Place} → Memᴰ q (once seen (p ∷ l)) → ((visited p seen ≡ false) × (q ≡ p)) ⊎ Memᴰ q (once (p ∷ seen) l)
  once_cases m = split (visited p seen)
      (λ e. inr (rw (once_skip p l seen e) at m))
      (λ e. ⊎_elim (λ h. inl (e, h)) inr (Memᴰ.cases_cons (rw (once_take p l seen e) at m)))

  once_head : visited p seen ≡ false → Memᴰ p (once seen (p ∷ l))
  once_head e = rw (once_take p l seen e) (Memᴰ.head refl)

  once_tail : {q : Place} → Memᴰ q (once (p ∷ seen) l) → Memᴰ q (once seen (p ∷ l))
  once_tail m = split (visited p seen) (λ e. rw (once_skip p l seen e) m) (λ e. rw (once_take p l seen e) (Memᴰ.tail m))

-- what is left of a list was in it, ..
once_member : {q : Place} (seen l : List Place) → Memᴰ q (once seen l) → Memᴰ q l
unfolding once
once_member seen [] m = m
once_member seen (p ∷ l) m = ⊎_elim (λ h. Memᴰ.head h.1) (λ t. Memᴰ.tail (once_member (p ∷ seen) l t)) (once_cases p seen l m)

-- .. and is none of those seen
once_unseen : (q : Place) (seen l : List Place) → Memᴰ q (once seen l) → visited q seen ≡ false
unfolding once visited
once_unseen q seen [] m = absurd (Memᴰ.not-nil m)
once_unseen q seen (p ∷ l) m =
    ⊎_elim (λ h. rw h.1 h.0) (λ t. (either_false (same_place q p) (visited q seen) (once_unseen q (p ∷ seen) l t)).1) (once_cases p seen l m)

-- a place of the list that was not seen is left
once_kept : (q : Place) (seen l : List Place) → Memᴰ q l → visited q seen ≡ false → Memᴰ q (once seen l)
unfolding visited
once_kept q seen [] m e = absurd (Memᴰ.not-nil m)
once_kept q seen (p ∷ l) m e = ⊎_elim here
    (λ t. split (same_place q p) (λ s. here (same_place_lem q p s))
    (λ s. once_tail p seen l (once_kept q (p ∷ seen) l t (or_none (same_place q p) (visited q seen) s e))))
    (Memᴰ.cases_cons m)
  where
    here : q ≡ p → Memᴰ q (once seen (p ∷ l))
    here h = Memᴰ.cast h (once_head p seen l (rw h at e))

once_single : (seen l : List Place) → Nodup (once seen l)
unfolding once visited
once_single seen [] = Nodup-nil
once_single seen (p ∷ l) = split (visited p seen)
    (λ e. rw (once_skip p l seen e) (once_single (p ∷ seen) l))
    (λ e. rw (once_take p l seen e) (Nodup-cons.1 (λ m. ∥∥₁_elim m ⊥_prop absent, once_single (p ∷ seen) l)))
  where
    absent : Memᴰ p (once (p ∷ seen) l) → ⊥
    absent m = false≢true (sym (once_unseen p (p ∷ seen) l m) ∙ or_left (same_place p p) (visited p seen) (place_same p))

-- ## Lists joined

joined_member : {A : Type 0} {a : A} (n i k : ℕ) (f : ℕ → List A) → i ≤ k → k < i + n → Memᴰ a (f k) → Memᴰ a (joined i n f)
unfolding joined
joined_member zero i k f h l m = absurd (omega arith)
joined_member {a = a} (suc n) i k f h l m = go (ℕ_discrete i k) (λ g. joined_member n (suc i) k f g (omega arith) m)
  where
    go : Dec (i ≡ k) → (suc i ≤ k → Memᴰ a (joined (suc i) n f)) → Memᴰ a (f i ++ joined (suc i) n f)
    go (yes e) g = Memᴰ.append_left {s = f i} _ (rw e m)
    go (no e) g = Memᴰ.append_right (f i) (g (omega arith))

pub joined_from : {A : Type 0} {a : A} (n i : ℕ) (f : ℕ → List A) → Memᴰ a (joined i n f) → (k : ℕ) × Memᴰ a (f k)
unfolding joined
joined_from zero i f m = absurd (Memᴰ.not-nil m)
joined_from (suc n) i f m = ⊎_elim (λ h. (i, h)) (joined_from n (suc i) f) (Memᴰ.append_cases (f i) m)

-- ## Reflections

-- (x,y) is (|x|,|y|) mirrored, ..
mirrored_self : (x y : ℤ) → Memᴰ (at x y) (mirrored (nat_abs x) (nat_abs y))
mirrored_self (pos m) (pos n) = Memᴰ.head refl
mirrored_self (negsuc m) (pos n) = Memᴰ.tail (Memᴰ.head refl)
mirrored_self (pos m) (negsuc n) = Memᴰ.tail (Memᴰ.tail (Memᴰ.head refl))
mirrored_self (negsuc m) (negsuc n) = Memᴰ.tail (Memᴰ.tail (Memᴰ.tail (Memᴰ.head refl)))

-- .. and of no other (i,j)
mirrored_from : {q : Place} (i j : ℕ) → Memᴰ q (mirrored i j) → (nat_abs q.x ≡ i) × (nat_abs q.y ≡ j)
mirrored_from i j (Memᴰ.head e) = (rw e refl, rw e refl)
mirrored_from i j (Memᴰ.tail (Memᴰ.head e)) = (rw e (abs_neg (pos i)), rw e refl)
mirrored_from i j (Memᴰ.tail (Memᴰ.tail (Memᴰ.head e))) = (rw e refl, rw e (abs_neg (pos j)))
mirrored_from i j (Memᴰ.tail (Memᴰ.tail (Memᴰ.tail (Memᴰ.head e)))) = (rw e (abs_neg (pos i)), rw e (abs_neg (pos j)))
mirrored_from i j (Memᴰ.tail (Memᴰ.tail (Memᴰ.tail (Memᴰ.tail m)))) = absurd (Memᴰ.not-nil m)

-- (x,y) is a reflection of the smaller and the larger of |x| and |y|, ..
reflections_self : (x y : ℤ) → Memᴰ (at x y) (reflections (minor x y) (major x y))
unfolding reflections
reflections_self x y = min_cases (nat_abs x) (nat_abs y) _
    (λ h e. rw (e, max-eq_right h) (Memᴰ.append_left _ (mirrored_self x y)))
    (λ h e. rw (e, max-eq_left h) (Memᴰ.append_right (mirrored (nat_abs y) (nat_abs x)) (mirrored_self x y)))

-- .. and of no other (i,j) with i ≤ j
pub reflections_from : (x y : ℤ) (i j : ℕ) → i ≤ j → Memᴰ (at x y) (reflections i j) → (minor x y ≡ i) × (major x y ≡ j)
unfolding reflections
reflections_from x y i j h m = ⊎_elim (λ l. let e = mirrored_from i j l in omega arith) (λ r. let e = mirrored_from j i r in omega arith)
    (Memᴰ.append_cases (mirrored i j) m)

-- ## The points of a radius

-- "j × (j−1) < r² − i²" keeps j from passing r
pub on_bounded : (r i j : ℕ) → on_circle r i j ≡ true → j ≤ r
on_bounded r i j e = go (dec_le j r)
  where
    go : Dec (j ≤ r) → j ≤ r
    go (yes h) = h
    go (no n) = let h : r < j = omega arith in let m : r ≤ j - 1 = omega arith in
        absurd (omega (arith, mul-le-mul (le_of_lt h) m, ltb-true (j * (j - 1) + i * i) (r * r) (both_true _ _ e).0))

on_member : {q : Place} (r i j : ℕ) → i ≤ j → on_circle r i j ≡ true → Memᴰ q (reflections i j) → Memᴰ q (reflections_on r i j)
unfolding reflections_on
on_member r i j h e m = rw (both_of (le-leb i j h) e) m

pub on_from : {q : Place} (r i j : ℕ) → Memᴰ q (reflections_on r i j) → (i ≤ j) × (on_circle r i j ≡ true) × Memᴰ q (reflections i j)
unfolding reflections_on
on_from r i j m = split (leb i j && on_circle r i j)
    (λ e. let h = both_true (leb i j) (on_circle r i j) e in (leb-true i j h.0, h.1, rw e at m))
    (λ e. absurd (Memᴰ.not-nil (rw e at m)))

-- all reflections with the condition, each as often as it comes
unfoldable candidates : ℕ → List Place
candidates r = joined 0 (suc r) (λ i. joined 0 (suc r) (λ j. reflections_on r i j))

candidates_all : (r : ℕ) (x y : ℤ) → on_circle r (minor x y) (major x y) ≡ true → Memᴰ (at x y) (candidates r)
unfolding candidates
candidates_all r x y e = let i = minor x y in let j = major x y in
    let h : i ≤ j = omega arith in let b = on_bounded r i j e in
    joined_member (suc r) 0 i _ (omega arith) (omega arith)
    (joined_member (suc r) 0 j _ (omega arith) (omega arith) (on_member r i j h e (reflections_self x y)))

candidates_only : (r : ℕ) (x y : ℤ) → Memᴰ (at x y) (candidates r) → on_circle r (minor x y) (major x y) ≡ true
unfolding candidates
candidates_only r x y m = let (i, a) = joined_from (suc r) 0 _ m in let (j, b) = joined_from (suc r) 0 _ a in
    let (h, e, d) = on_from r i j b in let f = reflections_from x y i j h d in rw (f.0, f.1) e

-- ## What is shown of them

-- "r = 0 is the centre alone"
centre : CirclePoints 0
unfolding circle_points circle_point
centre = record {
  all = λ x y e. let h = both_true _ _ e in
      Memᴰ.head (λ i. at (abs_zero x (eqb-true (nat_abs x) 0 h.0) i) (abs_zero y (eqb-true (nat_abs y) 0 h.1) i));
  only = λ x y m. rw (ap (λ (q : Place). q.x) (Memᴰ.eq_of_singleton m), ap (λ (q : Place). q.y) (Memᴰ.eq_of_singleton m)) refl;
  single = Pairwise-singleton _ _;
}
  where
    abs_zero : (z : ℤ) → nat_abs z ≡ 0 → z ≡ pos 0
    abs_zero (pos n) e = ap pos e
    abs_zero (negsuc n) e = absurd (omega arith)

pub circle_points_lem : (r : ℕ) → CirclePoints r
unfolding circle_points circle_point candidates visited
circle_points_lem zero = centre
circle_points_lem (suc r) =
    record {
      all = λ x y e. rw (eqb-suc-zero r) (once_kept (at x y) [] (candidates (suc r)) (candidates_all (suc r) x y (rw (eqb-suc-zero r) at e)) refl);
      only = λ x y m. rw (eqb-suc-zero r) (candidates_only (suc r) x y (once_member [] (candidates (suc r)) (rw (eqb-suc-zero r) at m)));
      single = rw (eqb-suc-zero r) (once_single [] (candidates (suc r)));
    }
