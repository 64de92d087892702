-- CIRCLE's points in the order of a walk: for i upward at most one j passes, so the points are columns, a column being the reflections of one
-- (i,j) or nothing.
use mathlib.Core.Path.{◌≡◌, refl, ap, ap₂, ◌∙◌}
use mathlib.Core.Logic.{◌≢◌, ◌⊎◌, inl, inr, ⊎_elim}
use mathlib.Core.Bool.{Bool, true, false, cond, ◌&&◌, ◌||◌}
use mathlib.Core.List.Memᴰ
use mathlib.Core.List.{List, [], ◌∷◌, ◌++◌, append-nil, map, map-append, Memᴰ}
use Prim.Native.Nat.{ℕ, zero, suc, ◌+◌, ◌-◌, ◌*◌, ◌≤◌, ◌<◌}
use native.Mathlib.Nat.{mul-le-mul, mul_comm}
use native.Mathlib.Omega.{arith}
use native.Mathlib.Decide.{ℕ_discrete}
use borrow.Author.Tests.{ltb-true, leb-true, ltb-false, lt-ltb, le-leb, ne_eqb}
use lib.Dec.{ltb, leb}
use lib.ListN.{length, length-append, length-map}
use Rattle.model.specs.Ranges.{joined}
use Rattle.model.specs.Coordinates.{Place, Point, same_place, place}
use Rattle.model.specs.Pixels.{Pen}
use Rattle.model.specs.Dots.{Dot, keep}
use Rattle.model.specs.Lines.{major, minor, visited, once}
use Rattle.model.specs.Circles.{on_circle, mirrored, reflections, reflections_on, circle_points, circle_dot, circle}
use Rattle.model.proofs.Decisions.{split, holds, both_true, both_of, either_true, cond_true, cond_ind}
use Rattle.model.proofs.OutlineLaws.{passed, once_append, once_length}
use Rattle.model.proofs.CirclePointLaws.{same_place_lem, joined_from, reflections_from, on_bounded, on_from}

-- ## Lists one after the other

joined_none : {A : Type 0} (n i : ℕ) (f : ℕ → List A) → ((k : ℕ) → i ≤ k → f k ≡ []) → joined i n f ≡ []
unfolding joined
joined_none zero i f h = refl
joined_none (suc n) i f h = rw (h i (omega arith)) (joined_none n (suc i) f (λ k l. h k (omega arith)))

-- only one of them is not empty
joined_one : {A : Type 0} (n i k : ℕ) (f : ℕ → List A) → i ≤ k → k < i + n → ((j : ℕ) → j ≢ k → f j ≡ []) → joined i n f ≡ f k
unfolding joined
joined_one zero i k f l h e = absurd (omega arith)
joined_one (suc n) i k f l h e = go (ℕ_discrete i k) (λ m. joined_one n (suc i) k f m (omega arith) e)
  where
    go : Dec (i ≡ k) → (suc i ≤ k → joined (suc i) n f ≡ f k) → f i ++ joined (suc i) n f ≡ f k
    go (yes m) rest = rw (joined_none n (suc i) f (λ j b. e j (omega arith))) (append-nil (f i) ∙ ap f m)
    go (no m) rest = rw (e i m) (rest (omega arith))

-- the last of them are empty
pub joined_rest : {A : Type 0} (n i m : ℕ) (f : ℕ → List A) → n ≤ m → ((k : ℕ) → i + n ≤ k → f k ≡ []) → joined i m f ≡ joined i n f
unfolding joined
joined_rest zero i m f l h = joined_none m i f (λ k b. h k (omega arith))
joined_rest (suc n) i zero f l h = absurd (omega arith)
joined_rest (suc n) i (suc m) f l h = ap (λ r. f i ++ r) (joined_rest n (suc i) m f (omega arith) (λ k b. h k (omega arith)))

joined_map : {A B : Type 0} (g : A → B) (n i : ℕ) (f : ℕ → List A) → map g (joined i n f) ≡ joined i n (λ k. map g (f k))
unfolding joined
joined_map g zero i f = refl
joined_map g (suc n) i f = map-append g (f i) (joined (suc i) n f) ∙ ap (λ r. map g (f i) ++ r) (joined_map g n (suc i) f)

-- ## Each place once

visited_member : (q : Place) (l : List Place) → visited q l ≡ true → Memᴰ q l
unfolding visited
visited_member q [] e = absurd (holds e)
visited_member q (p ∷ l) e =
    ⊎_elim (λ s. Memᴰ.head (same_place_lem q p s)) (λ v. Memᴰ.tail (visited_member q l v)) (either_true (same_place q p) (visited q l) e)

visited_append : (q : Place) (l m : List Place) → visited q (l ++ m) ≡ (visited q l || visited q m)
unfolding visited
visited_append q [] m = refl
visited_append q (p ∷ l) m = go (same_place q p) (visited_append q l m)
  where
    go : (t : Bool) → visited q (l ++ m) ≡ (visited q l || visited q m) → (t || visited q (l ++ m)) ≡ ((t || visited q l) || visited q m)
    go true e = refl
    go false e = e

passed_from : {q : Place} (l seen : List Place) → Memᴰ q (passed l seen) → Memᴰ q l ⊎ Memᴰ q seen
unfolding passed
passed_from [] seen m = inr m
passed_from (p ∷ l) seen m =
    ⊎_elim (λ a. inl (Memᴰ.tail a)) (λ b. ⊎_elim (λ e. inl (Memᴰ.head e)) inr (Memᴰ.cases_cons b)) (passed_from l (p ∷ seen) m)

-- places seen that are not in the list make no difference to it
once_apart : (l t s : List Place) → ((q : Place) → Memᴰ q l → visited q s ≡ false) → once (t ++ s) l ≡ once t l
unfolding once
once_apart [] t s h = refl
once_apart (p ∷ l) t s h =
    ap₂ (λ (b : Bool) (r : List Place). keep (cond b false true) p r)
    (visited_append p t s ∙ or_nothing (visited p t) (visited p s) (h p (Memᴰ.head refl)))
    (once_apart l (p ∷ t) s (λ q m. h q (Memᴰ.tail m)))
  where
    or_nothing : (a b : Bool) → b ≡ false → (a || b) ≡ a
    or_nothing true b e = refl
    or_nothing false b e = e

-- lists whose places have a key that tells the lists apart: no place of one is passed over for one of another
module _ (key : Place → ℕ) (f : ℕ → List Place) (own : (k : ℕ) (q : Place) → Memᴰ q (f k) → key q ≡ k) where
  once_joined : (n i : ℕ) (seen : List Place) → ((q : Place) → Memᴰ q seen → key q < i) → once seen (joined i n f) ≡ joined i n (λ k. once [] (f k))
  unfolding once joined
  once_joined zero i seen h = refl
  once_joined (suc n) i seen h =
      once_append (f i) (joined (suc i) n f) seen
      ∙ ap₂ {C = List Place} ◌++◌
      (once_apart (f i) [] seen (λ q m. split (visited q seen) (λ v. absurd (omega (arith, own i q m, h q (visited_member q seen v)))) (λ v. v)))
      (once_joined n (suc i) (passed (f i) seen)
      (λ q m. ⊎_elim (λ a. omega (arith, own i q a)) (λ b. omega (arith, h q b)) (passed_from (f i) seen m)))

-- ## Columns

-- the points of a column: those of the one j that passes for i
unfoldable pub circle_column : ℕ → ℕ → List Place
circle_column r i = joined 0 (suc r) (λ j. once [] (reflections_on r i j))

-- i and j of a place are the smaller and the larger of |x| and |y|
reflections_on_keys : (r i j : ℕ) (q : Place) → Memᴰ q (reflections_on r i j) → (minor q.x q.y ≡ i) × (major q.x q.y ≡ j)
reflections_on_keys r i j q m = let (l, e, d) = on_from r i j m in reflections_from q.x q.y i j l d

-- places of different (i,j) are different, so each (i,j) has its places once
circle_columns : (r : ℕ) → r ≢ 0 → circle_points r ≡ joined 0 (suc r) (circle_column r)
unfolding circle_points circle_column
circle_columns r n =
    rw (ne_eqb r 0 n)
    (once_joined (λ q. minor q.x q.y) (λ i. joined 0 (suc r) (λ j. reflections_on r i j))
    (λ i q m. let (j, d) = joined_from (suc r) 0 _ m in (reflections_on_keys r i j q d).0) (suc r) 0 []
    (λ q m. absurd (Memᴰ.not-nil m))
    ∙ ap (joined 0 (suc r))
    (λ k i. once_joined (λ q. major q.x q.y) (λ j. reflections_on r i j) (λ j q m. (reflections_on_keys r i j q m).1) (suc r) 0 []
    (λ q m. absurd (Memᴰ.not-nil m)) k))

-- ## For each i at most one j passes

-- "j × (j−1) < r² − i² ≤ j × (j+1)"
pub record On (r i j : ℕ) : Type 0 where
  pub lower : j * (j - 1) + i * i < r * r
  pub upper : r * r ≤ j * (j + 1) + i * i

on_circle_lem : (r i j : ℕ) → on_circle r i j ≡ true → On r i j
on_circle_lem r i j e =
    let s = both_true (ltb (j * (j - 1) + i * i) (r * r)) (leb (r * r) (j * (j + 1) + i * i)) e in
    record { lower = ltb-true _ _ s.0; upper = leb-true _ _ s.1 }

circle_on_lem : {r i j : ℕ} → On r i j → on_circle r i j ≡ true
circle_on_lem o = both_of (lt-ltb _ _ o.lower) (le-leb _ _ o.upper)

-- the intervals of j and of a larger one do not meet
steps_apart : (j k : ℕ) → j < k → j * (j + 1) ≤ k * (k - 1)
steps_apart j k h =
    let l : j * (j + 1) ≤ (k - 1) * k = mul-le-mul (omega arith) (omega arith) in
    rw (mul_comm k (k - 1)) l

on_less : (r i j k : ℕ) → On r i j → On r i k → k ≤ j
on_less r i j k a b = split (ltb j k) (λ e. absurd (omega (arith, a.upper, b.lower, steps_apart j k (ltb-true j k e)))) (ltb-false j k)

-- the reflections drawn for i and k, where j is the one that passes for i
reflections_on_other : (r i j k : ℕ) → On r i j → k ≢ j → once [] (reflections_on r i k) ≡ []
unfolding reflections_on once
reflections_on_other r i j k o n = cond_ind (λ (l : List Place). once [] l ≡ []) (leb i k && on_circle r i k) _ _
    (λ t. let q = on_circle_lem r i k (both_true (leb i k) (on_circle r i k) t).1 in absurd (n (omega (arith, on_less r i j k o q, on_less r i k j q o))))
    (λ t. refl)

-- the column of i, where j passes, and where none does
pub column_on_lem : (r i j : ℕ) → i ≤ j → On r i j → circle_column r i ≡ once [] (reflections i j)
unfolding circle_column reflections_on
column_on_lem r i j l o =
    joined_one (suc r) 0 j _ (omega arith) (omega (arith, on_bounded r i j (circle_on_lem o))) (λ k n. reflections_on_other r i j k o n)
    ∙ ap (once []) (cond_true (reflections i j) [] (both_of (le-leb i j l) (circle_on_lem o)))

-- .. as above and right of a point that is not above the circle
pub column_none : (r i j : ℕ) → j < i → r * r ≤ j * (j + 1) + i * i → circle_column r i ≡ []
unfolding circle_column reflections_on once
column_none r i j l u = joined_none (suc r) 0 _ λ k b. cond_ind (λ (l : List Place). once [] l ≡ []) (leb i k && on_circle r i k) _ _
    (λ t.
    let s = both_true (leb i k) (on_circle r i k) t in
    absurd (omega (arith, (on_circle_lem r i k s.1).lower, steps_apart j k (omega (arith, leb-true i k s.0)))))
    (λ t. refl)

-- ## How many points

reflections_length : (i j : ℕ) → length (once [] (reflections i j)) ≤ 8
unfolding reflections
reflections_length i j = once_length [] (mirrored i j ++ mirrored j i)

-- in the part of a column from k on
part_length : (r i n k : ℕ) → length (joined k n (λ j. once [] (reflections_on r i j))) ≤ 8
unfolding joined reflections_on once
part_length r i zero k = omega arith
part_length r i (suc n) k = cond_ind (λ (l : List Place). length (once [] l ++ joined (suc k) n (λ j. once [] (reflections_on r i j))) ≤ 8)
    (leb i k && on_circle r i k) _ _
    (λ t.
    let o = on_circle_lem r i k (both_true (leb i k) (on_circle r i k) t).1 in
    rw (joined_none n (suc k) (λ j. once [] (reflections_on r i j)) (λ j l. reflections_on_other r i k j o (omega arith)), append-nil (once [] (reflections i k)))
    (reflections_length i k))
    (λ t. part_length r i n (suc k))

columns_length : (r n i : ℕ) → length (joined i n (circle_column r)) ≤ 8 * n
unfolding joined circle_column
columns_length r zero i = omega arith
columns_length r (suc n) i =
    omega (arith, length-append (circle_column r i) (joined (suc i) n (circle_column r)), part_length r i (suc r) 0, columns_length r n (suc i))

-- ## The drawing

-- the dots of a column
unfoldable pub column_dots : Pen → Point → ℕ → ℕ → List Dot
column_dots pen p r i = map (circle_dot pen (place p)) (circle_column r i)

-- no more than eight for each i
pub column_dots_length : (pen : Pen) (p : Point) (r n : ℕ) → length (joined 0 n (column_dots pen p r)) ≤ 8 * n
unfolding column_dots
column_dots_length pen p r n = rw (← joined_map (circle_dot pen (place p)) n 0 (circle_column r), length-map) (columns_length r n 0)

pub circle_dots : (pen : Pen) (p : Point) (r : ℕ) → r ≢ 0 → (circle pen p r).dots ≡ joined 0 (suc r) (column_dots pen p r)
unfolding circle column_dots
circle_dots pen p r n = ap (map (circle_dot pen (place p))) (circle_columns r n) ∙ joined_map (circle_dot pen (place p)) (suc r) 0 (circle_column r)

pub circle_length : (pen : Pen) (p : Point) (r : ℕ) → length (circle pen p r).dots ≤ 8 * suc r
unfolding circle circle_points
circle_length pen p r = go (ℕ_discrete r 0)
  where
    go : Dec (r ≡ 0) → length (circle pen p r).dots ≤ 8 * suc r
    go (yes e) = rw e (omega arith)
    go (no n) = rw (circle_dots pen p r n) (column_dots_length pen p r (suc r))
