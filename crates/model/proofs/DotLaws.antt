-- Lists of places and of dots: how many are kept, lists cut at their last or in the middle, as a loop over them needs it, lists of what is equal;
-- and places in bitmap and clip.
use mathlib.Core.Path.{◌≡◌, refl, sym, ap, ap₂, ◌∙◌}
use mathlib.Core.Logic.{◌⊎◌, inl, inr}
use mathlib.Core.Bool.{Bool, true, false, ◌&&◌}
use mathlib.Core.List.{List, [], ◌∷◌, ◌++◌}
use Prim.Native.Nat.{ℕ, zero, suc, ◌+◌, ◌≤◌, ◌<◌}
use native.Mathlib.Omega.{arith}
use borrow.Author.Tests.{leb-true, lt-ltb, lt-leb, ltb-true}
use lib.Dec.{leb, ltb}
use lib.IntN.{ℤ, pos, negsuc}
use lib.ListN.{length}
use Rattle.model.specs.Words.{digit}
use Rattle.model.specs.Ranges.{listed, joined}
use Rattle.model.specs.Coordinates.{Place, between}
use Rattle.model.specs.Bitmaps.{Surface}
use Rattle.model.specs.Scissor.{clip_empty}
use Rattle.model.specs.Pixels.{Pen, pattern_source}
use Rattle.model.specs.Dots.{Clip, Dot, dot, below, lies, keep}
use Rattle.model.specs.Lines.{patterned}
use Rattle.model.proofs.Decisions.{split, holds, both_true, both_of, either_true, and_false, and_left}

-- one more where it is kept
pub length_keep : {A : Type 0} (t : Bool) (a : A) (l : List A) → length (keep t a l) ≡ digit t + length l
length_keep true a l = omega arith
length_keep false a l = omega arith

pub listed_last : {A : Type 0} (n i : ℕ) (f : ℕ → A) → listed i (suc n) f ≡ listed i n f ++ (f (i + n) ∷ [])
unfolding listed
listed_last zero i f = let e : i ≡ i + 0 = omega arith in ap (λ (k : ℕ). f k ∷ []) e
listed_last (suc n) i f = let e : suc i + n ≡ i + suc n = omega arith in
    ap (λ r. f i ∷ r) (listed_last n (suc i) f ∙ ap (λ (k : ℕ). listed (suc i) n f ++ (f k ∷ [])) e)

pub patterned_append : (k : Pen) (i : ℕ) (l m : List Place) → patterned k i (l ++ m) ≡ patterned k i l ++ patterned k (i + length l) m
unfolding patterned
patterned_append k i [] m = let e : i ≡ i + 0 = omega arith in ap (λ (j : ℕ). patterned k j m) e
patterned_append k i (p ∷ l) m = let e : suc i + length l ≡ i + suc (length l) = omega arith in
    ap {B = List Dot} (λ r. dot p (pattern_source k i) ∷ r) (patterned_append k (suc i) l m ∙ ap (λ (j : ℕ). patterned k (suc i) l ++ patterned k j m) e)

-- listed places take the indexes that go on with them
pub patterned_listed : (pen : Pen) (index : ℕ → ℕ) → ((k : ℕ) → index (suc k) ≡ suc (index k)) → (n k : ℕ) (f : ℕ → Place)
    → patterned pen (index k) (listed k n f) ≡ listed k n (λ i. dot (f i) (pattern_source pen (index i)))
unfolding patterned listed
patterned_listed pen index e zero k f = refl
patterned_listed pen index e (suc n) k f =
    ap {B = List Dot} (λ r. dot (f k) (pattern_source pen (index k)) ∷ r)
    (ap (λ (i : ℕ). patterned pen i (listed (suc k) n f)) (sym (e k)) ∙ patterned_listed pen index e n (suc k) f)

-- ## In bitmap and clip

below_clip : (n lo hi : ℕ) (z : ℤ) → hi < n → between lo hi z ≡ true → below n z ≡ true
below_clip n lo hi (pos k) h e = let l = leb-true k hi (both_true (leb lo k) (leb k hi) e).1 in lt-ltb k n (omega arith)
below_clip n lo hi (negsuc k) h e = absurd (holds e)

-- tests that follow from others
implied : (s t x y : Bool) → (x ≡ true → s ≡ true) → (y ≡ true → t ≡ true) → (s && (t && (x && y))) ≡ (x && y)
implied s t true true f g = both_of (f refl) (both_of (g refl) refl)
implied s t true false f g = and_false s _ (and_false t false refl)
implied s t false y f g = and_false s _ (and_false t false refl)

-- where the clip lies in the bitmap, a place lies in both if its column and its row lie in the clip
pub lies_clip : (u : Surface) (c : Clip) → c.xmax < u.width → c.ymax < u.height → (p : Place)
    → lies u c p ≡ (between c.xmin c.xmax p.x && between c.ymin c.ymax p.y)
lies_clip u c wide high p = implied (below u.width p.x) (below u.height p.y) _ _
    (below_clip u.width c.xmin c.xmax p.x wide) (below_clip u.height c.ymin c.ymax p.y high)

-- no place lies in a clip with a maximum below its minimum
between_none : (lo hi : ℕ) (z : ℤ) → hi < lo → between lo hi z ≡ false
between_none lo hi (pos k) h = split (leb lo k)
    (λ e. let l = leb-true lo k e in and_false (leb lo k) _ (lt-leb k hi (omega arith)))
    (λ e. and_left (leb lo k) _ e)
between_none lo hi (negsuc k) h = refl

pub lies_empty : (u : Surface) (c : Clip) (p : Place) → clip_empty c ≡ true → lies u c p ≡ false
lies_empty u c p e =
    and_false (below u.width p.x) _ (and_false (below u.height p.y) _ (either (either_true (ltb c.xmax c.xmin) _ e)))
  where
    either : (ltb c.xmax c.xmin ≡ true) ⊎ (ltb c.ymax c.ymin ≡ true)
        → (between c.xmin c.xmax p.x && between c.ymin c.ymax p.y) ≡ false
    either (inl h) = and_left (between c.xmin c.xmax p.x) _ (between_none c.xmin c.xmax p.x (ltb-true c.xmax c.xmin h))
    either (inr h) = and_false (between c.xmin c.xmax p.x) _ (between_none c.ymin c.ymax p.y (ltb-true c.ymax c.ymin h))

-- ## Lists of what is equal

pub listed_cong : {A : Type 0} (i n : ℕ) (f g : ℕ → A) → ((k : ℕ) → i ≤ k → k < i + n → f k ≡ g k) → listed i n f ≡ listed i n g
unfolding listed
listed_cong i zero f g h = refl
listed_cong {A} i (suc n) f g h =
    ap₂ {C = List A} (λ x xs. x ∷ xs) (h i (omega arith) (omega arith)) (listed_cong (suc i) n f g (λ k l m. h k (omega arith) (omega arith)))

pub joined_cong : {A : Type 0} (i n : ℕ) (f g : ℕ → List A) → ((k : ℕ) → i ≤ k → k < i + n → f k ≡ g k) → joined i n f ≡ joined i n g
unfolding joined
joined_cong i zero f g h = refl
joined_cong {A} i (suc n) f g h =
    ap₂ (λ (x y : List A). x ++ y) (h i (omega arith) (omega arith)) (joined_cong (suc i) n f g (λ k l m. h k (omega arith) (omega arith)))
