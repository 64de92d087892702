-- RECT's outline in closed form: the walk with what was visited passed over is four sides with no corner twice.
use mathlib.Core.Path.{◌≡◌, refl, sym, ap, ap₂, ◌∙◌, subst}
use mathlib.Core.Logic.{◌≢◌, ◌⊎◌, inl, inr}
use mathlib.Core.Bool.{Bool, true, false, cond, ◌||◌}
use mathlib.Core.List.{List, [], ◌∷◌, ◌++◌, append-nil}
use Prim.Native.Nat.{ℕ, zero, suc, ◌+◌, ◌-◌, ◌≤◌, ◌<◌}
use native.Mathlib.Omega.{arith}
use native.Mathlib.Decide.{ℕ_discrete}
use lib.Dec.{T, eqb, eqb-suc-zero, ltb, eqb→eq, eqb_refl, ltb→lt, lt→ltb}
use lib.IntN.{ℤ, pos, negsuc, neg_ℤ, nat_abs, ◌+ℤ◌, ◌-ℤ◌, sub_ℕ, +ℤ_comm, +ℤ_assoc, +ℤ_idr, +ℤ-neg_ℤ_cancel}
use lib.ListN.{length}
use Rattle.model.specs.Ranges.{listed}
use Rattle.model.specs.Coordinates.{Place, at, offset, sign_as, same, same_place}
use Rattle.model.specs.Dots.{keep}
use Rattle.model.specs.Lines.{along_x, along_y, walk, visited, once}
use Rattle.model.proofs.Decisions.{and_false, or_true}
use Rattle.model.proofs.BitLaws.{digit_le}
use Rattle.model.proofs.DotLaws.{length_keep, listed_last, listed_cong}

-- ## A list walked

-- what was seen after a list
unfoldable pub passed : List Place → List Place → List Place
passed [] seen = seen
passed (q ∷ qs) seen = passed qs (q ∷ seen)

keep_append : (t : Bool) (q : Place) (l m : List Place) → keep t q l ++ m ≡ keep t q (l ++ m)
keep_append true q l m = refl
keep_append false q l m = refl

pub once_append : (l m seen : List Place) → once seen (l ++ m) ≡ once seen l ++ once (passed l seen) m
unfolding once passed
once_append [] m seen = refl
once_append (q ∷ l) m seen =
    ap (keep (cond (visited q seen) false true) q) (once_append l m (q ∷ seen)) ∙ sym (keep_append (cond (visited q seen) false true) q _ _)

pub once_length : (seen l : List Place) → length (once seen l) ≤ length l
unfolding once
once_length seen [] = omega arith
once_length seen (p ∷ ps) =
    omega (arith, length_keep kept p (once (p ∷ seen) ps), digit_le kept, once_length (p ∷ seen) ps)
  where
    kept : Bool
    kept = cond (visited p seen) false true

pub once_skip : (q : Place) (l seen : List Place) → visited q seen ≡ true → once seen (q ∷ l) ≡ once (q ∷ seen) l
unfolding once
once_skip q l seen e = rw e refl

pub once_take : (q : Place) (l seen : List Place) → visited q seen ≡ false → once seen (q ∷ l) ≡ q ∷ once (q ∷ seen) l
unfolding once
once_take q l seen e = rw e refl

pub or_left : (s t : Bool) → s ≡ true → (s || t) ≡ true
or_left s t e = rw e refl

pub or_none : (s t : Bool) → s ≡ false → t ≡ false → (s || t) ≡ false
or_none s t e f = rw (e, f) refl

still : (q : Place) (l seen : List Place) → visited q seen ≡ true → visited q (passed l seen) ≡ true
unfolding visited passed
still q [] seen e = e
still q (r ∷ l) seen e = still q l (r ∷ seen) (or_true (same_place q r) (visited q seen) e)

-- among the places of a list made from numbers
among : (n i k : ℕ) (f : ℕ → Place) (q : Place) (seen : List Place) → i ≤ k → k < i + n → same_place q (f k) ≡ true → visited q (passed (listed i n f) seen)
    ≡ true
unfolding visited passed listed
among zero i k f q seen h l e = absurd (omega arith)
among (suc n) i k f q seen h l e = go (ℕ_discrete i k) (λ m. among n (suc i) k f q (f i ∷ seen) m (omega arith) e)
  where
    go : Dec (i ≡ k) → (suc i ≤ k → visited q (passed (listed (suc i) n f) (f i ∷ seen)) ≡ true) → visited q (passed (listed (suc i) n f) (f i ∷ seen)) ≡ true
    go (yes m) g = still q (listed (suc i) n f) (f i ∷ seen) (or_left (same_place q (f i)) (visited q seen) (rw m e))
    go (no m) g = g (omega arith)

-- not among them
apart : (n i : ℕ) (f : ℕ → Place) (q : Place) (seen : List Place) → ((k : ℕ) → i ≤ k → k < i + n → same_place q (f k) ≡ false) → visited q seen ≡ false
    → visited q (passed (listed i n f) seen) ≡ false
unfolding visited passed listed
apart zero i f q seen h e = e
apart (suc n) i f q seen h e =
    apart n (suc i) f q (f i ∷ seen) (λ k l m. h k (omega arith) (omega arith))
    (or_none (same_place q (f i)) (visited q seen) (h i (omega arith) (omega arith)) e)

once_new : (n i : ℕ) (f : ℕ → Place) (seen : List Place) → ((k : ℕ) → i ≤ k → k < i + n → visited (f k) seen ≡ false)
    → ((k l : ℕ) → i ≤ k → k < i + n → i ≤ l → l < k → same_place (f k) (f l) ≡ false) → once seen (listed i n f) ≡ listed i n f
unfolding once listed visited
once_new zero i f seen h g = refl
once_new (suc n) i f seen h g =
    once_take (f i) (listed (suc i) n f) seen (h i (omega arith) (omega arith))
    ∙ ap {B = List Place} (λ r. f i ∷ r)
    (once_new n (suc i) f (f i ∷ seen)
    (λ k l m. or_none (same_place (f k) (f i)) (visited (f k) seen) (g k i (omega arith) (omega arith) (omega arith) (omega arith))
    (h k (omega arith) (omega arith)))
    (λ k l a b c d. g k l (omega arith) (omega arith) (omega arith) d))

once_old : (n i : ℕ) (f : ℕ → Place) (seen : List Place) → ((k : ℕ) → i ≤ k → k < i + n → visited (f k) seen ≡ true) → once seen (listed i n f) ≡ []
unfolding once listed visited
once_old zero i f seen h = refl
once_old (suc n) i f seen h =
    once_skip (f i) (listed (suc i) n f) seen (h i (omega arith) (omega arith))
    ∙ once_old n (suc i) f (f i ∷ seen) (λ k l m. or_true (same_place (f k) (f i)) (visited (f k) seen) (h k (omega arith) (omega arith)))

-- ## Whole numbers

pub same_true : (m n : ℤ) → same m n ≡ true → m ≡ n
same_true (pos m) (pos n) e = ap pos (eqb→eq m n (subst T (sym e) tt))
same_true (pos m) (negsuc n) e = absurd (subst T (sym e) tt)
same_true (negsuc m) (pos n) e = absurd (subst T (sym e) tt)
same_true (negsuc m) (negsuc n) e = ap negsuc (eqb→eq m n (subst T (sym e) tt))

is_true : (t : Bool) → T t → t ≡ true
is_true true h = refl
is_true false h = absurd h

pub same_refl : (z : ℤ) → same z z ≡ true
same_refl (pos n) = is_true (eqb n n) (eqb_refl n)
same_refl (negsuc n) = is_true (eqb n n) (eqb_refl n)

abs_sign : (d : ℤ) (i : ℕ) → nat_abs (sign_as d i) ≡ i
abs_sign (pos d) i = refl
abs_sign (negsuc d) zero = refl
abs_sign (negsuc d) (suc i) = refl

cancel : (x u v : ℤ) → x +ℤ u ≡ x +ℤ v → u ≡ v
cancel x u v e = sym (+ℤ-neg_ℤ_cancel u x) ∙ ap (λ z. z -ℤ x) (+ℤ_comm u x ∙ e ∙ +ℤ_comm x v) ∙ +ℤ-neg_ℤ_cancel v x

differ : (x d : ℤ) (i k : ℕ) → i ≢ k → same (x +ℤ sign_as d i) (x +ℤ sign_as d k) ≡ false
differ x d i k n = go (same (x +ℤ sign_as d i) (x +ℤ sign_as d k)) refl
  where
    go : (t : Bool) → same (x +ℤ sign_as d i) (x +ℤ sign_as d k) ≡ t → same (x +ℤ sign_as d i) (x +ℤ sign_as d k) ≡ false
    go false e = e
    go true e = absurd (n (sym (abs_sign d i) ∙ ap nat_abs (cancel x (sign_as d i) (sign_as d k) (same_true _ _ e)) ∙ abs_sign d k))

zero_sign : (d : ℤ) → pos 0 ≡ sign_as d 0
zero_sign (pos d) = refl
zero_sign (negsuc d) = refl

whole_sign : (d : ℤ) → d ≡ sign_as d (nat_abs d)
whole_sign (pos d) = refl
whole_sign (negsuc d) = refl

pub abs_neg : (d : ℤ) → nat_abs (neg_ℤ d) ≡ nat_abs d
abs_neg (pos zero) = refl
abs_neg (pos (suc n)) = refl
abs_neg (negsuc n) = refl

pub sub_le : (a b : ℕ) → b ≤ a → sub_ℕ a b ≡ pos (a - b)
sub_le a b h = rw (lt_no a b h) refl
  where
    lt_no : (a b : ℕ) → b ≤ a → ltb a b ≡ false
    lt_no a b h = is_false (ltb a b) (λ t. let l = ltb→lt a b t in omega arith)
      where
        is_false : (t : Bool) → (T t → ⊥) → t ≡ false
        is_false true f = absurd (f tt)
        is_false false f = refl

-- from the far end back
back : (d : ℤ) (i : ℕ) → i ≤ nat_abs d → d +ℤ sign_as (neg_ℤ d) i ≡ sign_as d (nat_abs d - i)
back (pos zero) i h = ap pos (omega arith)
back (pos (suc n)) zero h = ap pos (omega arith)
back (pos (suc n)) (suc i) h = sub_le (suc n) (suc i) h
back (negsuc n) i h = go (ℕ_discrete i (suc n))
  where
    go : Dec (i ≡ suc n) → sub_ℕ i (suc n) ≡ neg_ℤ (pos (suc n - i))
    go (yes e) =
        sub_le i (suc n) (omega arith) ∙ (let z : i - suc n ≡ 0 = omega arith in let w : suc n - i ≡ 0 = omega arith in ap pos z ∙ sym
        (ap (λ (m : ℕ). neg_ℤ (pos m)) w))
    go (no e) = let l : suc n - i ≡ suc (suc n - suc i) = omega arith in
        rw (is_true (ltb i (suc n)) (lt→ltb i (suc n) (omega arith))) (sym (ap (λ (m : ℕ). neg_ℤ (pos m)) l))

-- ## The sides

module _ (p : Place) (dx dy : ℤ) where
  a : ℕ
  a = nat_abs dx

  b : ℕ
  b = nat_abs dy

  -- i along x and j along y from the corner, each with its sign
  pub spot : ℕ → ℕ → Place
  spot i j = offset p (sign_as dx i) (sign_as dy j)

  spot_same : (i j k l : ℕ) → i ≡ k → j ≡ l → same_place (spot i j) (spot k l) ≡ true
  unfolding spot
  spot_same i j k l e f = sym (λ n. same_place (spot i j) (spot (e n) (f n))) ∙ rw (same_refl (p.x +ℤ sign_as dx i), same_refl (p.y +ℤ sign_as dy j)) refl

  spot_x : (i j k l : ℕ) → i ≢ k → same_place (spot i j) (spot k l) ≡ false
  unfolding spot
  spot_x i j k l n = rw (differ p.x dx i k n) refl

  spot_y : (i j k l : ℕ) → j ≢ l → same_place (spot i j) (spot k l) ≡ false
  unfolding spot
  spot_y i j k l n = and_false (same (p.x +ℤ sign_as dx i) (p.x +ℤ sign_as dx k)) _ (differ p.y dy j l n)

  side1 : List Place
  side1 = listed 0 (suc a) (λ i. spot i 0)

  side2 : List Place
  side2 = listed 0 (suc b) (λ j. spot a j)

  side3 : List Place
  side3 = listed 0 (suc a) (λ i. spot (a - i) b)

  side4 : List Place
  side4 = listed 0 (suc b) (λ j. spot 0 (b - j))

  place_path : {x y u v : ℤ} → x ≡ u → y ≡ v → at x y ≡ at u v
  place_path e f = λ i. at (e i) (f i)

  walk_sides : walk p dx dy ≡ side1 ++ (side2 ++ (side3 ++ side4))
  unfolding walk along_x along_y side1 side2 side3 side4 spot a b
  walk_sides = ap₂ {C = List Place} ◌++◌ one (ap₂ {C = List Place} ◌++◌ two (ap₂ {C = List Place} ◌++◌ three four))
    where
      one : listed 0 (suc (nat_abs dx)) (λ i. offset p (sign_as dx i) (pos 0)) ≡ listed 0 (suc (nat_abs dx)) (λ i. offset p (sign_as dx i) (sign_as dy 0))
      one = ap (λ z. listed 0 (suc (nat_abs dx)) (λ i. offset p (sign_as dx i) z)) (zero_sign dy)

      two : listed 0 (suc (nat_abs dy)) (λ i. offset (offset p dx (pos 0)) (pos 0) (sign_as dy i))
          ≡ listed 0 (suc (nat_abs dy)) (λ j. offset p (sign_as dx (nat_abs dx)) (sign_as dy j))
      two = listed_cong 0 _ _ _ λ k l m. place_path
          (+ℤ_idr (p.x +ℤ dx) ∙ ap (λ z. p.x +ℤ z) (whole_sign dx))
          (ap (λ z. z +ℤ sign_as dy k) (+ℤ_idr p.y))

      three : listed 0 (suc (nat_abs (neg_ℤ dx))) (λ i. offset (offset p dx dy) (sign_as (neg_ℤ dx) i) (pos 0))
          ≡ listed 0 (suc (nat_abs dx)) (λ i. offset p (sign_as dx (nat_abs dx - i)) (sign_as dy (nat_abs dy)))
      three =
          ap (λ (n : ℕ). listed 0 (suc n) (λ i. offset (offset p dx dy) (sign_as (neg_ℤ dx) i) (pos 0))) (abs_neg dx) ∙ listed_cong 0 _ _ _ λ k l m. place_path
          (+ℤ_assoc p.x dx (sign_as (neg_ℤ dx) k) ∙ ap (λ z. p.x +ℤ z) (back dx k (omega arith)))
          (+ℤ_idr (p.y +ℤ dy) ∙ ap (λ z. p.y +ℤ z) (whole_sign dy))

      four : listed 0 (suc (nat_abs (neg_ℤ dy))) (λ i. offset (offset p (pos 0) dy) (pos 0) (sign_as (neg_ℤ dy) i))
          ≡ listed 0 (suc (nat_abs dy)) (λ j. offset p (sign_as dx 0) (sign_as dy (nat_abs dy - j)))
      four =
          ap (λ (n : ℕ). listed 0 (suc n) (λ i. offset (offset p (pos 0) dy) (pos 0) (sign_as (neg_ℤ dy) i))) (abs_neg dy)
          ∙ listed_cong 0 _ _ _ λ k l m. place_path
          (+ℤ_idr (p.x +ℤ pos 0) ∙ ap (λ z. p.x +ℤ z) (zero_sign dx))
          (+ℤ_assoc p.y dy (sign_as (neg_ℤ dy) k) ∙ ap (λ z. p.y +ℤ z) (back dy k (omega arith)))

  -- ### What each side has

  within1 : (i j : ℕ) → i ≤ a → j ≡ 0 → visited (spot i j) (passed side1 []) ≡ true
  unfolding side1
  within1 i j h e = among (suc a) 0 i (λ i. spot i 0) (spot i j) [] (omega arith) (omega arith) (spot_same i j i 0 refl e)

  not1 : (i j : ℕ) → j ≢ 0 → visited (spot i j) (passed side1 []) ≡ false
  unfolding side1 visited
  not1 i j n = apart (suc a) 0 (λ i. spot i 0) (spot i j) [] (λ k l m. spot_y i j k 0 n) refl

  within2 : (i j : ℕ) (seen : List Place) → i ≡ a → j ≤ b → visited (spot i j) (passed side2 seen) ≡ true
  unfolding side2
  within2 i j seen e h = among (suc b) 0 j (λ j. spot a j) (spot i j) seen (omega arith) (omega arith) (spot_same i j a j e refl)

  not2 : (i j : ℕ) (seen : List Place) → i ≢ a → visited (spot i j) seen ≡ false → visited (spot i j) (passed side2 seen) ≡ false
  unfolding side2
  not2 i j seen n e = apart (suc b) 0 (λ j. spot a j) (spot i j) seen (λ k l m. spot_x i j a k n) e

  within3 : (i j : ℕ) (seen : List Place) → i ≤ a → j ≡ b → visited (spot i j) (passed side3 seen) ≡ true
  unfolding side3
  within3 i j seen h e =
      among (suc a) 0 (a - i) (λ i. spot (a - i) b) (spot i j) seen (omega arith) (omega arith) (spot_same i j (a - (a - i)) b (omega arith) e)

  not3 : (i j : ℕ) (seen : List Place) → j ≢ b → visited (spot i j) seen ≡ false → visited (spot i j) (passed side3 seen) ≡ false
  unfolding side3
  not3 i j seen n e = apart (suc a) 0 (λ i. spot (a - i) b) (spot i j) seen (λ k l m. spot_y i j (a - k) b n) e

  -- ### What is new of each

  seen1 : List Place
  seen1 = passed side1 []

  seen2 : List Place
  seen2 = passed side2 seen1

  seen3 : List Place
  seen3 = passed side3 seen2

  new1 : once [] side1 ≡ side1
  unfolding side1 visited
  new1 = once_new (suc a) 0 (λ i. spot i 0) [] (λ k l m. refl) (λ k l x y z d. spot_x k 0 l 0 (omega arith))

  new2 : once seen1 side2 ≡ listed 1 b (λ j. spot a j)
  unfolding side2 listed seen1 visited
  new2 = once_skip (spot a 0) (listed 1 b (λ j. spot a j)) seen1 (within1 a 0 (omega arith) refl)
      ∙ once_new b 1 (λ j. spot a j) (spot a 0 ∷ seen1)
      (λ k l m. or_none (same_place (spot a k) (spot a 0)) (visited (spot a k) seen1) (spot_y a k a 0 (omega arith)) (not1 a k (omega arith)))
      (λ k l x y z d. spot_y a k a l (omega arith))

  new3 : b ≢ 0 → once seen2 side3 ≡ listed 1 a (λ i. spot (a - i) b)
  unfolding side3 listed seen1 seen2 visited
  new3 n = once_skip (spot (a - 0) b) (listed 1 a (λ i. spot (a - i) b)) seen2 (within2 (a - 0) b seen1 (omega arith) (omega arith))
      ∙ once_new a 1 (λ i. spot (a - i) b) (spot (a - 0) b ∷ seen2)
      (λ k l m. or_none (same_place (spot (a - k) b) (spot (a - 0) b)) (visited (spot (a - k) b) seen2) (spot_x (a - k) b (a - 0) b (omega arith))
      (not2 (a - k) b seen1 (omega arith) (not1 (a - k) b n)))
      (λ k l x y z d. spot_x (a - k) b (a - l) b (omega arith))

  old3 : b ≡ 0 → once seen2 side3 ≡ []
  unfolding side3 seen1 seen2
  old3 e = once_old (suc a) 0 (λ i. spot (a - i) b) seen2 (λ k l m. still (spot (a - k) b) side2 seen1 (within1 (a - k) b (omega arith) e))

  new4 : a ≢ 0 → b ≢ 0 → once seen3 side4 ≡ listed 1 (b - 1) (λ j. spot 0 (b - j))
  unfolding side4 listed seen1 seen2 seen3 visited once
  new4 n m =
      once_skip (f 0) (listed 1 b f) seen3 (within3 0 (b - 0) seen2 (omega arith) (omega arith))
      ∙ ap (once s) split
      ∙ once_append (listed 1 (b - 1) f) (f (1 + (b - 1)) ∷ []) s
      ∙ ap₂ {C = List Place} ◌++◌ middle end
      ∙ append-nil (listed 1 (b - 1) f)
    where
      f : ℕ → Place
      f j = spot 0 (b - j)

      s : List Place
      s = f 0 ∷ seen3

      split : listed 1 b f ≡ listed 1 (b - 1) f ++ (f (1 + (b - 1)) ∷ [])
      split = let e : b ≡ suc (b - 1) = omega arith in ap (λ (k : ℕ). listed 1 k f) e ∙ listed_last (b - 1) 1 f

      middle : once s (listed 1 (b - 1) f) ≡ listed 1 (b - 1) f
      middle = once_new (b - 1) 1 f s
          (λ k l h. or_none (same_place (f k) (f 0)) (visited (f k) seen3) (spot_y 0 (b - k) 0 (b - 0) (omega arith))
          (not3 0 (b - k) seen2 (omega arith) (not2 0 (b - k) seen1 (λ e. n (sym e)) (not1 0 (b - k) (omega arith)))))
          (λ k l x y z d. spot_y 0 (b - k) 0 (b - l) (omega arith))

      end : once (passed (listed 1 (b - 1) f) s) (f (1 + (b - 1)) ∷ []) ≡ []
      end = once_skip (f (1 + (b - 1))) [] (passed (listed 1 (b - 1) f) s)
          (still (f (1 + (b - 1))) (listed 1 (b - 1) f) s
          (or_true (same_place (f (1 + (b - 1))) (f 0)) (visited (f (1 + (b - 1))) seen3)
          (still (f (1 + (b - 1))) side3 seen2 (still (f (1 + (b - 1))) side2 seen1 (within1 0 (b - (1 + (b - 1))) (omega arith) (omega arith))))))

  old4 : (a ≡ 0) ⊎ (b ≡ 0) → once seen3 side4 ≡ []
  unfolding side4 seen1 seen2 seen3
  old4 o = once_old (suc b) 0 (λ j. spot 0 (b - j)) seen3 (λ k l m. still (spot 0 (b - k)) side3 seen2 (go o k))
    where
      go : (a ≡ 0) ⊎ (b ≡ 0) → (k : ℕ) → visited (spot 0 (b - k)) (passed side2 seen1) ≡ true
      go (inl e) k = within2 0 (b - k) seen1 (sym e) (omega arith)
      go (inr e) k = still (spot 0 (b - k)) side2 seen1 (within1 0 (b - k) (omega arith) (omega arith))

  -- ### The outline, each pixel once

  pub outline : List Place
  outline =
      listed 0 (suc a) (λ i. spot i 0)
      ++ (listed 1 b (λ j. spot a j)
      ++ (cond (eqb b 0) [] (listed 1 a (λ i. spot (a - i) b))
      ++ cond (eqb a 0 || eqb b 0) [] (listed 1 (b - 1) (λ j. spot 0 (b - j)))))

  parts : once [] (walk p dx dy) ≡ once [] side1 ++ (once seen1 side2 ++ (once seen2 side3 ++ once seen3 side4))
  unfolding seen1 seen2 seen3
  parts =
      ap (once []) walk_sides
      ∙ once_append side1 (side2 ++ (side3 ++ side4)) []
      ∙ ap {B = List Place} (λ r. once [] side1 ++ r) (once_append side2 (side3 ++ side4) (passed side1 [])
      ∙ ap {B = List Place} (λ r. once (passed side1 []) side2 ++ r) (once_append side3 side4 (passed side2 (passed side1 []))))

  no_eqb : (n : ℕ) → n ≢ 0 → eqb n 0 ≡ false
  no_eqb zero h = absurd (h refl)
  no_eqb (suc n) h = eqb-suc-zero n

  -- RECT's walk in closed form
  pub outline_once : once [] (walk p dx dy) ≡ outline
  unfolding outline side1
  outline_once = parts ∙ ap₂ {C = List Place} ◌++◌ new1 (ap₂ {C = List Place} ◌++◌ new2 (go (ℕ_discrete a 0) (ℕ_discrete b 0)))
    where
      go : Dec (a ≡ 0) → Dec (b ≡ 0) → once seen2 side3 ++ once seen3 side4
          ≡ cond (eqb b 0) [] (listed 1 a (λ i. spot (a - i) b)) ++ cond (eqb a 0 || eqb b 0) [] (listed 1 (b - 1) (λ j. spot 0 (b - j)))
      go (yes e) (yes f) = rw (old3 f, old4 (inl e), e, f) refl
      go (yes e) (no f) = rw (new3 f, old4 (inl e), e, no_eqb b f) refl
      go (no e) (yes f) = rw (old3 f, old4 (inr f), no_eqb a e, f) refl
      go (no e) (no f) = rw (new3 f, new4 e f, no_eqb a e, no_eqb b f) refl

  -- .. by its four sides
  pub once_sides : once [] (walk p dx dy)
      ≡ listed 0 (suc (nat_abs dx)) (λ i. offset p (sign_as dx i) (sign_as dy 0))
      ++ (listed 1 (nat_abs dy) (λ j. offset p (sign_as dx (nat_abs dx)) (sign_as dy j))
      ++ (cond (eqb (nat_abs dy) 0) [] (listed 1 (nat_abs dx) (λ i. offset p (sign_as dx (nat_abs dx - i)) (sign_as dy (nat_abs dy))))
      ++ cond (eqb (nat_abs dx) 0 || eqb (nat_abs dy) 0) [] (listed 1 (nat_abs dy - 1) (λ j. offset p (sign_as dx 0) (sign_as dy (nat_abs dy - j))))))
  unfolding outline spot a b
  once_sides = outline_once
