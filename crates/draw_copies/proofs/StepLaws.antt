-- Numbered steps: when two runs agree, what they keep, which of them are idle, and that steps which commute
-- may be taken from the last on. The law of copies in place: steps that read as they go do what they would do
-- had all been read first.
use Rattle.std.proofs.Common.{◌≡◌, ℕ, zero, suc, ◌+◌, ◌-◌, ◌<◌, ◌≤◌, Bool, true, false, ◌≢◌, sym, refl, ap, ◌∙◌, add-zero, add-suc, add-one, arith}
use Rattle.draw_copies.specs.Steps.{steps, reversed_if}

-- ## Runs

module _ {S : Type 0} where
  pub steps_none : (g : ℕ → S → S) (c : S) → steps g 0 c ≡ c
  unfolding steps
  steps_none g c = refl

  pub steps_next : (g : ℕ → S → S) (n : ℕ) (c : S) → steps g (n + 1) c ≡ g n (steps g n c)
  unfolding steps
  steps_next g n c = rw (add-one n)

  -- what goes on as the steps do is their run
  pub steps_are : (f : ℕ → S → S) (g : ℕ → S → S) → ((c : S) → f 0 c ≡ c) → ((k : ℕ) (c : S) → f (k + 1) c ≡ g k (f k c))
      → (n : ℕ) (c : S) → f n c ≡ steps g n c
  unfolding steps
  steps_are f g none next zero c = none c
  steps_are f g none next (suc n) c = rw (← add-one n) (next n c) ∙ ap (g n) (steps_are f g none next n c)

  -- the first m, and n more
  pub steps_add : (g : ℕ → S → S) (m n : ℕ) (c : S) → steps g (m + n) c ≡ steps (λ k. g (m + k)) n (steps g m c)
  unfolding steps
  steps_add g m zero c = rw (add-zero m)
  steps_add g m (suc n) c = rw (add-suc m n) (ap (g (m + n)) (steps_add g m n c))

  -- two runs agree where each step agrees on what the second has reached
  pub steps_agree : (g h : ℕ → S → S) (n : ℕ) (c : S) → ((k : ℕ) → k < n → g k (steps h k c) ≡ h k (steps h k c)) → steps g n c ≡ steps h n c
  unfolding steps
  steps_agree g h zero c e = refl
  steps_agree g h (suc n) c e = ap (g n) (steps_agree g h n c (λ k l. e k (omega arith))) ∙ e n (omega arith)

  -- steps that do nothing
  pub steps_idle : (g : ℕ → S → S) (n : ℕ) (c : S) → ((k : ℕ) → k < n → (m : S) → g k m ≡ m) → steps g n c ≡ c
  unfolding steps
  steps_idle g zero c e = refl
  steps_idle g (suc n) c e = e n (omega arith) (steps g n c) ∙ steps_idle g n c (λ k l m. e k (omega arith) m)

  -- only the steps from `skip` on, so many of them, do something
  pub steps_crop : (g : ℕ → S → S) (n skip count : ℕ) (c : S) → skip + count ≤ n
      → ((k : ℕ) → k < skip → (m : S) → g k m ≡ m) → ((k : ℕ) → skip + count ≤ k → k < n → (m : S) → g k m ≡ m)
      → steps g n c ≡ steps (λ k. g (skip + k)) count c
  steps_crop g n skip count c h before after =
      ap (λ (i : ℕ). steps g i c) (let e : n ≡ skip + count + (n - (skip + count)) = omega arith in e)
      ∙ steps_add g (skip + count) (n - (skip + count)) c
      ∙ steps_idle (λ k. g (skip + count + k)) (n - (skip + count)) (steps g (skip + count) c) (λ k l m. after (skip + count + k) (omega arith) (omega arith) m)
      ∙ steps_add g skip count c
      ∙ ap (steps (λ k. g (skip + k)) count) (steps_idle g skip c before)

  -- what each step keeps
  pub steps_keep : (P : S → Type 0) (h : ℕ → S → S) (n : ℕ) (c : S) → ((k : ℕ) → k < n → (m : S) → P m → P (h k m)) → P c → P (steps h n c)
  unfolding steps
  steps_keep P h zero c e p = p
  steps_keep P h (suc n) c e p = e n (omega arith) (steps h n c) (steps_keep P h n c (λ k l m. e k (omega arith) m) p)

  -- the first step taken off
  steps_first : (h : ℕ → S → S) (n : ℕ) (c : S) → steps h (suc n) c ≡ steps (λ k. h (suc k)) n (h 0 c)
  unfolding steps
  steps_first h zero c = refl
  steps_first h (suc n) c = ap (h (suc n)) (steps_first h n c)

-- ## Steps that commute, at the states of a kind that each step keeps

module _ {S : Type 0} (I : S → Type 0) where
  abbrev pub Stays : (ℕ → S → S) → ℕ → Type 0
  Stays h n = (k : ℕ) → k < n → (m : S) → I m → I (h k m)

  -- a step that commutes with each goes before all
  pub steps_after : (f : S → S) (h : ℕ → S → S) (n : ℕ) (c : S) → Stays h n → ((k : ℕ) → k < n → (m : S) → I m → h k (f m) ≡ f (h k m))
      → I c → steps h n (f c) ≡ f (steps h n c)
  unfolding steps
  steps_after f h zero c s e i = refl
  steps_after f h (suc n) c s e i =
      ap (h n) (steps_after f h n c (λ k l. s k (omega arith)) (λ k l. e k (omega arith)) i)
      ∙ e n (omega arith) (steps h n c) (steps_keep I h n c (λ k l. s k (omega arith)) i)

  -- two runs whose steps commute with each other's
  pub steps_swap : (g h : ℕ → S → S) (n : ℕ) (c : S) → Stays g n → Stays h n
      → ((i k : ℕ) → i < n → k < n → (m : S) → I m → g i (h k m) ≡ h k (g i m))
      → I c → steps g n (steps h n c) ≡ steps h n (steps g n c)
  steps_swap g h n c s t e i =
      sym (steps_after (steps g n) h n c t
      (λ k l m j. sym (steps_after (h k) g n m s (λ i' l' m'. e i' k l' l m') j)) i)

  abbrev pub Commute : (ℕ → S → S) → ℕ → Type 0
  Commute h n = (i k : ℕ) → i < n → k < n → i ≢ k → (m : S) → I m → h i (h k m) ≡ h k (h i m)

  -- from the last on
  steps_reverse : (h : ℕ → S → S) (n : ℕ) (c : S) → Stays h n → Commute h n → I c → steps (λ k. h (n - 1 - k)) n c ≡ steps h n c
  unfolding steps
  steps_reverse h zero c s e i = refl
  steps_reverse h (suc n) c s e i =
      let last : suc n - 1 - 0 ≡ n = omega arith in
      let begun = h (suc n - 1 - 0) c in
      steps_first (λ k. h (suc n - 1 - k)) n c
      ∙ steps_agree (λ k. h (suc n - 1 - suc k)) (λ k. h (n - 1 - k)) n begun
      (λ k l. ap (λ (j : ℕ). h j (steps (λ k. h (n - 1 - k)) k begun)) (let q : suc n - 1 - suc k ≡ n - 1 - k = omega arith in q))
      ∙ steps_reverse h n begun (λ k l. s k (omega arith)) (λ i k l m d. e i k (omega arith) (omega arith) d) (s (suc n - 1 - 0) (omega arith) c i)
      ∙ ap (λ (j : ℕ). steps h n (h j c)) last
      ∙ steps_after (h n) h n c (λ k l. s k (omega arith)) (λ k l. e k n (omega arith) (omega arith) (λ q. let z : ⊥ = omega arith in z)) i

  -- in either order
  steps_reversed_if : (back : Bool) (h : ℕ → S → S) (n : ℕ) (c : S) → Stays h n → Commute h n → I c
      → steps (λ k. h (reversed_if back n k)) n c ≡ steps h n c
  steps_reversed_if false h n c s e i = refl
  steps_reversed_if true h n c s e i = steps_reverse h n c s e i

-- ## Reversed numbers

pub reversed_if_lt : (back : Bool) (n k : ℕ) → k < n → reversed_if back n k < n
reversed_if_lt false n k h = h
reversed_if_lt true n k h = omega arith

-- i comes before k
abbrev pub Before : Bool → ℕ → ℕ → Type 0
Before false i k = i < k
Before true i k = k < i

reversed_if_before : (back : Bool) (n i k : ℕ) → i < k → k < n → Before back (reversed_if back n i) (reversed_if back n k)
reversed_if_before false n i k h l = h
reversed_if_before true n i k h l = omega arith

-- ## In place

-- Step g k reads as it goes and h k does not. Where what g k reads still stands (R k), both do the same; no
-- step destroys what a later one reads; and the order of the steps h is free.
module _ {S : Type 0} (I : S → Type 0) (g h : ℕ → S → S) (R : ℕ → S → Type 0) (back : Bool) (n : ℕ)
    (stays : Stays I h n)
    (same : (k : ℕ) → k < n → (m : S) → I m → R k m → g k m ≡ h k m)
    (kept : (i k : ℕ) → i < n → k < n → Before back i k → (m : S) → I m → R k m → R k (h i m))
    (swap : Commute I h n) where
  -- the number of the step that is taken k-th
  abbrev nth : ℕ → ℕ
  nth k = reversed_if back n k

  stands : (c : S) → I c → (k i : ℕ) → k < n → i ≤ k → R (nth k) c → I (steps (λ j. h (nth j)) i c) × R (nth k) (steps (λ j. h (nth j)) i c)
  stands c p k i l b r =
      steps_keep (λ (m : S). I m × R (nth k) m) (λ j. h (nth j)) i c
      (λ j a m q.
      let below = reversed_if_lt back n j (omega arith) in
      let earlier = reversed_if_before back n j k (omega arith) l in
      (stays (nth j) below m q.0, kept (nth j) (nth k) below (reversed_if_lt back n k l) earlier m q.0 q.1))
      (p, r)

  pub in_place : (c : S) → I c → ((k : ℕ) → k < n → R k c) → steps (λ k. g (nth k)) n c ≡ steps h n c
  in_place c p r =
      steps_agree (λ k. g (nth k)) (λ k. h (nth k)) n c
      (λ k l.
      let below = reversed_if_lt back n k l in
      let a = stands c p k k l (omega arith) (r (nth k) below) in
      same (nth k) below _ a.0 a.1)
      ∙ steps_reversed_if I back h n c stays swap p
