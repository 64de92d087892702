-- Edges: coordinates that are kept 65,536 larger, and which steps from one lie from lo to hi.
use Rattle.std.proofs.Common.{◌≡◌, ℕ, zero, suc, ◌+◌, ◌-◌, ◌%◌, ◌<◌, ◌≤◌, min, true, false, ◌&&◌, ltb, leb, ℤ, pos, ◌+ℤ◌, ◌-ℤ◌, neg_ℤ, sym, ap, ◌∙◌, arith, ltb-false, ltb-true, le-ltb, lt-ltb, le-leb, leb-false, leb-true}
use native.Mathlib.Decide.{dec_lt}
use borrow.Author.Tests.{lt-leb}
use lib.IntN.{+ℤ_assoc, +ℤ_comm, +ℤ-neg_ℤ_cancel}
use Rattle.model.specs.Coordinates.{coord, between}
use Rattle.model.proofs.Decisions.{split, both_true, both_of, and_false, and_left}
use Rattle.coordinates.specs.Offsets.{unbiased, Among, Between}
use Rattle.coordinates.specs.declared.Edges.{Edges}
use Rattle.coordinates.proofs.SignedLaws.{coord_low, coord_difference}

-- ## From a first number to below a second

pub within_true : (a i b : ℕ) → a ≤ i → i < b → (leb a i && ltb i b) ≡ true
within_true a i b h k = both_of (le-leb a i h) (lt-ltb i b k)

pub within_early : (a i b : ℕ) → i < a → (leb a i && ltb i b) ≡ false
within_early a i b h = and_left _ _ (lt-leb a i h)

pub within_late : (a i b : ℕ) → b ≤ i → (leb a i && ltb i b) ≡ false
within_late a i b h = and_false (leb a i) _ (le-ltb i b h)

-- two pairs of tests that hold together
both_same : (a i j b c k l d : ℕ) → (a ≤ i → j ≤ b → (c ≤ k) × (l ≤ d)) → (c ≤ k → l ≤ d → (a ≤ i) × (j ≤ b))
    → (leb a i && leb j b) ≡ (leb c k && leb l d)
both_same a i j b c k l d f g = split (leb c k)
    (λ p. split (leb l d)
    (λ q. let h = g (leb-true c k p) (leb-true l d q) in rw (p, q) (both_of (le-leb a i h.0) (le-leb j b h.1)))
    (λ q. rw (p, q) (neither (λ m n. let h = leb-false l d q in omega (arith, (f m n).1)))))
    (λ p. rw p (neither (λ m n. let h = leb-false c k p in omega (arith, (f m n).0))))
  where
    neither : (a ≤ i → j ≤ b → ⊥) → (leb a i && leb j b) ≡ false
    neither n = split (leb a i)
        (λ p. split (leb j b) (λ q. absurd (n (leb-true a i p) (leb-true j b q))) (λ q. rw (p, q)))
        (λ p. rw p)

module _ (first end n second : ℕ) (e : second ≡ min end n) where
  pub among_none : second ≤ first → Among first end n (record { first = 0; second = 0 })
  among_none h = record {
    exactly = λ i l. both_same first i (suc i) end 0 i (suc i) 0 (λ a b. absurd (omega arith)) (λ a b. absurd (omega arith));
    ordered = omega arith;
    last = omega arith;
  }

  pub among_some : first < second → Among first end n (record { first = first; second = second })
  among_some h = record {
    exactly = λ i l. both_same first i (suc i) end first i (suc i) second (λ a b. (a, omega arith)) (λ a b. (a, omega arith));
    ordered = omega arith;
    last = omega arith;
  }

-- ## Coordinates kept 65,536 larger

pub coord_unbiased : (p : ℕ) → p < 65536 → coord p ≡ unbiased ((p + 32768) % 65536 + 32768)
coord_unbiased p h = split (ltb p 32768)
    (λ e.
    let l = ltb-true p 32768 e in
    let q : (p + 32768) % 65536 + 32768 ≡ p + 65536 = omega arith in
    let r : p ≡ p + 65536 - 65536 = omega arith in
    rw q (coord_low p l ∙ rw (le-ltb (p + 65536) 65536 (omega arith)) (ap pos r)))
    (λ e.
    let l = ltb-false p 32768 e in
    let q : (p + 32768) % 65536 + 32768 ≡ p = omega arith in
    rw q (sym (coord_difference p l h)))

pub unbiased_on : (x k : ℕ) → unbiased x +ℤ pos k ≡ unbiased (x + k)
unbiased_on x k =
    +ℤ_assoc (pos x) (neg_ℤ (pos 65536)) (pos k)
    ∙ ap (λ (z : ℤ). pos x +ℤ z) (+ℤ_comm (neg_ℤ (pos 65536)) (pos k))
    ∙ sym (+ℤ_assoc (pos x) (pos k) (neg_ℤ (pos 65536)))

pub unbiased_back : (x k : ℕ) → k ≤ x → unbiased x +ℤ neg_ℤ (pos k) ≡ unbiased (x - k)
unbiased_back x k h =
    let q : x ≡ x - k + k = omega arith in
    ap (λ (z : ℤ). z -ℤ pos k) (ap unbiased q ∙ sym (unbiased_on (x - k) k)) ∙ +ℤ-neg_ℤ_cancel (unbiased (x - k)) (pos k)

pub between_unbiased : (lo hi x : ℕ) → between lo hi (unbiased x) ≡ (leb (lo + 65536) x && leb x (hi + 65536))
between_unbiased lo hi x = split (ltb x 65536)
    (λ e. let l = ltb-true x 65536 e in rw e (sym (and_left _ _ (lt-leb (lo + 65536) x (omega arith)))))
    (λ e.
    let l = ltb-false x 65536 e in
    rw e (both_same lo (x - 65536) (x - 65536) hi (lo + 65536) x x (hi + 65536)
    (λ a b. (omega arith, omega arith)) (λ a b. (omega arith, omega arith))))

pub between_holds : (lo hi x : ℕ) → between lo hi (unbiased x) ≡ true → (lo + 65536 ≤ x) × (x ≤ hi + 65536)
between_holds lo hi x e =
    let b = both_true (leb (lo + 65536) x) (leb x (hi + 65536)) (sym (between_unbiased lo hi x) ∙ e) in
    (leb-true _ x b.0, leb-true x _ b.1)

-- ## Steps on and back

module _ (lo hi x : ℕ) where
  -- more steps back than the number that is kept
  between_below : (k : ℕ) → x < k → between lo hi (unbiased x +ℤ neg_ℤ (pos k)) ≡ false
  between_below zero h = absurd (omega arith)
  between_below (suc k) h = split (ltb x 65536)
      (λ e. rw e)
      (λ e. rw (e, lt-ltb (x - 65536) (suc k) (omega arith)))

  pub between_on : (i : ℕ) → between lo hi (unbiased x +ℤ pos i) ≡ (leb (lo + 65536 - x) i && ltb i (hi + 65536 + 1 - x))
  between_on i =
      ap (between lo hi) (unbiased_on x i)
      ∙ between_unbiased lo hi (x + i)
      ∙ both_same (lo + 65536) (x + i) (x + i) (hi + 65536) (lo + 65536 - x) i (suc i) (hi + 65536 + 1 - x)
      (λ a b. (omega arith, omega arith)) (λ a b. (omega arith, omega arith))

  pub between_back : (i : ℕ) → between lo hi (unbiased x +ℤ neg_ℤ (pos i)) ≡ (leb (x - (hi + 65536)) i && ltb i (x + 1 - (lo + 65536)))
  between_back i =
      elim (dec_lt x i) [
        | yes l ↦ between_below i l ∙ sym (within_late (x - (hi + 65536)) i (x + 1 - (lo + 65536)) (omega arith))
        | no l ↦ let h : i ≤ x = omega arith in
            ap (between lo hi) (unbiased_back x i h)
            ∙ between_unbiased lo hi (x - i)
            ∙ both_same (lo + 65536) (x - i) (x - i) (hi + 65536) (x - (hi + 65536)) i (suc i) (x + 1 - (lo + 65536))
            (λ a b. (omega arith, omega arith)) (λ a b. (omega arith, omega arith))
      ]

  module _ (n first end : ℕ) (e : Edges) (m : Among first end n e) where
    pub edges_on : first ≡ lo + 65536 - x → end ≡ hi + 65536 + 1 - x → Between lo hi (unbiased x) false n e
    edges_on f g = record {
      exactly = λ i l. between_on i ∙ rw (sym f, sym g) (m.exactly i l);
      ordered = m.ordered;
      last = m.last;
    }

    pub edges_back : first ≡ x - (hi + 65536) → end ≡ x + 1 - (lo + 65536) → Between lo hi (unbiased x) true n e
    edges_back f g = record {
      exactly = λ i l. between_back i ∙ rw (sym f, sym g) (m.exactly i l);
      ordered = m.ordered;
      last = m.last;
    }
