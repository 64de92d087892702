-- Bytes of the store that the check lets pass lie in the store and touch no bitmap there, and an array that passes its end is bad.
use mathlib.Core.Path.{◌≡◌, refl, sym, ◌∙◌}
use mathlib.Core.Logic.{◌⊎◌, inl, inr}
use mathlib.Core.Bool.{true, false}
use Prim.Native.Nat.{ℕ, ◌+◌, ◌%◌, ◌≤◌, ◌<◌}
use native.Mathlib.Omega.{arith}
use lib.Dec.{eqb, ltb}
use borrow.Author.Tests.{lt-ltb, ltb-true, ltb-false, ne_eqb}
use Rattle.model.specs.declared.Row.{Row}
use Rattle.model.specs.declared.Bitmap.{Bitmap}
use Rattle.model.specs.Bitmaps.{share_span, touches}
use Rattle.model.specs.Faults.{bytes_bad, array_bad}
use Rattle.model.proofs.Decisions.{split, holds, both_of, either_false, or_true}

module _ (r : Row) (active : Bitmap) (a n : ℕ) where
  pub array_bad_bytes : array_bad r active a n ≡ false → bytes_bad r active a n ≡ false
  unfolding array_bad
  array_bad_bytes h = (either_false (eqb (a % 2) 1) (bytes_bad r active a n) h).1

  -- what is left of the test where there are bytes at all
  pub bytes_bad_parts : 0 < n → bytes_bad r active a n ≡ false → (ltb r.len (a + n) ≡ false) × (touches active a n ≡ false)
  bytes_bad_parts l h = either_false (ltb r.len (a + n)) (touches active a n) (rw (ne_eqb n 0 (λ e. omega arith)) at h)

  pub bytes_bad_inside : bytes_bad r active a n ≡ false → (j : ℕ) → a ≤ j → j < a + n → j < r.len
  bytes_bad_inside h j lo hi = omega (arith, ltb-false r.len (a + n) (bytes_bad_parts (omega arith) h).0)

  -- an array that passes the store's end
  pub array_bad_beyond : 0 < n → r.len < a + n → array_bad r active a n ≡ true
  unfolding array_bad
  array_bad_beyond l h = rw (ne_eqb n 0 (λ e. omega arith), lt-ltb r.len (a + n) h) (or_true (eqb (a % 2) 1) true refl)

-- a number of the first of two spans that have none in common is none of the second
pub share_span_apart : (a m b n k : ℕ) → share_span a m b n ≡ false → a ≤ k → k < a + m → (k < b) ⊎ (b + n ≤ k)
share_span_apart a m b n k e lo hi =
    split (ltb k b) (λ f. inl (ltb-true k b f))
    (λ f. split (ltb k (b + n)) (λ g. absurd (shared (ltb-false k b f) (ltb-true k (b + n) g))) (λ g. inr (ltb-false k (b + n) g)))
  where
    shared : b ≤ k → k < b + n → ⊥
    shared l h =
        holds (sym e ∙ both_of (lt-ltb 0 m (omega arith)) (both_of (lt-ltb 0 n (omega arith))
        (both_of (lt-ltb a (b + n) (omega arith)) (lt-ltb b (a + m) (omega arith)))))

-- .. and if both have some, one ends before the other begins
pub share_span_before : (a m b n : ℕ) → share_span a m b n ≡ false → 0 < m → 0 < n → (a + m ≤ b) ⊎ (b + n ≤ a)
share_span_before a m b n e h l =
    split (ltb b (a + m))
    (λ f. inr (leb_or a (b + n) (λ g. absurd (holds (sym e ∙ both_of (lt-ltb 0 m h) (both_of (lt-ltb 0 n l) (both_of g f)))))))
    (λ f. inl (ltb-false b (a + m) f))
  where
    leb_or : (p q : ℕ) → (ltb p q ≡ true → q ≤ p) → q ≤ p
    leb_or p q k = split (ltb p q) k (ltb-false p q)
