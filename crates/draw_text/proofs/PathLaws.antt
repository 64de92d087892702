-- Moves along the path on 16-bit patterns: a whole number and its pattern move the position alike.
use Rattle.std.proofs.Common.{◌≡◌, ℕ, zero, suc, ◌+◌, ◌-◌, ◌%◌, ◌<◌, eqb, ℤ, pos, negsuc, ◌+ℤ◌, neg_ℤ, sym, refl, ap, ◌∙◌, arith}
use Rattle.model.specs.declared.Point.{Point}
use Rattle.model.specs.Coordinates.{coord, wrap, moved}
use Rattle.model.specs.Glyphs.{on_path}
use Rattle.model.proofs.Decisions.{cond_rel}
use Rattle.coordinates.proofs.WrapLaws.{wrap_sum, wrap_coord}

-- ## Patterns

wrap_neg : (z : ℤ) → wrap (neg_ℤ z) ≡ (65536 - wrap z) % 65536
wrap_neg (pos zero) = refl
wrap_neg (pos (suc n)) = omega arith
wrap_neg (negsuc n) = omega arith

-- a pattern plus a width or height
pub wrap_plus : (s n : ℕ) → s < 65536 → wrap (coord s +ℤ pos n) ≡ (s + n) % 65536
wrap_plus s n h = wrap_sum (coord s) (pos n) ∙ ap (λ (m : ℕ). (m + n % 65536) % 65536) (wrap_coord s h) ∙ omega arith

-- what wraps to 0 with d added is the pattern of −d
pub wrap_back : (b d : ℕ) → b < 65536 → d < 65536 → (b + d) % 65536 ≡ 0 → wrap (coord b) ≡ wrap (neg_ℤ (coord d))
wrap_back b d h k e =
    let l : b ≡ (65536 - d) % 65536 = omega arith in
    wrap_coord b h ∙ l ∙ sym (wrap_neg (coord d) ∙ ap (λ (n : ℕ). (65536 - n) % 65536) (wrap_coord d k))

-- ## Moves

module _ (p : Point) where
  pub moved_pattern : (dx dy dx' dy' : ℤ) → wrap dx ≡ wrap dx' → wrap dy ≡ wrap dy' → moved p dx dy ≡ moved p dx' dy'
  moved_pattern dx dy dx' dy' e f = λ i. record { x = along p.x dx dx' e i; y = along p.y dy dy' f i }
    where
      along : (q : ℕ) (z w : ℤ) → wrap z ≡ wrap w → wrap (coord q +ℤ z) ≡ wrap (coord q +ℤ w)
      along q z w e = wrap_sum (coord q) z ∙ ap (λ (n : ℕ). (wrap (coord q) + n) % 65536) e ∙ sym (wrap_sum (coord q) w)

  pub on_path_pattern : (path : ℕ) (d e : ℤ) → wrap d ≡ wrap e → on_path path p d ≡ on_path path p e
  unfolding on_path
  on_path_pattern path d e q =
      cond_rel ◌≡◌ (eqb path 0) _ _ _ _ (moved_pattern d (pos 0) e (pos 0) q refl)
      (cond_rel ◌≡◌ (eqb path 1) _ _ _ _ (moved_pattern (pos 0) (neg_ℤ d) (pos 0) (neg_ℤ e) refl back)
      (cond_rel ◌≡◌ (eqb path 2) _ _ _ _ (moved_pattern (neg_ℤ d) (pos 0) (neg_ℤ e) (pos 0) back refl) (moved_pattern (pos 0) d (pos 0) e refl q)))
    where
      back : wrap (neg_ℤ d) ≡ wrap (neg_ℤ e)
      back = wrap_neg d ∙ ap (λ (n : ℕ). (65536 - n) % 65536) q ∙ sym (wrap_neg e)

-- what a step of the path is proved by
pub ruleset moves = (wrap_back, moved_pattern)
