-- "The position wraps at 16 bits": the pattern of a sum of whole numbers is the sum of their patterns, wrapped.
use Rattle.std.proofs.Common.{◌≡◌, ℕ, suc, ◌+◌, ◌-◌, ◌%◌, ◌<◌, ltb, ℤ, pos, negsuc, ◌+ℤ◌, sym, ap, ◌∙◌, arith, ltb-false, ltb-true}
use lib.IntN.{sub_ℕ, +ℤ_idr}
use Rattle.model.specs.Coordinates.{coord, wrap}
use Rattle.model.proofs.Decisions.{split}
use Rattle.model.proofs.CodeLaws.{wrap_add}

wrap_sub : (a b : ℕ) → wrap (sub_ℕ a (suc b)) ≡ (a % 65536 + (65535 - b % 65536)) % 65536
wrap_sub a b = split (ltb a (suc b))
    (λ e. let l = ltb-true a (suc b) e in rw e (omega arith))
    (λ e. let l = ltb-false a (suc b) e in rw e (omega arith))

pub wrap_sum : (a b : ℤ) → wrap (a +ℤ b) ≡ (wrap a + wrap b) % 65536
wrap_sum (pos a) (pos b) = omega arith
wrap_sum (pos a) (negsuc b) = wrap_sub a b
wrap_sum (negsuc a) (pos b) = wrap_sub b a ∙ ap (λ (n : ℕ). n % 65536) (omega arith)
wrap_sum (negsuc a) (negsuc b) = omega arith

pub wrap_coord : (d : ℕ) → d < 65536 → wrap (coord d) ≡ d
wrap_coord d h = ap wrap (sym (+ℤ_idr (coord d))) ∙ wrap_add d 0 h (omega arith) ∙ omega arith
