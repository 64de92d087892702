-- Laws of text that was written to a buffer.
use mathlib.Core.Path.{◌≡◌, refl, ap, sym, ◌∙◌}
use mathlib.Core.List.{List, [], ◌∷◌, ◌++◌, append_assoc, append-nil}
use Prim.Native.Nat.{ℕ, zero, suc, ◌≤◌}
use native.Mathlib.Omega.{arith}
use lib.ListN.{length, take}
use lib.Seq.{length-take-le, take_all}
use Rattle.script_fields.specs.Fields.{comma}
use Rattle.script_numerals.specs.Numerals.{comma_separated, Wrote}

-- what is cut twice at the same place is cut once
take_cut : (n : ℕ) (x y : List ℕ) → take n (take n x ++ y) ≡ take n (x ++ y)
take_cut zero x y = refl
take_cut (suc n) [] y = refl
take_cut (suc n) (b ∷ x) y = ap (◌∷◌ b) (take_cut n x y)

-- one text after the other
pub Wrote-then : {a b c s t : List ℕ} {at i j : ℕ} → Wrote a at s b i → Wrote b i t c j → Wrote a at (s ++ t) c j
Wrote-then {a} {b} {c} {s} {t} {at} v w =
    record {
      kept = w.kept ∙ v.kept;
      fits = omega (arith, w.fits, v.kept);
      bytes = w.bytes ∙ rw (v.kept, v.bytes, take_cut (length a) (take at a ++ s) t, append_assoc);
    }

-- no text
pub Wrote-none : (a : List ℕ) (at : ℕ) → at ≤ length a → Wrote a at [] a at
Wrote-none a at h =
    record {
      kept = refl;
      fits = h;
      bytes = rw append-nil (sym (take_all (length a) (take at a) (omega (arith, length-take-le at a h))));
    }

-- ## Values, each after a comma

-- values one after the other
comma_separated_append : (s t : List (List ℕ)) → comma_separated (s ++ t) ≡ comma_separated s ++ comma_separated t
unfolding comma_separated
comma_separated_append [] t = refl
comma_separated_append (v ∷ s) t =
    ap (◌∷◌ comma) (ap (◌++◌ v) (comma_separated_append s t) ∙ sym (append_assoc v (comma_separated s) (comma_separated t)))

-- a comma and a text
pub Wrote-value :
    {a b c t : List ℕ} {at i j : ℕ} → Wrote a at (comma ∷ []) b i → Wrote b i t c j → Wrote a at (comma_separated (t ∷ [])) c j
unfolding comma_separated
Wrote-value v w = rw append-nil (Wrote-then v w)

-- some values and then others
pub Wrote-values :
    {a b c : List ℕ} {at i j : ℕ} (s t : List (List ℕ)) →
    Wrote a at (comma_separated s) b i →
    Wrote b i (comma_separated t) c j →
    Wrote a at (comma_separated (s ++ t)) c j
Wrote-values s t v w = rw comma_separated_append (Wrote-then v w)

-- a text behind another
pub ruleset written = (Wrote-value, Wrote-then)
