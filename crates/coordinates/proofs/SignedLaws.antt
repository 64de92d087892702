-- Whole numbers: how large a sum, a negation and a 16-bit coordinate are, and what a signed test says.
use Rattle.std.proofs.Common.{◌≡◌, ℕ, zero, suc, ◌+◌, ◌-◌, ◌<◌, ◌≤◌, Bool, true, false, cond, T, ltb, ℤ, pos, negsuc, ◌+ℤ◌, ◌-ℤ◌, neg_ℤ, nat_abs, sym, refl, ap, subst, zero-add, arith, w32, w64, Fits, SFits, to_z, ltb-false, ltb-true, le-ltb, lt-ltb, le-leb}
use lib.Signed.{mag, lt_z, non_neg}
use borrow.Author.Tests.{lt-leb}
use mir.Facts.{to_z_pos}
use Rattle.model.specs.Coordinates.{coord, sign_as, negative, index}
use Rattle.model.proofs.Decisions.{split}
use Rattle.coordinates.specs.Offsets.{directed, index_in}
use Rattle.std.specs.Prelude.{Some, None}

-- ## Magnitudes

mag_cond : (t : Bool) (x y n : ℕ) → x ≤ n → y ≤ n → mag (cond t (negsuc x) (pos y)) ≤ n
mag_cond true x y n h k = h
mag_cond false x y n h k = k

mag_add : (a b : ℤ) → mag (a +ℤ b) ≤ suc (mag a + mag b)
mag_add (pos a) (pos b) = omega arith
mag_add (pos a) (negsuc b) = mag_cond (ltb a (suc b)) (suc b - suc a) (a - suc b) _ (omega arith) (omega arith)
mag_add (negsuc a) (pos b) = mag_cond (ltb b (suc a)) (suc a - suc b) (b - suc a) _ (omega arith) (omega arith)
mag_add (negsuc a) (negsuc b) = omega arith

mag_neg : (a : ℤ) → mag (neg_ℤ a) ≤ suc (mag a)
mag_neg (pos zero) = omega arith
mag_neg (pos (suc a)) = omega arith
mag_neg (negsuc a) = omega arith

pub nat_abs_mag : (z : ℤ) → nat_abs z ≤ suc (mag z)
nat_abs_mag (pos k) = omega arith
nat_abs_mag (negsuc k) = omega arith

-- ## A 16-bit coordinate

pub nat_abs_coord : (d : ℕ) → nat_abs (coord d) ≤ 32768
nat_abs_coord d = split (ltb d 32768)
    (λ e. let l = ltb-true d 32768 e in rw e (omega arith))
    (λ e. let l = ltb-false d 32768 e in rw e (omega arith))

pub index_coord : (d : ℕ) → index (coord d) ≤ 32767
index_coord d = split (ltb d 32768)
    (λ e. let l = ltb-true d 32768 e in rw e (omega arith))
    (λ e. rw e (omega arith))

pub nat_abs_negate : (z : ℤ) → nat_abs (neg_ℤ z) ≡ nat_abs z
nat_abs_negate (pos zero) = refl
nat_abs_negate (pos (suc n)) = refl
nat_abs_negate (negsuc n) = refl

pub coord_low : (p : ℕ) → p < 32768 → coord p ≡ pos p
coord_low p h = rw (lt-ltb p 32768 h)

pub coord_high : (p : ℕ) → 32768 ≤ p → coord p ≡ negsuc (65535 - p)
coord_high p h = rw (le-ltb p 32768 h)

pub coord_difference : (p : ℕ) → 32768 ≤ p → p < 65536 → pos p -ℤ pos 65536 ≡ coord p
coord_difference p h k = rw (lt-ltb p 65536 k, le-ltb p 32768 h) (ap negsuc (let e : 65536 - suc p ≡ 65535 - p = omega arith in e))

pub mag_coord : (p : ℕ) → p < 65536 → mag (coord p) < 32768
mag_coord p h = split (ltb p 32768)
    (λ e. let l = ltb-true p 32768 e in subst (λ (z : ℤ). mag z < 32768) (sym (coord_low p l)) l)
    (λ e. let l = ltb-false p 32768 e in subst (λ (z : ℤ). mag z < 32768) (sym (coord_high p l)) (omega arith))

-- ## What a signed test says

pub negated : (z : ℤ) → lt_z z (pos 0) ≡ true → pos 0 -ℤ z ≡ pos (nat_abs z)
negated (pos k) h = absurd (let l : k < 0 = ltb-true k 0 h in omega arith)
negated (negsuc k) h = ap pos (zero-add (suc k))

-- ## A number of 32 bits

pub small32 : {z : ℤ} → mag z < 2147483648 → SFits w32 z
small32 h = record { sfits = h }

pub pos32 : (n : ℕ) → n < 2147483648 → to_z w32 n ≡ pos n
pos32 n h = to_z_pos w32 h

-- the two halves of a cast to usize of a signed number that is not negative
pub cast_up : (z : ℤ) → SFits w32 z → lt_z z (pos 0) ≡ false → T (non_neg z) × Fits w64 (nat_abs z)
cast_up (pos k) f h = (tt, record { fits = let g : k < 2147483648 = f.sfits in omega arith })
cast_up (negsuc k) f h = absurd (subst T h tt)

pub sum_fits : (z : ℤ) (k : ℕ) → mag z < 32768 → k ≤ 65536 → SFits w32 (z +ℤ pos k)
sum_fits z k h g = small32 (omega (arith, mag_add z (pos k)))

pub diff_fits : (z : ℤ) (k : ℕ) → mag z < 32768 → k ≤ 65536 → SFits w32 (z -ℤ pos k)
diff_fits z k h g = small32 (omega (arith, mag_add z (neg_ℤ (pos k)), mag_neg (pos k)))

-- ## Directions

-- "each with its sign"
pub sign_as_directed : (d : ℤ) (k : ℕ) → sign_as d k ≡ directed (negative d) k
sign_as_directed (pos d) k = refl
sign_as_directed (negsuc d) k = refl

-- ## Indices

-- the cast of a number that passed both tests
pub cast_between : (z : ℤ) (lo : ℕ) → SFits w32 z → lt_z z (pos lo) ≡ false → T (non_neg z) × Fits w64 (nat_abs z)
cast_between (pos k) lo f h = (tt, record { fits = let g : k < 2147483648 = f.sfits in omega arith })
cast_between (negsuc k) lo f h = absurd (subst T h tt)

pub index_low : (lo hi : ℕ) (z : ℤ) → lt_z z (pos lo) ≡ true → None ≡ index_in lo hi z
unfolding index_in
index_low lo hi (pos k) h = let l = ltb-true k lo h in rw (lt-leb lo k l)
index_low lo hi (negsuc k) h = refl

pub index_high : (lo hi : ℕ) (z : ℤ) → lt_z z (pos lo) ≡ false → lt_z (pos hi) z ≡ true → None ≡ index_in lo hi z
unfolding index_in
index_high lo hi (pos k) g h = let l = ltb-true hi k h in let m = ltb-false k lo g in rw (le-leb lo k m, lt-leb k hi l)
index_high lo hi (negsuc k) g h = refl

pub index_at : (lo hi : ℕ) (z : ℤ) → lt_z z (pos lo) ≡ false → lt_z (pos hi) z ≡ false → Some (nat_abs z) ≡ index_in lo hi z
unfolding index_in
index_at lo hi (pos k) g h = let l = ltb-false hi k h in let m = ltb-false k lo g in rw (le-leb lo k m, le-leb k hi l)
index_at lo hi (negsuc k) g h = absurd (subst T g tt)
