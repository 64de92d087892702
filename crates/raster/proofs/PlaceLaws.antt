-- Where a pixel lies, as the code works it out: column c begins at bit z = c × b of its row, counted from a word's high end, so it lies
-- in byte z / 8 with the lowest bit flipped (words are low byte first), b bits above the z mod 8 that follow it. Assumes nothing.
use mathlib.Core.Path.{◌≡◌, refl, ap₂, ◌∙◌}
use Prim.Native.Nat.{ℕ, zero, suc, ◌+◌, ◌-◌, ◌*◌, ◌/◌, ◌%◌, ◌<◌, ◌≤◌}
use native.Mathlib.Omega.{arith}
use native.Mathlib.Nat.{mul_comm}
use lib.Bits.{bit_xor, differ, xor_step, xor_zero_r}
use Rattle.model.specs.Bitmaps.{grid_bit, place_bit, place_shift, Depth}
use Rattle.model.specs.declared.Surface.{Surface}
use Rattle.model.proofs.PlaceLaws.{column_in_byte}
use Rattle.raster.specs.declared.place.PixelPlace.{PixelPlace}
use Rattle.raster.specs.Place.{Lies}

-- ## The lowest bit flipped

flip_digit : (r : ℕ) → r < 2 → differ r 1 ≡ 1 - r
flip_digit zero h = refl
flip_digit (suc zero) h = refl
flip_digit (suc (suc r)) h = absurd (omega arith)

pub xor_one : (n : ℕ) → bit_xor n 1 ≡ n / 2 * 2 + (1 - n % 2)
xor_one n = xor_step n 1 ∙ ap₂ (λ (p q : ℕ). p * 2 + q) (xor_zero_r (n / 2)) (flip_digit (n % 2) (omega arith))

-- ## The place

module _ (s : Surface) (x y : ℕ) where
  -- the bits of its row before the pixel
  abbrev before : ℕ
  before = (s.left + x) * s.bits

  -- what the code computes
  abbrev pub pixel_place : PixelPlace
  pixel_place =
      record {
        at = s.base + 2 * (s.words * (s.top + y)) + bit_xor (before / 8) 1;
        shift = 8 - s.bits - before % 8;
        half = bit_xor (before / 8) 1 % 2;
      }

  pub place_lies : Depth s.bits → Lies s x y pixel_place
  unfolding place_bit grid_bit place_shift
  place_lies d =
      let h = column_in_byte d (s.left + x) in
      let f = xor_one (before / 8) in
      let z : before % 16 ≡ 8 * (before / 8 % 2) + before % 8 = omega arith in
      let w : s.words * (s.top + y) ≡ (s.top + y) * s.words = mul_comm s.words (s.top + y) in
      record {
        bit = omega arith;
        word = omega arith;
        inside = omega arith;
        half = omega arith;
      }

  -- the pixel's bits lie in one byte
  pub shift_in_byte : Depth s.bits → before % 8 ≤ 8 - s.bits
  shift_in_byte d = omega (arith, column_in_byte d (s.left + x))
