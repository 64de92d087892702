-- A pixel of a surface through the byte that holds it: reading it is reading a field of that byte, and a blend stores that byte alone.
-- Assumes nothing.
use mathlib.Core.Path.{◌≡◌, refl, sym, ap, ap₂, ◌∙◌}
use mathlib.Core.Bool.{Bool, true, false, cond, ◌&&◌}
use mathlib.Core.List.{List}
use Prim.Native.Nat.{ℕ, ◌+◌, ◌-◌, ◌*◌, ◌/◌, ◌%◌, ◌^◌, ◌≤◌, ◌<◌}
use native.Mathlib.Omega.{arith}
use native.Mathlib.Nat.{mul-le-mul_left}
use borrow.Author.Tests.{leb-true, ltb-true}
use lib.Dec.{leb, ltb}
use lib.ListN.{length, get_or, set}
use Rattle.model.specs.Words.{bit, num, within, field_at, splice}
use Rattle.model.specs.Operations.{op_bit, new_bit}
use Rattle.model.specs.Bitmaps.{place_bit, place_shift, pixels}
use Rattle.model.specs.Pixels.{source_bit, blend, change}
use Rattle.model.specs.declared.Surface.{Surface}
use Rattle.model.specs.declared.Pen.{Pen}
use Rattle.model.specs.declared.Source.{Source}
use Rattle.model.specs.declared.Source.TheVariants.{Colour, Copied}
use Rattle.model.proofs.BitLaws.{num_cong}
use Rattle.model.proofs.CodeLaws.{blend_byte}
use Rattle.model.proofs.Decisions.{split, both_true}
use Rattle.model.proofs.PixelLaws.{inside_of, pixels_in}
use Rattle.raster.specs.declared.place.PixelPlace.{PixelPlace}
use Rattle.raster.specs.Operations.{Truth, truth_of, chosen, bit_field}
use Rattle.raster.specs.Place.{PlaceFits, Lies, Drawable}
use Rattle.raster.specs.Pixels.{blending, overlaid}
use Rattle.raster.proofs.BitLaws.{bit_mod, bit_shl, field_bit}
pub use Rattle.raster.proofs.BitLaws.{bit_zero}
use Rattle.raster.proofs.ByteLaws.{chosen_bit}
use Rattle.model.proofs.PlaceLaws.{depth_bounds}
use Rattle.raster.proofs.ChangeLaws.{replaced, updated, byte_fits, change_in}

-- ## One byte

masked : (m w n d : Bool) → cond (m && w) n d ≡ cond w (cond m n d) d
masked true true n d = refl
masked true false n d = refl
masked false true n d = refl
masked false false n d = refl

-- the byte that the code stores is the byte with the pixel's field blended
pub overlaid_blend : (old : ℕ) (p : PixelPlace) (b : ℕ) (pen : Pen) (source : Source) (t : Truth) (byte : ℕ) → t ≡ truth_of pen.op
    → ((i : ℕ) → p.shift ≤ i → i < p.shift + b → bit byte i ≡ source_bit source (8 * p.half + p.shift) (i - p.shift))
    → overlaid old p b pen.mask t byte ≡ splice old p.shift b (blend b (8 * p.half + p.shift) pen source (bit_field old p.shift b))
unfolding overlaid bit_field
overlaid_blend old p b pen source t byte e h = num_cong 8 _ _ each ∙ sym (blend_byte old p.shift p.half b pen source)
  where
    S : ℕ → Bool
    S i = source_bit source (8 * p.half + p.shift) (i - p.shift)

    M : ℕ → Bool
    M i = bit pen.mask (8 * p.half + i)

    each : (i : ℕ) → i < 8
        → cond (M i && within p.shift b i) (bit (chosen t byte old) i) (bit old i)
        ≡ cond (within p.shift b i) (new_bit pen.op (M i) (S i) (bit old i)) (bit old i)
    each i l =
        masked (M i) (within p.shift b i) (bit (chosen t byte old) i) (bit old i)
        ∙ split (within p.shift b i)
        (λ w. let k = both_true (leb p.shift i) (ltb i (p.shift + b)) w in
        ap (λ (z : Bool). cond (within p.shift b i) (cond (M i) z (bit old i)) (bit old i))
        (ap (λ (t : Truth). bit (chosen t byte old) i) e ∙ chosen_bit pen.op byte old i l
        ∙ ap (λ (z : Bool). op_bit pen.op z (bit old i)) (h i (leb-true p.shift i k.0) (ltb-true i (p.shift + b) k.1))))
        (λ w. rw w refl)

-- ## A source byte

-- the half of a colour word that lies over the pixel's byte
pub colour_bits : (p : PixelPlace) (colour i : ℕ) {byte : ℕ} → byte ≡ bit_field colour (8 * p.half) 8
    → p.shift ≤ i → i < 8 → bit byte i ≡ source_bit (Colour colour) (8 * p.half + p.shift) (i - p.shift)
colour_bits p colour i e h l =
    let k : 8 * p.half + i ≡ 8 * p.half + p.shift + (i - p.shift) = omega arith in
    ap (λ (z : ℕ). bit z i) e ∙ field_bit colour (8 * p.half) 8 i l ∙ ap (bit colour) k

-- a copied value shifted to the pixel's bits
pub value_bits : (p : PixelPlace) (value i : ℕ)
    → p.shift ≤ i → i < 8 → bit (value * 2 ^ p.shift % 2 ^ 8) i ≡ source_bit (Copied value) (8 * p.half + p.shift) (i - p.shift)
value_bits p value i h l =
    let k : i ≡ p.shift + (i - p.shift) = omega arith in
    bit_mod 8 (value * 2 ^ p.shift) i l ∙ ap (bit (value * 2 ^ p.shift)) k ∙ bit_shl value p.shift (i - p.shift)

-- each of the three
pub ruleset sources = (bit_zero, colour_bits, value_bits)

-- ## A pixel in its buffer

module _ (s : Surface) (buffer : List ℕ) (x y : ℕ) (d : Drawable s buffer x y) where
  pub place_fits : length buffer < 2 ^ 64 → PlaceFits s x y
  place_fits l =
      let b = depth_bounds d.fits.depth in
      let w : 0 < s.words = omega (arith, d.column, d.fits.right, mul-le-mul_left (s.left + s.width) b.0) in
      record {
        depth = d.fits.depth;
        column = omega (arith, d.column, d.small);
        row = omega (arith, d.row, d.fits.long, mul-le-mul_left (s.top + s.height) w);
        byte = omega (arith, byte_fits s buffer d.fits x y d.column d.row);
      }

  module _ (p : PixelPlace) (q : Lies s x y p) where
    at_is : place_bit s x y / 8 ≡ p.at
    at_is = omega (arith, q.bit, q.inside, depth_bounds d.fits.depth)

    shift_is : place_bit s x y % 8 ≡ p.shift
    shift_is = omega (arith, q.bit, q.inside, depth_bounds d.fits.depth)

    pub place_in : p.at < length buffer
    place_in = omega (arith, byte_fits s buffer d.fits x y d.column d.row, at_is)

    pub pixels_at : pixels s buffer x y ≡ bit_field (get_or buffer p.at 0) p.shift s.bits
    unfolding field_at bit_field
    pixels_at =
        pixels_in s buffer x y (inside_of s x y d.column d.row)
        ∙ ap₂ (λ (a k : ℕ). num s.bits (λ i. bit (get_or buffer a 0) (k + i))) at_is shift_is

    pub change_at : (new : ℕ → ℕ) → change s (record { x = x; y = y; new = new }) buffer ≡ updated p.at (replaced p.shift s.bits new) buffer
    change_at new =
        change_in s (record { x = x; y = y; new = new }) buffer (inside_of s x y d.column d.row)
        ∙ ap₂ (λ (a k : ℕ). updated a (replaced k s.bits new) buffer) at_is shift_is

    pub blending_at : (pen : Pen) (source : Source) (t : Truth) (byte : ℕ) → t ≡ truth_of pen.op
        → ((i : ℕ) → p.shift ≤ i → i < 8 → bit byte i ≡ source_bit source (8 * p.half + p.shift) (i - p.shift))
        → set buffer p.at (overlaid (get_or buffer p.at 0) p s.bits pen.mask t byte) ≡ change s (blending s pen source x y) buffer
    blending_at pen source t byte e h =
        ap (set buffer p.at) (overlaid_blend (get_or buffer p.at 0) p s.bits pen source t byte e (λ i a b. h i a (omega (arith, q.inside))))
        ∙ ap (λ (k : ℕ). updated p.at (replaced p.shift s.bits (blend s.bits k pen source)) buffer) q.word
        ∙ sym (change_at (blend s.bits (place_shift s x) pen source))
