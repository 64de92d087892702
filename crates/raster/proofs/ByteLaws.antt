-- What a truth table chooses, bit by bit: the operation of its code. Assumes nothing.
use mathlib.Core.Path.{◌≡◌, refl, ap, ap₂, ◌∙◌}
use mathlib.Core.Bool.{Bool, true, false, cond, ◌&&◌}
use Prim.Native.Nat.{ℕ, ◌*◌, ◌<◌}
use lib.Bits.{bit_and}
use Rattle.model.specs.Words.{bit, num, within}
use Rattle.model.specs.Operations.{op_bit}
use Rattle.model.proofs.BitLaws.{bit_num, num_cong}
use Rattle.raster.specs.declared.place.PixelPlace.{PixelPlace}
use Rattle.raster.specs.Operations.{Truth, truth_of, spread, muxed, chosen, bit_field}
use Rattle.raster.specs.Pixels.{overlaid}
use Rattle.raster.proofs.BitLaws.{bit_and_lem, muxed_bit, field_bit}

spread_num_lem : (v : Bool) → spread v ≡ num 8 (λ i. v)
unfolding num
spread_num_lem true = refl
spread_num_lem false = refl

spread_bit : (v : Bool) (i : ℕ) → i < 8 → bit (spread v) i ≡ v
spread_bit v i h = ap (λ (x : ℕ). bit x i) (spread_num_lem v) ∙ bit_num 8 (λ i. v) i h

chosen_table : (code : ℕ) (s d : Bool)
    → cond d (cond s (op_bit code true true) (op_bit code false true)) (cond s (op_bit code true false) (op_bit code false false)) ≡ op_bit code s d
chosen_table code true true = refl
chosen_table code true false = refl
chosen_table code false true = refl
chosen_table code false false = refl

-- the table's rule: its row for a code chooses the code's operation
pub chosen_bit : (code s d i : ℕ) → i < 8 → bit (chosen (truth_of code) s d) i ≡ op_bit code (bit s i) (bit d i)
unfolding chosen truth_of
chosen_bit code s d i h =
    muxed_bit d (muxed s a b) (muxed s e f) i h
    ∙ ap₂ (cond (bit d i)) (row e f (op_bit code false true) (op_bit code true true) (spread_bit (op_bit code false true) i h)
    (spread_bit (op_bit code true true) i h))
    (row a b (op_bit code false false) (op_bit code true false) (spread_bit (op_bit code false false) i h) (spread_bit (op_bit code true false) i h))
    ∙ chosen_table code (bit s i) (bit d i)
  where
    a : ℕ
    a = spread (op_bit code false false)

    b : ℕ
    b = spread (op_bit code true false)

    e : ℕ
    e = spread (op_bit code false true)

    f : ℕ
    f = spread (op_bit code true true)

    row : (x y : ℕ) (p q : Bool) → bit x i ≡ p → bit y i ≡ q → bit (muxed s x y) i ≡ cond (bit s i) q p
    row x y p q u v = muxed_bit s x y i h ∙ ap₂ (λ (p q : Bool). cond (bit s i) q p) u v

-- the byte that the code makes: under the mask's half and the pixel's field the truth table's entries, else the old bits
pub overlaid_is : (old : ℕ) (p : PixelPlace) (b mask : ℕ) (t : Truth) (source : ℕ) {m f : ℕ} → m ≡ bit_field mask (8 * p.half) 8 → f
    ≡ num 8 (within p.shift b)
    → muxed (bit_and m f) old (chosen t source old) ≡ overlaid old p b mask t source
unfolding muxed overlaid
overlaid_is old p b mask t source {m} {f} em ef = num_cong 8 _ _ λ i l.
    ap (λ (z : Bool). cond z (bit (chosen t source old) i) (bit old i))
    (bit_and_lem i m f
    ∙ ap₂ (λ (x y : Bool). x && y) (ap (λ (z : ℕ). bit z i) em ∙ field_bit mask (8 * p.half) 8 i l)
    (ap (λ (z : ℕ). bit z i) ef ∙ bit_num 8 (within p.shift b) i l))
