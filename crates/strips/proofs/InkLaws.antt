-- What a pen makes of a half of a word, and of a word, as (old & keep) ^ flip.
use mathlib.Core.Path.{◌≡◌, refl, ap, ap₂, ◌∙◌}
use mathlib.Core.Bool.{Bool, true, false, cond, ◌&&◌}
use Prim.Native.Nat.{ℕ, ◌+◌, ◌-◌, ◌*◌, ◌<◌}
use native.Mathlib.Omega.{arith}
use native.Mathlib.Decide.{dec_lt}
use native.Mathlib.Nat.{zero-add}
use lib.Bits.{bit_xor}
use Rattle.model.specs.Words.{bit}
use Rattle.model.specs.Operations.{op_bit, new_bit}
use Rattle.model.specs.declared.Pen.{Pen}
use Rattle.raster.specs.Operations.{truth_of, muxed, chosen, bit_field}
use Rattle.raster.specs.declared.operations.Truth.{Truth}
use Rattle.raster.proofs.BitLaws.{bit_zero, bit_xor_lem, differs, muxed_bit, field_bit}
use Rattle.raster.proofs.ByteLaws.{chosen_bit}
use Rattle.raster.proofs.Table.{each}
use Rattle.strips.specs.declared.inks.Mix.{Mix}
use Rattle.strips.specs.Strips.{mixed_bit, MixOf, ColourInk, InkOf}
use Rattle.strips.proofs.BitParts.{bit_low, bit_high}

-- ## A half of a word

all_ones : (j : ℕ) → j < 8 → bit 255 j ≡ true
unfolding bit
all_ones j h = each 8 (bit 255) (λ i. true) refl j h

-- d & (p ^ q) ^ p is q where d is 1, else p
pick_bit : (f : Bool → Bool) (d : Bool) → differs (d && differs (f false) (f true)) (f false) ≡ f d
pick_bit f true = twice (f false) (f true)
  where
    twice : (p q : Bool) → differs (differs p q) p ≡ q
    twice true true = refl
    twice true false = refl
    twice false true = refl
    twice false false = refl
pick_bit f false = refl

module _ (pen : Pen) (colour half : ℕ) (t : Truth) (table : t ≡ truth_of pen.op) {source mask : ℕ}
    (sources : source ≡ bit_field colour (8 * half) 8) (masks : mask ≡ bit_field pen.mask (8 * half) 8) where
  new : ℕ → Bool → Bool
  new j = new_bit pen.op (bit pen.mask (8 * half + j)) (bit colour (8 * half + j))

  -- the pen's new bits where all old bits are equal
  all : (v : Bool) (old : ℕ) {r : ℕ} → r ≡ muxed mask old (chosen t source old) → (j : ℕ) → j < 8 → bit old j ≡ v → bit r j ≡ new j v
  unfolding new
  all v old e j h o =
      ap (λ (z : ℕ). bit z j) e ∙ muxed_bit mask old (chosen t source old) j h
      ∙ ap₂ (λ (m z : Bool). cond m z (bit old j)) (ap (λ (z : ℕ). bit z j) masks ∙ field_bit pen.mask (8 * half) 8 j h)
      (ap (λ (t : Truth). bit (chosen t source old) j) table ∙ chosen_bit pen.op source old j h
      ∙ ap (λ (z : Bool). op_bit pen.op z (bit old j)) (ap (λ (z : ℕ). bit z j) sources ∙ field_bit colour (8 * half) 8 j h))
      ∙ ap (new_bit pen.op (bit pen.mask (8 * half + j)) (bit colour (8 * half + j))) o

  pub mix_is : {flip one : ℕ} → flip ≡ muxed mask 0 (chosen t source 0) → one ≡ muxed mask 255 (chosen t source 255)
      → MixOf pen colour half (record { keep = bit_xor flip one; flip = flip })
  unfolding new
  mix_is {flip} {one} p q = record {
    bits = λ j h d.
        ap₂ (λ (x y : Bool). differs (d && x) y)
        (bit_xor_lem j flip one ∙ ap₂ differs (all false 0 p j h (bit_zero j)) (all true 255 q j h (all_ones j h)))
        (all false 0 p j h (bit_zero j))
        ∙ pick_bit (new j) d;
  }

-- ## A word

-- from its two halves
pub ink_joined : (pen : Pen) (colour : ℕ) (low high : Mix) {keep flip : ℕ} → low.keep < 256 → low.flip < 256 → MixOf pen colour 0 low
    → MixOf pen colour 1 high → keep ≡ low.keep + 256 * high.keep → flip ≡ low.flip + 256 * high.flip
    → ColourInk pen colour (record { keep = keep; flip = flip })
ink_joined pen colour low high {keep} {flip} a b p q e f = record { bits = λ i h d. go i h d (dec_lt i 8) }
  where
    go : (i : ℕ) → i < 16 → (d : Bool) → Dec (i < 8) → mixed_bit keep flip i d ≡ new_bit pen.op (bit pen.mask i) (bit colour i) d
    go i h d (yes l) =
        ap₂ (λ (x y : Bool). differs (d && x) y) (ap (λ (z : ℕ). bit z i) e ∙ bit_low 8 low.keep high.keep a i l)
        (ap (λ (z : ℕ). bit z i) f ∙ bit_low 8 low.flip high.flip b i l)
        ∙ p.bits i l d ∙ ap (λ (k : ℕ). new_bit pen.op (bit pen.mask k) (bit colour k) d) (zero-add i)
    go i h d (no l) =
        let z : 8 * 1 + (i - 8) ≡ i = omega arith in
        ap₂ (λ (x y : Bool). differs (d && x) y) (ap (λ (z : ℕ). bit z i) e ∙ bit_high 8 low.keep high.keep a i (omega arith))
        (ap (λ (z : ℕ). bit z i) f ∙ bit_high 8 low.flip high.flip b i (omega arith))
        ∙ q.bits (i - 8) (omega arith) d
        ∙ ap (λ (k : ℕ). new_bit pen.op (bit pen.mask k) (bit colour k) d) z

-- under a pattern's 0, which a transparent pen keeps
pub back_none : (pen : Pen) → pen.transparent ≡ true → InkOf pen false (record { keep = 65535; flip = 0 })
unfolding bit
back_none pen e = record { bits = λ i h d. rw (each 16 (bit 65535) (λ i. true) refl i h, bit_zero i, e) (kept d) }
  where
    kept : (d : Bool) → differs (d && true) false ≡ d
    kept true = refl
    kept false = refl
