-- What a pen's stencil makes of a row is what its pattern, laid over the columns, makes of it.
use mathlib.Core.Path.{◌≡◌, sym, ap, ap₂, ◌∙◌}
use mathlib.Core.Bool.{Bool, true, false, cond, ◌&&◌}
use Prim.Native.Nat.{ℕ, ◌+◌, ◌-◌, ◌*◌, ◌/◌, ◌%◌, ◌≤◌, ◌<◌}
use native.Mathlib.Omega.{arith}
use Rattle.model.specs.Words.{bit}
use Rattle.model.specs.Bitmaps.{Depth}
use Rattle.model.specs.declared.Pen.{Pen}
use Rattle.model.proofs.PlaceLaws.{depth_bounds}
use Rattle.raster.proofs.BitLaws.{differs}
use Rattle.strips.specs.Stretches.{across, In}
use Rattle.strips.specs.Strips.{mixed_bit, pen_bit, InkOf}
use Rattle.strips.specs.Strokes.{pattern_on}
use Rattle.strips.specs.declared.inks.Ink.{Ink}
use Rattle.strips.proofs.DottedLaws.{dotted, word_columns}
use Rattle.strips.proofs.PatternLaws.{depth_elim}
use Rattle.strips.proofs.WeaveLaws.{inked}
use Rattle.stencils.specs.declared.Stencil.{Stencil}
use Rattle.stencils.specs.declared.fours.WideInk.{WideInk}
use Rattle.stencils.specs.Stencils.{WideOf, inked_bit, stencilled, StencilOf}

-- in one word a wide ink is the word's
wide_bit : {fore back : Ink} {f b : WideInk} → WideOf fore f → WideOf back b → (on : Bool) (i : ℕ) → i < 16 → (v : Bool)
    → inked_bit f b on i v ≡ mixed_bit (cond on fore.keep back.keep) (cond on fore.flip back.flip) i v
wide_bit {fore} {back} {f} {b} p q on i l v = ap₂ (λ (x y : Bool). differs (v && x) y) (keeps on) (flips on)
  where
    same : (x w : ℕ) → bit x i ≡ bit w (i % 16) → bit x i ≡ bit w i
    same x w e = let z : i % 16 ≡ i = omega arith in e ∙ ap (bit w) z

    keeps : (on : Bool) → bit (cond on f.keep b.keep) i ≡ bit (cond on fore.keep back.keep) i
    keeps true = same f.keep fore.keep (p.keep i (omega arith))
    keeps false = same b.keep back.keep (q.keep i (omega arith))

    flips : (on : Bool) → bit (cond on f.flip b.flip) i ≡ bit (cond on fore.flip back.flip) i
    flips true = same f.flip fore.flip (p.flip i (omega arith))
    flips false = same b.flip back.flip (q.flip i (omega arith))

-- how many pixels a word has
pub word_pixels : {bits : ℕ} → Depth bits → 16 / bits * bits ≡ 16
word_pixels d = depth_elim (λ b. 16 / b * b ≡ 16) (omega arith) (omega arith) (omega arith) (omega arith) d

-- the pattern's index over bit a of a row, from its word w on
index_on : (bits phase turn w a : ℕ) → Depth bits → 16 * w ≤ a → turn ≡ (phase + w * (16 / bits)) % 16
    → (turn + (a - 16 * w) / bits) % 16 ≡ (phase + a / bits) % 16
index_on bits phase turn w a d h e =
    let z : 16 * w + (a - 16 * w) ≡ a = omega arith in
    let c : a / bits ≡ w * (16 / bits) + (a - 16 * w) / bits
    = ap (λ (n : ℕ). n / bits) (sym z) ∙ word_columns (16 / bits) bits w (a - 16 * w) (word_pixels d) (depth_bounds d).0 in
    rw (e, c) (folded phase (w * (16 / bits)) ((a - 16 * w) / bits))
  where
    folded : (a b c : ℕ) → ((a + b) % 16 + c) % 16 ≡ (a + (b + c)) % 16
    folded a b c = omega arith

module _ {pen : Pen} {fore back : Ink} {bits turn lo hi : ℕ} {s : Stencil} (so : StencilOf fore back bits turn lo hi s)
    (ones : InkOf pen true fore) (zeros : InkOf pen false back) (depth : Depth bits) where
  pub stencil_dotted : (met phase o m : ℕ) (v : Bool) → turn ≡ (phase + lo / 16 * (16 / bits)) % 16 → In o lo hi m
      → stencilled s met o m v ≡ dotted pen (λ c. pattern_on met (phase + c)) bits o m v
  unfolding stencilled
  stencil_dotted met phase o m v e i =
      wide_bit so.ones so.zeros (pattern_on met (s.turn + (across o m - 16 * s.word) / s.bits)) ((m - 8 * o) % 16) (omega arith) v
      ∙ inked pen fore back ones zeros (pattern_on met (s.turn + (across o m - 16 * s.word) / s.bits)) ((m - 8 * o) % 16) (omega arith) v
      ∙ rw (so.depth, so.index, so.word)
      (ap (λ (k : ℕ). pen_bit pen (bit met (15 - k)) ((m - 8 * o) % 16) v) (index_on bits phase turn (lo / 16) (across o m) depth (omega (arith, i.from)) e))
