-- Where a row and the pixels in it lie, as the code works it out: the numbers fit the machine's.
use mathlib.Core.Path.{◌≡◌, ap}
use mathlib.Core.List.{List}
use Prim.Native.Nat.{ℕ, ◌+◌, ◌*◌, ◌≤◌, ◌<◌}
use native.Mathlib.Omega.{arith}
use native.Mathlib.Nat.{mul_comm, mul-le-mul_left, mul-le-mul_right}
use lib.ListN.{length}
use Rattle.model.specs.declared.Surface.{Surface}
use Rattle.model.proofs.PlaceLaws.{depth_bounds}
use Rattle.strips.specs.Strips.{InRow}
use Rattle.strips.proofs.StretchLaws.{row_byte}

module _ (u : Surface) (s : List ℕ) (x y n : ℕ) (r : InRow u s x y n) where
  -- the byte at which the row begins, and the bits before the run, as the code works them out
  abbrev pub row_at : ℕ
  row_at = u.base + 2 * (u.words * (u.top + y))

  abbrev pub lo : ℕ
  lo = (u.left + x) * u.bits

  -- what the machine's numbers, the row and the buffer leave room for
  pub record RowSized : Type 0 where
    pub words : 0 < u.words
    pub down : u.top + y ≤ length s
    pub fit : lo + n * u.bits ≤ 16 * u.words
    pub short : lo + n * u.bits ≤ 524288
    pub some : 0 < n * u.bits
    pub room : row_at + 2 * u.words ≤ length s

  pub row_is : row_at ≡ row_byte u y
  row_is = ap (λ (k : ℕ). u.base + 2 * k) (mul_comm u.words (u.top + y))

  pub sized : 0 < n → RowSized
  sized k =
      let b = depth_bounds r.fits.depth in
      let c : (u.left + x + n) * u.bits ≤ (u.left + u.width) * u.bits = mul-le-mul_right u.bits (omega (arith, r.columns)) in
      let v : n * 1 ≤ n * u.bits = mul-le-mul_left n b.0 in
      let w : 0 < u.words = omega (arith, r.fits.right) in
      let z : (u.left + u.width) * u.bits ≤ (u.left + u.width) * 8 = mul-le-mul_left (u.left + u.width) b.1 in
      let t : (u.top + y + 1) * u.words ≤ (u.top + u.height) * u.words = mul-le-mul_right u.words (omega (arith, r.row)) in
      record {
        words = w;
        down = omega (arith, r.row, r.fits.long, mul-le-mul_left (u.top + u.height) w);
        fit = omega (arith, r.fits.right);
        short = omega (arith, r.small);
        some = omega arith;
        room = omega (arith, r.fits.long, mul_comm u.words (u.top + y));
      }
