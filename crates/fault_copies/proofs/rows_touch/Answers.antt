-- `fault_copies::rows_touch` meets its contract. The invariant: the flag is the test joined over the rows
-- passed.
use mathlib.Core.Path.{◌≡◌, refl, sym, ap, ◌∙◌}
use mathlib.Core.Bool.{Bool}
use Prim.Native.Nat.{ℕ, suc, ◌+◌, ◌-◌, ◌*◌, ◌≤◌, ◌<◌}
use native.Mathlib.Numerals.{add-one}
use native.Mathlib.Omega.{arith}
use Rattle.model.specs.declared.Surface.{Surface}
use Rattle.model.specs.declared.Bitmap.{Bitmap}
use Rattle.model.specs.Ranges.{any_below}
use Rattle.model.specs.Bitmaps.{word_of, touches}
use Rattle.model.specs.Copies.{block_touches}
use Rattle.model.proofs.SetupLaws.{any_below_more}
use Rattle.fault_copies.proofs.BlockLaws.{BlockWithin, block_bad_within, bits_small, row_small}
use Rattle.fault_copies.proofs.rows_touch.Goals as goal
use Rattle.fault_copies.proofs.rows_touch.Goals.{Start}

-- whether bytes of row y + k touch
abbrev test : Bitmap → Surface → ℕ → ℕ → ℕ → ℕ → Bool
test active s y first size k = touches active (s.base + 2 * ((y + k) * s.words + first)) size

-- the block lies in its bitmap, and its last column is small
module _ (s : Start) where
  within : BlockWithin s.args.s s.args.b
  within = block_bad_within s.args.s s.args.b s.requires.1

  columns : s.args.b.x + s.args.b.dx < 65536
  columns = omega (arith, within.east, s.requires.0.small)

pub word_of-last-requires : goal.word_of-last-requires
word_of-last-requires c = (bits_small c.requires.0, columns (goal.at.word_of-last-requires c).Start)

pub loop-j-init : goal.loop-j-init
unfolding any_below
loop-j-init c = refl

pub row_touches-found-requires : goal.row_touches-found-requires
row_touches-found-requires c =
    let l : c.loop-j.j ≤ c.args.b.dy = omega (arith, c.loop-j-test.true) in (
      rw c.word_of-first.ensures.0 (row_small c.requires.0 (within (goal.at.row_touches-found-requires c).Start) c.loop-j.j l),
      omega (arith, c.word_of-last.ensures.1),
    )

pub loop-j-preserved : goal.loop-j-preserved
loop-j-preserved c =
    any_below_more _ c.loop-j.j c.row_touches-found.ensures c.loop-j.invariant

pub returns : goal.returns
unfolding block_touches
returns c =
    let l = c.loop-j in
    let a = c.args in
    let e : l.j ≡ suc a.b.dy = omega (arith, l.auto.j-end, c.loop-j-test.false) in
    let first = c.word_of-first.ensures.0 in
    let end : c.word_of-last.result + 1 ≡ suc (word_of a.s.bits (a.b.x + a.b.dx)) =
    ap (λ (n : ℕ). n + 1) c.word_of-last.ensures.0 ∙ add-one _ in
    l.invariant
    ∙ (λ i. any_below (e i) (test a.active a.s a.b.y (first i) (2 * (end i - first i))))
    ∙ sym (ap (block_touches a.active a.s) (within (goal.at.returns c).Start).is)
