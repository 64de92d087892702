-- Return addresses: one more is kept, and taken back it leaves what was there.
use mathlib.Core.Path.{◌≡◌, refl, sym, ap, ◌∙◌}
use Prim.Native.Nat.{ℕ, zero, suc, ◌+◌, ◌-◌, ◌<◌}
use native.Mathlib.Omega.{arith}
use mathlib.Core.List.{List}
use lib.ListN.{length, get_or, set, replicate, length-set}
use lib.Seq.{get_or-set_same, get_or-set_other, set-set, set-get_or}
use Rattle.model.specs.declared.Returns.{Returns}
use Rattle.model.specs.Record.{no_returns}
use Rattle.model.specs.Effects.{kept_one, latest, without_latest}
use Rattle.judge.specs.Levels.{Kept}

zeros : (n k : ℕ) → ◌≡◌ {A = ℕ} (get_or (replicate n 0) k 0) 0
zeros zero k = refl
zeros (suc n) zero = refl
zeros (suc n) (suc k) = zeros n k

pub kept_none : Kept no_returns 0
kept_none = record { count = refl; slots = refl; clear = λ k h. zeros 8 k }

module _ (kept : Returns) (n a : ℕ) (h : Kept kept n) (fewer : n < 8) where
  room : kept.count < length kept.addresses
  room = omega (arith, h.count, h.slots)

  pub kept_more : Kept (kept_one kept a) (n + 1)
  kept_more = record {
    count = ap (λ (k : ℕ). k + 1) h.count;
    slots = length-set kept.addresses kept.count a ∙ h.slots;
    clear = λ k l. get_or-set_other kept.addresses kept.count k a 0 (λ e. omega (arith, h.count)) ∙ h.clear k (omega arith);
  }

  back : kept.count + 1 - 1 ≡ kept.count
  back = omega arith

  pub latest_more : latest (kept_one kept a) ≡ a
  latest_more = ap (λ (k : ℕ). get_or (set kept.addresses kept.count a) k 0) back ∙ get_or-set_same kept.addresses kept.count a 0 room

  cleared : set (set kept.addresses kept.count a) kept.count 0 ≡ kept.addresses
  cleared =
      set-set kept.addresses kept.count a 0
      ∙ sym (ap (λ (m : ℕ). set kept.addresses kept.count m) (h.clear kept.count (omega (arith, h.count))))
      ∙ set-get_or kept.addresses kept.count 0

  pub without_more : without_latest (kept_one kept a) ≡ kept
  without_more =
      ap (λ (k : ℕ). record { addresses = set (set kept.addresses kept.count a) k 0; count = k }) back
      ∙ ap (λ (l : List ℕ). record { addresses = l; count = kept.count }) cleared
