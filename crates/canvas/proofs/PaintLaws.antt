-- What an equation `canvas .. ≡ painted_all t dots ..` gives a loop: the target's promise and the bound of the count stay, and one dot more.
use mathlib.Core.Path.{◌≡◌, sym, ap, ap₂, ◌∙◌}
use mathlib.Core.List.{List}
use Prim.Native.Nat.{ℕ, ◌+◌, ◌≤◌}
use native.Mathlib.Omega.{arith}
use lib.ListN.{length}
use Rattle.model.specs.Ranges.{listed}
use Rattle.model.specs.Dots.{Dot}
use Rattle.canvas.specs.declared.Target.{Target}
use Rattle.canvas.specs.Canvas.{Canvas, painted, painted_all}
use Rattle.canvas.specs.Targets.{Ready}
use Rattle.canvas.proofs.CanvasLaws.{SameLengths, painted_all_next, painted_all_lengths, painted_all_hits, hits_length}
use Rattle.canvas.proofs.TargetLaws.{ready_on}

module _ (t : Target) (ds : List Dot) (c₀ : Canvas) {c : Canvas} (e : c ≡ painted_all t ds c₀) where
  pub lengths_painted : SameLengths c₀ c
  lengths_painted = rw e (painted_all_lengths t ds c₀)

  pub ready_painted : Ready t (length c₀.screen) (length c₀.store) → Ready t (length c.screen) (length c.store)
  ready_painted h = ready_on lengths_painted.screen lengths_painted.store h

  pub hits_painted : c.hits ≤ c₀.hits + length ds
  hits_painted = omega (arith, ap (λ (z : Canvas). z.hits) e, painted_all_hits t ds c₀, hits_length t ds)

-- a loop's turn draws the next of its dots
pub painted_next : (t : Target) (i : ℕ) (f : ℕ → Dot) (c₀ : Canvas) {c c' : Canvas} {d : Dot} → c ≡ painted_all t (listed 0 i f) c₀ → d ≡ f i → c'
    ≡ painted t d c
    → c' ≡ painted_all t (listed 0 (i + 1) f) c₀
painted_next t i f c₀ e q p = p ∙ ap₂ (painted t) q e ∙ sym (painted_all_next t i f c₀)
