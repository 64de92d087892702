-- Runs add up (02, A.8): a run of a + b commands is a run of a and then a run of b.
use mathlib.Core.Path.{◌≡◌, refl, sym, ap, ◌∙◌}
use mathlib.Core.Bool.{false}
use mathlib.Core.List.{List}
use Prim.Native.Nat.{ℕ, zero, suc, ◌+◌}
use native.Mathlib.Nat.{zero-add, suc-add, add_assoc}
use lib.Dec.{eqb}
use Rattle.model.specs.Numbers.{status_running}
use Rattle.model.specs.Bitmaps.{Geometry, Row}
use Rattle.model.specs.Record.{Pane}
use Rattle.model.specs.Runs.{Finish, idle, add_counts, stepped, follow, runs}
use Rattle.model.proofs.Decisions.{split, cond_true, cond_false}

pub add_counts_zero : (f : Finish) → add_counts 0 0 f ≡ f
add_counts_zero f = λ i. record { count = zero-add f.count i; paint = zero-add f.paint i; pane = f.pane; screen = f.screen; store = f.store }

pub add_counts_twice : (m n h k : ℕ) (f : Finish) → add_counts m h (add_counts n k f) ≡ add_counts (m + n) (h + k) f
add_counts_twice m n h k f =
    λ i. record { count = sym (add_assoc m n f.count) i; paint = sym (add_assoc h k f.paint) i; pane = f.pane; screen = f.screen; store = f.store }

module _ (g : Geometry) (r : Row) where
  -- what a run left, run on
  pub then_run : Finish → ℕ → Finish
  then_run e b = add_counts e.count e.paint (runs g r b e.pane e.screen e.store)

  pub runs_idle : (n : ℕ) (p : Pane) (s t : List ℕ) → eqb p.progress.status status_running ≡ false → runs g r n p s t ≡ idle p s t
  unfolding runs
  runs_idle zero p s t e = refl
  runs_idle (suc n) p s t e = cond_false _ _ e

  pub runs_add : (a b : ℕ) (p : Pane) (s t : List ℕ) → runs g r (a + b) p s t ≡ then_run (runs g r a p s t) b
  unfolding runs then_run follow
  runs_add zero b p s t = ap (λ (n : ℕ). runs g r n p s t) (zero-add b) ∙ sym (add_counts_zero (runs g r b p s t))
  runs_add (suc a) b p s t = ap (λ (n : ℕ). runs g r n p s t) (suc-add a b) ∙ split (eqb p.progress.status status_running)
      (λ e. cond_true _ _ e
      ∙ (let q = stepped g r p s t in
      ap (add_counts q.count q.paint) (runs_add a b q.pane q.screen q.store) ∙ add_counts_twice q.count _ q.paint _ _)
      ∙ sym (ap (λ (z : Finish). then_run z b) (cond_true _ _ e)))
      (λ e. cond_false _ _ e ∙ sym (add_counts_zero (idle p s t)) ∙ sym (ap (add_counts 0 0) (runs_idle b p s t e))
      ∙ sym (ap (λ (z : Finish). then_run z b) (cond_false _ _ e)))
