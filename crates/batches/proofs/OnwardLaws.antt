-- What is left to run, from what was done before: nothing, or a step and then one command less.
use mathlib.Core.Path.{◌≡◌, sym, ap, ◌∙◌}
use mathlib.Core.List.{List}
use Prim.Native.Nat.{ℕ, suc, ◌+◌}
use native.Mathlib.Nat.{add-zero}
use borrow.Author.Tests.{eq-eqb, ne_eqb}
use Rattle.model.specs.declared.Geometry.{Geometry}
use Rattle.model.specs.declared.Row.{Row}
use Rattle.model.specs.declared.Pane.{Pane}
use Rattle.model.specs.Numbers.{status_running}
use Rattle.model.specs.Runs.{Finish, idle, add_counts, stepped, follow, runs}
use Rattle.model.proofs.Decisions.{cond_true}
use Rattle.model.proofs.RunLaws.{add_counts_zero, add_counts_twice, runs_idle}
use Rattle.perform.specs.Performing.{finish}
use Rattle.batches.specs.Batches.{onward}

-- what was done, and then nothing
add_counts_idle : (m h : ℕ) (p : Pane) (s t : List ℕ) → add_counts m h (idle p s t) ≡ finish m h p s t
add_counts_idle m h p s t = λ i. finish (add-zero m i) (add-zero h i) p s t

module _ (g : Geometry) (r : Row) where
  pub onward_none : (n : ℕ) (p : Pane) (s t : List ℕ) → onward g r n (finish 0 0 p s t) ≡ runs g r n p s t
  unfolding follow
  onward_none n p s t = add_counts_zero (runs g r n p s t)

  -- a spent budget, or a pane that does not run, leaves all as it is
  pub onward_zero : (f : Finish) → onward g r 0 f ≡ f
  unfolding follow runs
  onward_zero f = add_counts_idle f.count f.paint f.pane f.screen f.store

  pub onward_idle : (n : ℕ) (f : Finish) → (f.pane.progress.status ≡ status_running → ⊥) → onward g r n f ≡ f
  unfolding follow
  onward_idle n f h =
      ap (add_counts f.count f.paint) (runs_idle g r n f.pane f.screen f.store (ne_eqb f.pane.progress.status status_running h))
      ∙ add_counts_idle f.count f.paint f.pane f.screen f.store

  -- one step of a running pane, and then one command less
  pub onward_step : (n m h : ℕ) (p : Pane) (s t : List ℕ) (k j : ℕ) (q : Pane) (s' t' : List ℕ) → p.progress.status ≡ status_running
      → finish k j q s' t' ≡ stepped g r p s t → onward g r (suc n) (finish m h p s t) ≡ onward g r n (finish (m + k) (h + j) q s' t')
  unfolding follow runs
  onward_step n m h p s t k j q s' t' e f =
      ap (add_counts m h) (cond_true _ _ (eq-eqb p.progress.status status_running e) ∙ ap (follow (runs g r n)) (sym f))
      ∙ add_counts_twice m k h j (runs g r n q s' t')

  -- commands done from where others left off
  pub onward_more : (n b m h k j : ℕ) (p q : Pane) (s t s' t' : List ℕ) → onward g r n (finish k j q s' t') ≡ runs g r b p s t
      → onward g r n (finish (m + k) (h + j) q s' t') ≡ onward g r b (finish m h p s t)
  unfolding follow
  onward_more n b m h k j p q s t s' t' e = sym (add_counts_twice m k h j (runs g r n q s' t')) ∙ ap (add_counts m h) e
