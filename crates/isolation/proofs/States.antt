-- States that set-up's checks accept, what no call changes in them, one pane's share of a state, and the state that set-up leaves.
-- Two states agree on a pane where its shares of them are equal.
use mathlib.Core.Path.{◌≡◌, refl, sym, ap, ◌∙◌, subst}
use mathlib.Core.List.{List, []}
use Prim.Native.Nat.{ℕ, ◌*◌, ◌≤◌, ◌<◌}
use native.Mathlib.Omega.{arith}
use native.Mathlib.Nat.{mul-le-mul_right}
use lib.ListN.{length, replicate}
use lib.Dec.{eqb}
use borrow.Author.Tests.{eqb-true, eq-eqb}
use Rattle.model.specs.declared.Geometry.{Geometry}
use Rattle.model.specs.declared.Row.{Row}
use Rattle.model.specs.declared.Pane.{Pane}
use Rattle.model.specs.Replies.{refused_with, accepted_with}
use Rattle.model.specs.Bitmaps.{row_words, pane_surface, pixels, Fits}
use Rattle.model.specs.Record.{fresh}
use Rattle.model.specs.Setup.{row_at, checks}
use Rattle.model.specs.Calls.{State, Answer, row_of, record_of, part, setup_refusal, set_up}
use Rattle.model.proofs.Decisions.{split, cond_true, cond_false}
use Rattle.model.proofs.SetupLaws.{Valid, checks_say}
use Rattle.isolation.specs.TwoRuns.{Accepted}

-- ## Set-up's checks pass

pub record Consistent (s : State) : Type 0 where
  pub check : setup_refusal s ≡ 0
  pub records : length s.console.panes ≡ 8

pub valid : (s : State) → Consistent s → Valid s.console.geometry s.console.count s.console.rows (length s.screen) (length s.stores)
unfolding setup_refusal
valid s d = checks_say _ _ _ _ _ d.check

-- the screen's columns fit into its rows' words
pub columns_fit : (g : Geometry) → g.width * g.depth ≤ 16 * row_words g.width g.depth
columns_fit g = omega arith

pub pane_fits : (s : State) → Consistent s → (k : ℕ) → k < s.console.count → Fits (pane_surface s.console.geometry (row_of s k)) s.screen
unfolding row_of pane_surface
pane_fits s d k h =
    let v = valid s d in
    let g = s.console.geometry in
    record {
      depth = v.depth;
      right = omega (arith, mul-le-mul_right g.depth (v.rectangle k h).right, columns_fit g);
      long = omega (arith, v.long, mul-le-mul_right (row_words g.width g.depth) (v.rectangle k h).bottom);
    }

-- ## What no call changes: geometry, table and the buffers' lengths

pub record Stays (s t : State) : Type 0 where
  pub geometry : t.console.geometry ≡ s.console.geometry
  pub count : t.console.count ≡ s.console.count
  pub rows : t.console.rows ≡ s.console.rows
  pub screen : length t.screen ≡ length s.screen
  pub stores : length t.stores ≡ length s.stores

pub stays_trans : (s t u : State) → Stays s t → Stays t u → Stays s u
stays_trans s t u a b = record {
  geometry = b.geometry ∙ a.geometry;
  count = b.count ∙ a.count;
  rows = b.rows ∙ a.rows;
  screen = b.screen ∙ a.screen;
  stores = b.stores ∙ a.stores;
}

pub stays_refusal : (s t : State) → Stays s t → setup_refusal t ≡ setup_refusal s
unfolding setup_refusal
stays_refusal s t a i = checks (a.geometry i) (a.count i) (a.rows i) (a.screen i) (a.stores i)

pub stays_row : (s t : State) → Stays s t → (k : ℕ) → row_of t k ≡ row_of s k
unfolding row_of
stays_row s t a k = ap (λ (l : List Row). row_at l k) a.rows

-- ## One pane: its number k, its row r, the screen's geometry g

-- a pane's share of a state: what it shows of the screen, its store, its record
pub record Share : Type 0 where
  pub shown : ℕ → ℕ → ℕ
  pub store : List ℕ
  pub pane : Pane

module _ (g : Geometry) (k : ℕ) (r : Row) where
  unfoldable pub share_of : State → Share
  share_of s = record { shown = pixels (pane_surface g r) s.screen; store = part s.stores r.start r.len; pane = record_of s k }

  -- the pane is in a state
  pub record On (s : State) : Type 0 where
    pub consistent : Consistent s
    pub here : k < s.console.count
    pub geometry : s.console.geometry ≡ g
    pub row : row_of s k ≡ r

  pub on_stays : (s t : State) → Consistent t → Stays s t → On s → On t
  on_stays s t d a o = record {
    consistent = d;
    here = subst (λ (n : ℕ). k < n) (sym a.count) o.here;
    geometry = a.geometry ∙ o.geometry;
    row = stays_row s t a k ∙ o.row;
  }

  pub on_fits : (s : State) → On s → Fits (pane_surface g r) s.screen
  on_fits s o = rw (← o.geometry, ← o.row) (pane_fits s o.consistent k o.here)

-- ## What set-up leaves

unfoldable pub begun : State → State
begun a = record {
  console = record { geometry = a.console.geometry; count = a.console.count; rows = a.console.rows; panes = replicate 8 fresh };
  screen = a.screen;
  stores = a.stores;
}

accepted_check : (a : State) → Accepted a → setup_refusal a ≡ 0
unfolding Accepted set_up
accepted_check a h = split (eqb (setup_refusal a) 0) (eqb-true (setup_refusal a) 0) λ e.
    let n : refused_with (setup_refusal a) ≡ accepted_with [] = sym (ap (λ (z : Answer). z.reply) (cond_false _ _ e)) ∙ h in
    let z : ◌≡◌ {A = ℕ} 0 1 = cc in
    absurd (omega arith)

pub set_up_begun : (a : State) → Accepted a → (set_up a).state ≡ begun a
unfolding set_up begun
set_up_begun a h = ap (λ (z : Answer). z.state) (cond_true _ _ (eq-eqb (setup_refusal a) 0 (accepted_check a h)))

pub begun_stays : (a : State) → Stays a (begun a)
unfolding begun
begun_stays a = record { geometry = refl; count = refl; rows = refl; screen = refl; stores = refl }

pub begun_consistent : (a : State) → Accepted a → Consistent (begun a)
unfolding begun
begun_consistent a h = record { check = stays_refusal a (begun a) (begun_stays a) ∙ accepted_check a h; records = refl }
