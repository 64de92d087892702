-- Demand 3: from set-up on, two runs with the same calls on a pane are alike to it, and bits in no pane are untouched.
use mathlib.Core.Path.{◌≡◌, refl, sym, ap, ◌∙◌, subst}
use mathlib.Core.List.{List}
use Prim.Native.Nat.{ℕ, ◌<◌}
use Rattle.model.specs.declared.Geometry.{Geometry}
use Rattle.model.specs.declared.Row.{Row}
use Rattle.model.specs.Bitmaps.{pane_surface, pixels}
use Rattle.model.specs.Calls.{State, Request, row_of, record_of, set_up}
use Rattle.model.proofs.PixelLaws.{inside_of, pixels_in, same_pixels}
use Rattle.isolation.specs.TwoRuns.{after, SamePixels, store_in, Accepted, TwoRuns, Alike, Isolation}
use Rattle.isolation.proofs.States.{Stays, share_of, On, begun, set_up_begun, begun_stays, begun_consistent}
use Rattle.isolation.proofs.Purge.{Account, account, same_account}
use Rattle.isolation.proofs.Bits.{Held, held_after}

-- ## Two runs

-- a pane's pixels as the statement has them and as its share has them
shown_of : (g : Geometry) (r : Row) (s t : List ℕ) → SamePixels g r s t → pixels (pane_surface g r) s ≡ pixels (pane_surface g r) t
unfolding SamePixels pane_surface
shown_of g r s t h = same_pixels (pane_surface g r) s t λ x y a b.
    let i = inside_of (pane_surface g r) x y a b in
    sym (pixels_in (pane_surface g r) s x y i) ∙ h x y a b ∙ pixels_in (pane_surface g r) t x y i

module _ (g : Geometry) (k : ℕ) (r : Row) where
  on_set_up : (a : State) → Accepted a → k < a.console.count → a.console.geometry ≡ g → row_of a k ≡ r → On g k r (set_up a).state
  unfolding begun row_of
  on_set_up a h n e f = subst (On g k r) (sym (set_up_begun a h)) (record { consistent = begun_consistent a h; here = n; geometry = e; row = f })

  share_set_up : (a b : State) (cs ds : List Request) → TwoRuns g k r a b cs ds → share_of g k r (set_up a).state ≡ share_of g k r (set_up b).state
  unfolding begun share_of store_in record_of
  share_set_up a b cs ds h =
      let p = shown_of g r a.screen b.screen h.pixels in
      ap (share_of g k r) (set_up_begun a h.accepts_a)
      ∙ (λ i. record { shown = p i; store = h.store i; pane = record_of (begun a) k })
      ∙ sym (ap (share_of g k r) (set_up_begun b h.accepts_b))

  two_runs : (a b : State) (cs ds : List Request) → TwoRuns g k r a b cs ds → Alike g k r a b cs ds
  unfolding account share_of SamePixels store_in
  two_runs a b cs ds h =
      let w : account g k r (set_up a).state cs ≡ account g k r (set_up b).state ds =
      same_account g k r (set_up a).state (set_up b).state cs ds
      (on_set_up a h.accepts_a h.number_a h.geometry_a h.row_a)
      (on_set_up b h.accepts_b h.number_b h.geometry_b h.row_b)
      (share_set_up a b cs ds h) h.calls in
      record {
        replies = ap (λ (z : Account). z.replies) w;
        pixels = λ x y m n. ap (λ (z : Account). z.share.shown x y) w;
        store = ap (λ (z : Account). z.share.store) w;
        pane = ap (λ (z : Account). z.share.pane) w;
      }

-- ## Bits in no pane

held : (a : State) (cs : List Request) → Accepted a → Held a (after (set_up a).state cs)
unfolding begun
held a cs h = held_after a cs (set_up a).state (subst (Held a) (sym (set_up_begun a h))
    (record { consistent = begun_consistent a h; stays = begun_stays a; screen = λ n gap. refl; stores = λ n gap. refl }))

-- beyond the demand: geometry, table and the buffers' lengths are those lent to set-up
pub table_kept : (a : State) (cs : List Request) → Accepted a → Stays a (after (set_up a).state cs)
table_kept a cs h = (held a cs h).stays

-- ## The demand

pub isolation : Isolation
isolation = record { two_runs = two_runs; untouched = λ a cs h. let w = held a cs h in record { screen = w.screen; stores = w.stores } }
