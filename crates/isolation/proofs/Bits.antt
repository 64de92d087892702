-- Bits in no pane: every call keeps them, so every list does. A call changes bits of the pane that it names alone (Keeps).
use mathlib.Core.Path.{◌≡◌, ap, ◌∙◌, subst}
use mathlib.Core.List.{List, [], ◌∷◌}
use Prim.Native.Nat.{ℕ, ◌/◌, ◌%◌, ◌<◌}
use Rattle.model.specs.declared.Geometry.{Geometry}
use Rattle.model.specs.declared.Row.{Row}
use Rattle.model.specs.Words.{bit, bit_at}
use Rattle.model.specs.Bitmaps.{pane_surface}
use Rattle.model.specs.Calls.{State, Request, Answer, row_of, accepted, exec}
use Rattle.model.proofs.PixelLaws.{InPane}
use Rattle.isolation.specs.TwoRuns.{after, InPixels, InStore, InNoPixels, InNoStore}
use Rattle.isolation.proofs.States.{Consistent, Stays, stays_trans, stays_row}
use Rattle.isolation.proofs.Frame.{Taken, exec_cases, Keeps, accepted_keeps, beside}

-- what every list keeps of the state a that was lent to set-up
pub record Held (a s : State) : Type 0 where
  pub consistent : Consistent s
  pub stays : Stays a s
  pub screen : (n : ℕ) → InNoPixels a n → bit_at s.screen n ≡ bit_at a.screen n
  pub stores : (n : ℕ) → InNoStore a n → bit_at s.stores n ≡ bit_at a.stores n

pane_bit : (g : Geometry) (r : Row) (n : ℕ) → InPane (pane_surface g r) n → InPixels g r n
unfolding pane_surface
pane_bit g r n p = record { x = p.x; y = p.y; x_in = p.x_in; y_in = p.y_in; from = p.from; to = p.to }

held_exec : (a s : State) → Held a s → (c : Request) → Held a (exec s c).state
unfolding InNoPixels InNoStore bit_at
held_exec a s w c = exec_cases s c (λ (z : Answer). Held a z.state) (λ m. w) go
  where
    go : Taken s c → Held a (accepted s c).state
    go h = record {
      consistent = u.consistent;
      stays = stays_trans a s _ w.stays u.stays;
      screen = λ n gap. u.screen n (λ p. gap c.number here (subst (λ (g : Geometry). InPixels g (row_of a c.number) n) w.stays.geometry
          (subst (λ (z : Row). InPixels s.console.geometry z n) row (pane_bit s.console.geometry (row_of s c.number) n p)))) ∙ w.screen n gap;
      stores = λ n gap. ap (λ (z : ℕ). bit z (n % 8)) (u.stores (n / 8) (beside (row_of s c.number) (n / 8)
          (λ l m. gap c.number here (subst (λ (z : Row). InStore z n) row (record { from = l; to = m }))))) ∙ w.stores n gap;
    }
      where
        u : Keeps s c.number (accepted s c).state
        u = accepted_keeps s w.consistent c h

        row : row_of s c.number ≡ row_of a c.number
        row = stays_row a s w.stays c.number

        here : c.number < a.console.count
        here = subst (λ (n : ℕ). c.number < n) w.stays.count h.here

pub held_after : (a : State) (cs : List Request) (s : State) → Held a s → Held a (after s cs)
unfolding after
held_after a [] s w = w
held_after a (c ∷ cs) s w = held_after a cs (exec s c).state (held_exec a s w c)
