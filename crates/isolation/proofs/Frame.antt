-- One call: it is refused, or it is carried out on the pane that it names. Carried out, it keeps the table and the buffers' lengths, every bit
-- outside that pane's pixels, every byte outside its store and every other record; so another pane sees nothing of it.
use mathlib.Core.Path.{◌≡◌, refl, sym, ◌∙◌}
use mathlib.Core.Logic.{◌≢◌, ◌⊎◌, inl, inr}
use mathlib.Core.Bool.{cond}
use Prim.Native.Nat.{ℕ, ◌+◌, ◌≤◌, ◌<◌}
use native.Mathlib.Omega.{arith}
use native.Mathlib.Decide.{dec_lt, ℕ_discrete}
use lib.ListN.{length, get_or, length-set}
use lib.Seq.{get_or-set_same, get_or-set_other}
use lib.Dec.{eqb, leb}
use borrow.Author.Tests.{leb-false, eqb-true}
use Rattle.model.specs.declared.Geometry.{Geometry}
use Rattle.model.specs.declared.Row.{Row}
use Rattle.model.specs.Words.{bit_at}
use Rattle.model.specs.Bitmaps.{row_words, grid_bit, place_bit, pane_surface, pixels, Depth}
use Rattle.model.specs.Numbers.{refuse_pane, refuse_record}
use Rattle.model.specs.Record.{no_pane}
use Rattle.model.specs.Setup.{pane_bad}
use Rattle.model.specs.Calls.{State, Request, Answer, Outcome, row_of, record_of, store_of, part, own_refusal, setup_refusal, call_checks, call_refusal, refusal}
use Rattle.model.specs.Calls.{refused, with_pane, on_pane, accepted, exec}
use Rattle.model.proofs.Decisions.{cond_ind, cond_none, or_else_none}
use Rattle.model.proofs.PlaceLaws.{apart}
use Rattle.model.proofs.PartLaws.{length_part, part_ext, length_in_part, part_in_part, in_part_out}
use Rattle.model.proofs.PixelLaws.{InPane, same_bits}
use Rattle.model.proofs.SetupLaws.{Valid, NoPixel, NoByte}
use Rattle.model.proofs.CallLaws.{Local, on_pane_local}
use Rattle.isolation.proofs.States.{Consistent, valid, columns_fit, pane_fits, Stays, stays_refusal, share_of, On, on_stays}

-- ## Refused or carried out

-- what a call that is not refused has: a pane, and no refusal of its own
pub record Taken (s : State) (c : Request) : Type 0 where
  pub here : c.number < s.console.count
  pub own : own_refusal (row_of s c.number) (record_of s c.number) c.call ≡ 0

-- refusals 1 and 12
abbrev pub pane_refusal : State → ℕ → ℕ
pane_refusal s k = cond (leb s.console.count k) refuse_pane (cond (pane_bad s.console.geometry (row_of s k) (record_of s k)) refuse_record 0)

pub taken : (s : State) (c : Request) → refusal s c ≡ 0 → Taken s c
unfolding refusal call_checks setup_refusal row_of record_of
taken s c e =
    let a = or_else_none (call_refusal s c.number) (own_refusal (row_of s c.number) (record_of s c.number) c.call) e in
    let b = or_else_none (setup_refusal s) (pane_refusal s c.number) a.0 in
    record { here = leb-false _ _ (cond_none (leb s.console.count c.number) refuse_pane _ tt b.1).0; own = a.1 }

pub exec_cases {ℓ} : (s : State) (c : Request) (P : Answer → Type ℓ) → ((n : ℕ) → P (refused s n)) → (Taken s c → P (accepted s c)) → P (exec s c)
unfolding exec
exec_cases s c P f g = cond_ind P (eqb (refusal s c) 0) _ _ (λ e. g (taken s c (eqb-true _ 0 e))) (λ e. f _)

-- ## What a call on pane j keeps

pub record Keeps (s : State) (j : ℕ) (t : State) : Type 0 where
  pub consistent : Consistent t
  pub stays : Stays s t
  pub screen : (n : ℕ) → (InPane (pane_surface s.console.geometry (row_of s j)) n → ⊥) → bit_at t.screen n ≡ bit_at s.screen n
  pub stores : (i : ℕ) → (i < (row_of s j).start) ⊎ ((row_of s j).start + (row_of s j).len ≤ i) → get_or t.stores i 0 ≡ get_or s.stores i 0
  pub records : (k : ℕ) → k ≢ j → record_of t k ≡ record_of s k

-- what the call does on its pane
unfoldable pub outcome_of : State → Request → Outcome
outcome_of s c = on_pane s.console.geometry (row_of s c.number) (record_of s c.number) s.screen (store_of s c.number) c.call

module _ (s : State) (d : Consistent s) (c : Request) (h : Taken s c) where
  r : Row
  r = row_of s c.number

  o : Outcome
  o = outcome_of s c

  room : r.start + r.len ≤ length s.stores
  unfolding r row_of
  room = ((valid s d).store c.number h.here).room

  local : Local s.console.geometry r (record_of s c.number) s.screen (store_of s c.number) o
  unfolding o r outcome_of store_of
  local = on_pane_local _ r _ _ _ (pane_fits s d _ h.here) (length_part s.stores r.start r.len room) c.call h.own

  size : length o.store ≡ r.len
  unfolding r store_of
  size = local.size ∙ length_part s.stores r.start r.len room

  stays : Stays s (accepted s c).state
  unfolding accepted with_pane o outcome_of r
  stays =
      record {
        geometry = refl;
        count = refl;
        rows = refl;
        screen = local.frame.length;
        stores = length_in_part s.stores r.start r.len o.store size
            room;
      }

  pub accepted_keeps : Keeps s c.number (accepted s c).state
  unfolding accepted with_pane o outcome_of record_of r
  accepted_keeps = record {
    consistent = record { check = stays_refusal s _ stays ∙ d.check; records = length-set s.console.panes c.number o.pane ∙ d.records };
    stays = stays;
    screen = local.frame.bits;
    stores = in_part_out s.stores r.start r.len o.store size room;
    records = λ k n. get_or-set_other s.console.panes c.number k o.pane no_pane n;
  }

  -- and what it leaves of its own
  pub accepted_record : record_of (accepted s c).state c.number ≡ (outcome_of s c).pane
  unfolding accepted with_pane o outcome_of record_of
  accepted_record = get_or-set_same s.console.panes c.number o.pane no_pane (omega (arith, h.here, d.records, (valid s d).geometry.count))

  pub accepted_store : part (accepted s c).state.stores (row_of s c.number).start (row_of s c.number).len ≡ (outcome_of s c).store
  unfolding accepted with_pane o outcome_of r
  accepted_store = part_in_part s.stores r.start r.len o.store size room

-- ## Two panes share no bit

no_bit : (g : Geometry) (a b : Row) → Depth g.depth → a.left + a.width ≤ g.width → b.left + b.width ≤ g.width → NoPixel a b
    → (n : ℕ) → InPane (pane_surface g a) n → InPane (pane_surface g b) n → ⊥
unfolding place_bit pane_surface NoPixel
no_bit g a b d f h o n p q = go (ℕ_discrete (a.left + p.x) (b.left + q.x)) (ℕ_discrete (a.top + p.y) (b.top + q.y))
  where
    w : ℕ
    w = row_words g.width g.depth

    clash : (a.left + p.x ≢ b.left + q.x) ⊎ (a.top + p.y ≢ b.top + q.y) → ⊥
    clash m = ends (apart 0 w g.depth d g.width (columns_fit g) _ _ _ _ (omega (arith, f, p.x_in)) (omega (arith, h, q.x_in)) m)
      where
        ends : (grid_bit 0 w g.depth (a.left + p.x) (a.top + p.y) + g.depth ≤ grid_bit 0 w g.depth (b.left + q.x) (b.top + q.y))
            ⊎ (grid_bit 0 w g.depth (b.left + q.x) (b.top + q.y) + g.depth ≤ grid_bit 0 w g.depth (a.left + p.x) (a.top + p.y)) → ⊥
        ends (inl l) = omega (arith, l, p.to, q.from)
        ends (inr l) = omega (arith, l, q.to, p.from)

    go : Dec (a.left + p.x ≡ b.left + q.x) → Dec (a.top + p.y ≡ b.top + q.y) → ⊥
    go (no u) _ = clash (inl u)
    go (yes u) (no v) = clash (inr v)
    go (yes u) (yes v) = o (a.left + p.x) (a.top + p.y)
        (omega arith) (omega (arith, p.x_in)) (omega arith) (omega (arith, q.x_in)) (omega arith) (omega (arith, p.y_in)) (omega arith)
        (omega (arith, q.y_in))

-- a place that is not in a store is before or after it
pub beside : (r : Row) (i : ℕ) → (r.start ≤ i → i < r.start + r.len → ⊥) → (i < r.start) ⊎ (r.start + r.len ≤ i)
beside r i f = go (dec_lt i r.start) (dec_lt i (r.start + r.len))
  where
    go : Dec (i < r.start) → Dec (i < r.start + r.len) → (i < r.start) ⊎ (r.start + r.len ≤ i)
    go (yes l) _ = inl l
    go (no l) (yes m) = absurd (f (omega arith) m)
    go (no l) (no m) = inr (omega arith)

-- ## Another pane sees nothing of the call

depth_here : (s : State) → Consistent s → (k : ℕ) → Depth (pane_surface s.console.geometry (row_of s k)).bits
unfolding pane_surface
depth_here s d k = (valid s d).depth

unseen : (s t : State) (j k : ℕ) → Consistent s → j < s.console.count → k < s.console.count → k ≢ j → Keeps s j t
    → share_of s.console.geometry k (row_of s k) t ≡ share_of s.console.geometry k (row_of s k) s
unfolding row_of NoByte share_of
unseen s t j k d hj hk n w = λ i. record { shown = shown i; store = store i; pane = w.records k n i }
  where
    v : Valid s.console.geometry s.console.count s.console.rows (length s.screen) (length s.stores)
    v = valid s d

    shown : pixels (pane_surface s.console.geometry (row_of s k)) t.screen ≡ pixels (pane_surface s.console.geometry (row_of s k)) s.screen
    shown = same_bits (pane_surface s.console.geometry (row_of s k)) t.screen s.screen (depth_here s d k) λ i p. w.screen i λ q.
        no_bit s.console.geometry (row_of s k) (row_of s j) v.depth (v.rectangle k hk).right (v.rectangle j hj).right (v.no_pixels k j hk hj n) i p
        q

    store : part t.stores (row_of s k).start (row_of s k).len ≡ part s.stores (row_of s k).start (row_of s k).len
    store =
        part_ext t.stores s.stores (row_of s k).start (row_of s k).len (omega (arith, (v.store k hk).room, w.stays.stores)) (v.store k hk).room
        λ i b.
        w.stores ((row_of s k).start + i) (beside (row_of s j) ((row_of s k).start + i)
        (λ l m. v.no_bytes k j hk hj n ((row_of s k).start + i) (omega arith) (omega arith) l m))

module _ (g : Geometry) (k : ℕ) (r : Row) where
  pub exec_on : (s : State) → On g k r s → (c : Request) → On g k r (exec s c).state
  exec_on s o c = exec_cases s c (λ (a : Answer). On g k r a.state) (λ n. o) λ h.
      let w = accepted_keeps s o.consistent c h in on_stays g k r s _ w.consistent w.stays o

  pub exec_other : (s : State) → On g k r s → (c : Request) → c.number ≢ k → share_of g k r (exec s c).state ≡ share_of g k r s
  exec_other s o c n = exec_cases s c (λ (a : Answer). share_of g k r a.state ≡ share_of g k r s) (λ m. refl) λ h.
      rw (← o.geometry, ← o.row) (unseen s _ c.number k o.consistent h.here o.here (λ e. n (sym e)) (accepted_keeps s o.consistent c h))
