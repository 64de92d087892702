-- A command of a batch is a step of its pane: it is what the decoder finds, it has no fault, and it leaves the record that it reached.
use mathlib.Core.Path.{◌≡◌, refl, sym, ap, ap₂, ◌∙◌}
use mathlib.Core.Bool.{Bool, true, false, ◌&&◌, ◌||◌}
use mathlib.Core.List.{List, []}
use Prim.Native.Nat.{ℕ, ◌+◌, ◌*◌}
use native.Mathlib.Omega.{arith}
use borrow.Author.Tests.{eq-eqb}
use lib.Dec.{ltb}
use lib.IntN.{nat_abs}
use lib.ListN.{length}
use Rattle.model.specs.declared.Geometry.{Geometry}
use Rattle.model.specs.declared.Row.{Row}
use Rattle.model.specs.declared.Pane.{Pane}
use Rattle.model.specs.declared.Point.{Point}
use Rattle.model.specs.declared.Flags.{Flags}
use Rattle.model.specs.declared.Command.{Command}
use Rattle.model.specs.declared.Command.TheVariants as command
use Rattle.model.specs.declared.Pen.{Pen}
use Rattle.model.specs.declared.Decoded.{Decoded}
use Rattle.model.specs.declared.Decoded.TheVariants.{Do}
use Rattle.model.specs.Bitmaps.{pane_surface, pixels}
use Rattle.model.specs.Coordinates.{coord, moved, place}
use Rattle.model.specs.Commands.{decode}
use Rattle.model.specs.Dots.{Dot, Drawing, drawing}
use Rattle.model.specs.Lines.{line, line_dots}
use Rattle.model.specs.Circles.{circle}
use Rattle.model.specs.Faults.{context_of, fault_of}
use Rattle.model.specs.Effects.{Effect, becomes, draws, effect_of}
use Rattle.model.specs.Numbers.{status_trapped}
use Rattle.model.specs.Pixels.{changes}
use Rattle.model.specs.Record.{pane_of, flags_of}
use Rattle.model.specs.Runs.{carried, stepped}
use Rattle.model.specs.Steps.{Plan, attempted, drew_flags, drew_pane, obey, plan_of, step}
use Rattle.model.proofs.Decisions.{and_false, cond_true, cond_false}
use Rattle.canvas.specs.declared.Drawn.{Drawn}
use Rattle.canvas.specs.Canvas.{Canvas, canvas, painted_all, Painted}
use Rattle.canvas.specs.Targets.{target_of}
use Rattle.perform.specs.Performing.{Carries, finish, performed}
use Rattle.perform.proofs.ReadyLaws.{sound_landing}
use Rattle.perform.proofs.DrawingLaws.{line_carries, circle_carries}
use Rattle.perform.proofs.PerformLaws.{performs_drawing}
use Rattle.batches.specs.declared.heads.Head.{Head}
use Rattle.batches.specs.declared.heads.Head.TheVariants as head
use Rattle.batches.specs.Heads.{Standing, command_in, moved_by, words_in}
use Rattle.batches.specs.Batches.{Drawable, reached}

-- ## Of any command

module _ (g : Geometry) (r : Row) (p : Pane) (screen store : List ℕ) where
  -- a command that is free of faults, done
  performed_stepped : (c : Command) (next : ℕ) → decode r.len store p.progress.pointer ≡ Do c next
      → fault_of g r (context_of p) store c ≡ 0 → performed g r p next c screen store ≡ stepped g r p screen store
  unfolding performed stepped step obey attempted
  performed_stepped c next told clear =
      sym (ap (λ (d : Decoded). carried g r (obey g r p (pixels (pane_surface g r) screen) store d) screen) told
      ∙ ap (λ (z : Plan). carried g r z screen) (cond_true _ _ (eq-eqb (fault_of g r (context_of p) store c) 0 clear)))

  -- .. that changes the record alone
  becomes_stepped : (c : Command) (next : ℕ) (q : Pane) → decode r.len store p.progress.pointer ≡ Do c next
      → fault_of g r (context_of p) store c ≡ 0 → effect_of g r p (pixels (pane_surface g r) screen) store next c ≡ becomes q
      → finish 1 0 q screen store ≡ stepped g r p screen store
  unfolding performed plan_of changes
  becomes_stepped c next q told clear e =
      sym (ap (λ (z : Effect). carried g r (plan_of g r p store next z) screen) e) ∙ performed_stepped c next told clear

-- ## A drawing that is not in pick mode and meets no T

or_false : (b : Bool) → (b || false) ≡ b
or_false true = refl
or_false false = refl

drew_flags_lem : (f : Flags) (at : Point) (n : ℕ) → f.picking ≡ false → drew_flags f (drawing [] at) n ≡ f
drew_flags_lem f at n e = λ i.
    flags_of f.picking ((ap (λ (b : Bool). f.pick || (b && ltb 0 n)) e ∙ or_false f.pick) i) (or_false f.trap i) f.switch

drew_reached : (p : Pane) (next : ℕ) (at : Point) (n : ℕ) → p.flags.picking ≡ false → drew_pane p next (drawing [] at) n ≡ reached p next at
drew_reached p next at n e = λ i.
    pane_of
    (record { status = cond_false status_trapped p.progress.status (and_false p.flags.switch false refl) i; fault = p.progress.fault; pointer = next })
    at p.bitmap p.clip p.scissor p.pen p.text (drew_flags_lem p.flags at n e i) p.returns

module _ (g : Geometry) (r : Row) (p : Pane) (screen store : List ℕ) (drawable : Drawable g r p (length screen) (length store)) where
  drew_stepped : (c : Command) (next : ℕ) (w : Drawing) (d : Drawn) (screen' store' : List ℕ) → decode r.len store p.progress.pointer ≡ Do c next
      → fault_of g r (context_of p) store c ≡ 0 → effect_of g r p (pixels (pane_surface g r) screen) store next c ≡ draws w → d.trap ≡ false
      → Carries g r p c screen store d screen' store'
      → finish 1 d.hits (reached p next d.position) screen' store' ≡ stepped g r p screen store
  drew_stepped c next w d screen' store' told clear e plain h =
      let done = performs_drawing g r p next c screen store w d screen' store' (sound_landing drawable.sound) drawable.active e h refl in
      ap₂ (λ (k : ℕ) (q : Pane). finish 1 k q screen' store') (sym (cond_false 0 d.hits drawable.drawing))
      (sym (ap (λ (b : Bool). drew_pane p next (record { dots = []; position = d.position; trap = b }) d.hits) plain
      ∙ drew_reached p next d.position d.hits drawable.drawing))
      ∙ done.leaves
      ∙ performed_stepped g r p screen store c next told clear

-- ## The commands of a batch, by their heads

-- the dots that a head's command draws from a position
abbrev pub dots_by : Pen → Point → Head → List Dot
dots_by pen from (head.Line dx dy) = line_dots pen (place from) (coord dx) (coord dy)
dots_by pen from (head.Circle radius) = (circle pen from (nat_abs (coord radius))).dots
dots_by pen from h = []

module _ (g : Geometry) (r : Row) (p : Pane) (screen store : List ℕ) (drawable : Drawable g r p (length screen) (length store)) where
  abbrev at : ℕ
  at = p.progress.pointer

  -- where a head's command leaves the record
  abbrev left_by : Head → Pane
  left_by h = reached p (moved_by at p.position h).pointer (moved_by at p.position h).position

  -- what the decoder finds at the pointer, and the address after it
  found : (h : Head) (next : ℕ) → Standing store at h → at + 2 + 2 * words_in h ≡ next → decode r.len store at ≡ Do (command_in h) next
  found h next stands e =
      ap (λ (k : ℕ). decode k store at) (sym drawable.sound.placed.part) ∙ stands.fetched ∙ ap (λ (n : ℕ). Do (command_in h) n) e

  -- a command that only moves
  moves_to : (h : Head) (next hits : ℕ) (screen' store' : List ℕ) → Standing store at h → at + 2 + 2 * words_in h ≡ next
      → Painted (target_of g r p) [] (canvas screen store 0) (canvas screen' store' hits)
      → fault_of g r (context_of p) store (command_in h) ≡ 0
      → effect_of g r p (pixels (pane_surface g r) screen) store next (command_in h) ≡ becomes (left_by h)
      → finish 1 hits (left_by h) screen' store' ≡ stepped g r p screen store
  unfolding painted_all
  moves_to h next hits screen' store' stands e painted clear is =
      ap (λ (c : Canvas). finish 1 c.hits (left_by h) c.screen c.store) painted
      ∙ becomes_stepped g r p screen store (command_in h) next (left_by h) (found h next stands e) clear is

  -- each command of a batch, drawn
  pub head_stepped : (h : Head) (hits : ℕ) (screen' store' : List ℕ) → Standing store at h
      → Painted (target_of g r p) (dots_by p.pen p.position h) (canvas screen store 0) (canvas screen' store' hits)
      → finish 1 hits (left_by h) screen' store' ≡ stepped g r p screen store
  unfolding effect_of fault_of target_of line circle
  head_stepped (head.Line dx dy) hits screen' store' stands painted =
      let d : Drawn = record { position = moved p.position (coord dx) (coord dy); trap = false; hits = hits } in
      drew_stepped g r p screen store drawable (command.Line dx dy) (at + 6) _ d screen' store' (found (head.Line dx dy) (at + 6) stands (omega arith))
      (cond_false _ _ drawable.active) refl refl
      (line_carries g r p screen store d screen' store' {c = command.Line dx dy} {t = target_of g r p} refl refl
      (record { dots = painted; position = refl; trap = refl }))
  head_stepped (head.Circle radius) hits screen' store' stands painted =
      let d : Drawn = record { position = p.position; trap = false; hits = hits } in
      drew_stepped g r p screen store drawable (command.Circle radius) (at + 4) _ d screen' store'
      (found (head.Circle radius) (at + 4) stands (omega arith))
      (cond_false _ _ drawable.active ∙ cond_false _ _ stands.radius) refl refl
      (circle_carries g r p screen store d screen' store' {c = command.Circle radius} {t = target_of g r p} refl refl
      (record { dots = painted; position = refl; trap = refl }))
  head_stepped (head.AbsMov x y) hits screen' store' stands painted =
      moves_to (head.AbsMov x y) (at + 6) hits screen' store' stands (omega arith) painted refl refl
  head_stepped (head.RelMov dx dy) hits screen' store' stands painted =
      moves_to (head.RelMov dx dy) (at + 6) hits screen' store' stands (omega arith) painted refl refl
  head_stepped (head.Link address) hits screen' store' stands painted =
      moves_to (head.Link address) (at + 6) hits screen' store' stands (omega arith) painted refl refl
  head_stepped head.Nop hits screen' store' stands painted =
      moves_to head.Nop (at + 2) hits screen' store' stands (omega arith) painted refl refl
