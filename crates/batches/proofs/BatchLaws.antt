-- What a batch's loop carries: with what is left to run it gives the whole run, whichever pane the batch is of.
use mathlib.Core.Path.{◌≡◌, refl, sym, ap, ap₂, subst, ◌∙◌}
use mathlib.Core.Bool.{false}
use mathlib.Core.List.{List, []}
use Prim.Native.Nat.{ℕ, suc, ◌+◌, ◌-◌, ◌*◌, ◌≤◌, ◌<◌}
use native.Mathlib.Omega.{arith}
use lib.ListN.{length}
use Rattle.std.specs.Prelude.{Option, Some, None}
use Rattle.std.proofs.lemmas.Option.{none-some, same_Some}
use Rattle.model.specs.declared.Geometry.{Geometry}
use Rattle.model.specs.declared.Row.{Row}
use Rattle.model.specs.declared.Pane.{Pane}
use Rattle.model.specs.declared.Pen.{Pen}
use Rattle.model.specs.declared.Point.{Point}
use Rattle.model.specs.Dots.{Drawing}
use Rattle.model.specs.Lines.{line}
use Rattle.model.specs.Runs.{most_pixels, runs, stepped}
use Rattle.refusals.proofs.GoodLaws.{good_pointer, good_position}
use Rattle.canvas.specs.declared.Target.{Target}
use Rattle.canvas.specs.declared.Drawn.{Drawn}
use Rattle.canvas.specs.Canvas.{Canvas, canvas, painted_all, Drew, Painted}
use Rattle.canvas.specs.Targets.{Ready, target_of}
use Rattle.canvas.proofs.LoopLaws.{drew_hits}
use Rattle.perform.proofs.CountLaws.{line_few, circle_few}
use Rattle.perform.proofs.ReadyLaws.{ready_of}
use Rattle.traces.specs.declared.Trace.{Trace}
use Rattle.traces.specs.Traces.{trace_dots}
use Rattle.draw_lines.specs.declared.segments.Segment.{Segment}
use Rattle.draw_lines.specs.Segments.{dots_of, whole_line, TraceOf}
use Rattle.draw_lines.proofs.SegmentLaws.{trace_painted}
use Rattle.perform.specs.Performing.{Sound, finish}
use Rattle.batches.specs.declared.heads.Head.{Head}
use Rattle.batches.specs.declared.heads.Head.TheVariants as head
use Rattle.batches.specs.declared.heads.Move.{Move}
use Rattle.batches.specs.Heads.{HeadAt, Standing, moved_by, only_moved_by}
use Rattle.batches.specs.Batches.{Drawable, onward, reached}
use Rattle.batches.proofs.OnwardLaws.{onward_none, onward_step}
use Rattle.batches.proofs.StepLaws.{dots_by, head_stepped}

-- a pane whose list has come further is as sound, and as drawable
pub reached_sound : {g : Geometry} {r : Row} {p : Pane} {m n m' n' : ℕ} (pointer : ℕ) (position : Point) → Sound g r p m n → m' ≡ m → n' ≡ n
    → Sound g r (reached p pointer position) m' n'
reached_sound pointer position s wide tall =
    record { placed = rw (wide, tall) s.placed; good = good_pointer (good_position s.good position) pointer }

reached_drawable : {g : Geometry} {r : Row} {p : Pane} {m n m' n' : ℕ} (pointer : ℕ) (position : Point) → Drawable g r p m n → m' ≡ m → n' ≡ n
    → Drawable g r (reached p pointer position) m' n'
reached_drawable pointer position d wide tall =
    record { sound = reached_sound pointer position d.sound wide tall; running = d.running; active = d.active; drawing = d.drawing }

-- the target of a drawable pane is ready, and not in pick mode
pub drawable_ready : {g : Geometry} {r : Row} {p : Pane} {m n : ℕ} {t : Target} → Drawable g r p m n → t ≡ target_of g r p → Ready t m n
drawable_ready {m = m} {n = n} d aim = subst (λ (z : Target). Ready z m n) (sym aim) (ready_of _ _ _ _ _ d.sound d.active)

pub drawable_drawing : {g : Geometry} {r : Row} {p : Pane} {m n : ℕ} {t : Target} → Drawable g r p m n → t ≡ target_of g r p → t.picking ≡ false
unfolding target_of
drawable_drawing d aim = ap (λ (z : Target). z.picking) aim ∙ d.drawing

-- what holds at the loop's head
pub record Batching (t : Target) (at : ℕ) (from : Point) (budget : ℕ) (screen₀ store₀ screen store : List ℕ) (pointer : ℕ) (position : Point)
    (count paint : ℕ) : Type 0 where
  pub wide : length screen ≡ length screen₀
  pub tall : length store ≡ length store₀
  pub spent : count ≤ budget
  pub few : paint ≤ count * most_pixels
  pub none : count ≡ 0 → (screen ≡ screen₀) × (store ≡ store₀)
  pub same : (g : Geometry) (r : Row) (p : Pane) → Drawable g r p (length screen₀) (length store₀) → t ≡ target_of g r p → p.progress.pointer ≡ at
      → p.position ≡ from
      → onward g r (budget - count) (finish count paint (reached p pointer position) screen store) ≡ runs g r budget p screen₀ store₀

-- the dots of a whole line, from those of its trace
pub line_painted : (t : Target) (from : Point) (dx dy : ℕ) {s : Segment} {trace : Trace} (c c' : Canvas) → s ≡ whole_line dx dy → TraceOf from s trace
    → Painted t (trace_dots t.pen trace) c c' → Painted t (dots_by t.pen from (head.Line dx dy)) c c'
line_painted t from dx dy c c' e o painted =
    subst (λ (z : Segment). Painted t (dots_of t.pen from z) c c') e (trace_painted t from _ c o painted)

-- nothing is drawn by other commands than LINE and CIRCLE
pub none_painted : (t : Target) (from : Point) (h : Head) (c : Canvas) → ((dx dy : ℕ) → h ≡ head.Line dx dy → ⊥) → ((radius : ℕ) → h ≡ head.Circle radius → ⊥)
    → Painted t (dots_by t.pen from h) c c
unfolding painted_all
none_painted t from (head.Line dx dy) c line circle = absurd (line dx dy refl)
none_painted t from (head.Circle radius) c line circle = absurd (circle radius refl)
none_painted t from h c line circle = refl

-- a command draws at most so many dots
dots_few : (pen : Pen) (from : Point) (h : Head) → length (dots_by pen from h) ≤ most_pixels
dots_few pen from (head.Line dx dy) = unfold line in line_few pen from dx dy
dots_few pen from (head.Circle radius) = circle_few pen from radius
dots_few pen from h = omega arith

-- .. and shows no more pixels
pub head_few : (t : Target) (from : Point) (h : Head) (screen store screen' store' : List ℕ) (hits : ℕ)
    → Painted t (dots_by t.pen from h) (canvas screen store 0) (canvas screen' store' hits) → hits ≤ most_pixels
head_few t from h screen store screen' store' hits painted =
    let w : Drawing = record { dots = dots_by t.pen from h; position = from; trap = false } in
    let d : Drawn = record { position = from; trap = false; hits = hits } in
    let drawn : Drew t w (canvas screen store 0) d screen' store' = record { dots = painted; position = refl; trap = refl } in
    omega (arith, drew_hits drawn, dots_few t.pen from h)

-- nothing done yet
pub batching_none : (t : Target) (at : ℕ) (from : Point) (budget : ℕ) (screen store : List ℕ) → Batching t at from budget screen store screen store at from 0 0
batching_none t at from budget screen store = record {
  wide = refl;
  tall = refl;
  spent = omega arith;
  few = omega arith;
  none = λ e. (refl, refl);
  same = λ g r p d aim e f.
      ap₂ (λ (n : ℕ) (z : Point). onward g r (budget - 0) (finish 0 0 (reached p n z) screen store)) (sym e) (sym f)
      ∙ onward_none g r (budget - 0) p screen store
      ∙ ap (λ (n : ℕ). runs g r n p screen store) whole;
}
  where
    whole : budget - 0 ≡ budget
    whole = omega arith

module _ {t : Target} {at : ℕ} {from : Point} {budget : ℕ} {screen₀ store₀ screen store : List ℕ} {pointer : ℕ} {position : Point} {count paint : ℕ}
    (i : Batching t at from budget screen₀ store₀ screen store pointer position count paint) (left : count < budget) where
  -- a step of whichever pane the batch is of
  Stepped : ℕ → ℕ → Point → List ℕ → List ℕ → Type 0
  Stepped hits pointer' position' screen' store' = (g : Geometry) (r : Row) (p : Pane)
      → Drawable g r (reached p pointer position) (length screen) (length store) → t ≡ target_of g r p
      → finish 1 hits (reached p pointer' position') screen' store' ≡ stepped g r (reached p pointer position) screen store

  -- one command more
  batching_step : (hits paint' pointer' : ℕ) (position' : Point) (screen' store' : List ℕ) → length screen' ≡ length screen → length store' ≡ length store
      → hits ≤ most_pixels → paint' ≡ paint + hits → Stepped hits pointer' position' screen' store'
      → Batching t at from budget screen₀ store₀ screen' store' pointer' position' (count + 1) paint'
  unfolding Stepped
  batching_step hits paint' pointer' position' screen' store' wide tall few e step = record {
    wide = wide ∙ i.wide;
    tall = tall ∙ i.tall;
    spent = omega arith;
    few = omega (arith, i.few);
    none = λ z. absurd (let f : ⊥ = omega arith in f);
    same = λ g r p d aim h k.
        ap (λ (n : ℕ). onward g r (budget - (count + 1)) (finish (count + 1) n (reached p pointer' position') screen' store')) e
        ∙ sym (onward_step g r (budget - (count + 1)) count paint (reached p pointer position) screen store 1 hits _ screen' store' d.running
        (step g r p (reached_drawable pointer position d i.wide i.tall) aim))
        ∙ ap (λ (n : ℕ). onward g r n (finish count paint (reached p pointer position) screen store)) one_less
        ∙ i.same g r p d aim h k;
  }
    where
      one_less : suc (budget - (count + 1)) ≡ budget - count
      one_less = omega arith

  -- .. by its head
  pub batching_next : (h : Head) (m : Move) (hits paint' : ℕ) (screen' store' : List ℕ) → Standing store pointer h → m ≡ moved_by pointer position h
      → length screen' ≡ length screen → length store' ≡ length store → paint' ≡ paint + hits
      → Painted t (dots_by t.pen position h) (canvas screen store 0) (canvas screen' store' hits)
      → Batching t at from budget screen₀ store₀ screen' store' m.pointer m.position (count + 1) paint'
  unfolding Stepped target_of
  batching_next h m hits paint' screen' store' stands e wide tall sum painted =
      rw e (batching_step hits paint' (moved_by pointer position h).pointer (moved_by pointer position h).position screen' store' wide tall
      (head_few t position h screen store screen' store' hits painted) sum
      (λ g r p d aim. head_stepped g r (reached p pointer position) screen store d h hits screen' store' stands
      (subst (λ (z : Target). Painted z (dots_by z.pen position h) (canvas screen store 0) (canvas screen' store' hits)) aim painted)))

  -- .. that only moves
  moved_next : (h : Head) (m : Move) → Standing store pointer h → dots_by t.pen position h ≡ [] → Some m ≡ Some (moved_by pointer position h)
      → Batching t at from budget screen₀ store₀ screen store m.pointer m.position (count + 1) paint
  unfolding painted_all
  moved_next h m stands still e =
      batching_next h m 0 paint screen store stands (same_Some m (moved_by pointer position h) e) refl refl (omega arith)
      (rw still refl)

  pub batching_moved : (told : Option Head) (m : Move) → HeadAt store pointer told → Some m ≡ only_moved_by pointer position told
      → Batching t at from budget screen₀ store₀ screen store m.pointer m.position (count + 1) paint
  batching_moved None m stands e = absurd (none-some m (sym e))
  batching_moved (Some (head.Line dx dy)) m stands e = absurd (none-some m (sym e))
  batching_moved (Some (head.Circle radius)) m stands e = absurd (none-some m (sym e))
  batching_moved (Some (head.AbsMov x y)) m stands e = moved_next (head.AbsMov x y) m stands refl e
  batching_moved (Some (head.RelMov dx dy)) m stands e = moved_next (head.RelMov dx dy) m stands refl e
  batching_moved (Some (head.Link address)) m stands e = moved_next (head.Link address) m stands refl e
  batching_moved (Some head.Nop) m stands e = moved_next head.Nop m stands refl e
