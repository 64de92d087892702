-- `traces::walks::walk` meets its contract, by whichever loop.
use Rattle.std.proofs.Common.{◌≡◌, ℕ, ◌-◌, length, sym, refl, ◌∙◌, subst, ap₂, arith, eqb-true}
use Rattle.model.proofs.Decisions.{both_true}
use Rattle.strips.proofs.FieldBits.{Bytes}
use Rattle.traces.specs.declared.walks.Spot.{Spot}
use Rattle.traces.specs.declared.walks.Steps.{Steps}
use Rattle.traces.specs.Walks.{Walkable, spot_at, solid, pattern_digit, walked, traced}
use Rattle.traces.proofs.PatternLaws.{digits_of, digits_solid}
use Rattle.traces.proofs.TraceLaws.{locatable, trace_walkable, walked_traced}
use Rattle.traces.proofs.walks.walk.Goals as goal
use Rattle.traces.proofs.walks.walk.Goals.{After-rotate_left-pattern}

-- the entry, from the place where the pattern is known, and what is known there
module _ (r : After-rotate_left-pattern) where
  small : Bytes r.args.stamps.now
  small j = (r.type_inv.stamps j).fits

  bytes : Bytes r.args.buffer.now
  bytes j = (r.type_inv.buffer j).fits

  abbrev from : Spot
  from = r.spot_of-from.result

  abbrev steps : Steps
  steps = r.steps_of-g.result

  -- the pixels from the spot on by the steps lie in the buffer
  walkable : let a = r.args in
      Walkable a.t.area.surface.base from steps (a.e.second - a.e.first) (length a.stamps.now) (length a.buffer.now)
  walkable =
      let a = r.args in
      let u = a.t.area.surface in
      let n = a.e.second - a.e.first in
      subst (λ (f : Spot). Walkable u.base f steps n (length a.stamps.now) (length a.buffer.now))
      (sym r.spot_of-from.ensures)
      (subst (λ (g : Steps). Walkable u.base (spot_at u a.s a.e.first) g n (length a.stamps.now) (length a.buffer.now))
      (sym r.steps_of-g.ensures)
      (trace_walkable r.requires.0 r.requires.1 small bytes))

  -- .. and walked they are the trace drawn
  drawn : let a = r.args in (on : ℕ → ℕ) → ((k : ℕ) → on k ≡ pattern_digit r.rotate_left-pattern.result k)
      → walked a.stamps.now a.t.area.surface.base from steps on (a.e.second - a.e.first) a.buffer.now
      ≡ traced a.t a.s a.buffer.now
  drawn on h =
      let a = r.args in
      ap₂ (λ (f : Spot) (g : Steps). walked a.stamps.now a.t.area.surface.base f g on (a.e.second - a.e.first) a.buffer.now)
      r.spot_of-from.ensures r.steps_of-g.ensures
      ∙ walked_traced r.requires.0 r.requires.1 small bytes on (λ k l. h k
      ∙ digits_of a.t.pen.pattern (a.e.first - a.s.first) a.s.index r.rotate_left-pattern.result r.rotate_left-pattern.ensures k)

pub spot_of-from-requires : goal.spot_of-from-requires
spot_of-from-requires c =
    locatable c.requires.0 c.args.e.first (omega arith) c.requires.0.some

pub walk_by-requires : goal.walk_by-requires
walk_by-requires c = walkable (goal.at.walk_by-requires c).After-rotate_left-pattern

pub walk_by-requires-else-pattern-crowded : goal.walk_by-requires-else-pattern-crowded
walk_by-requires-else-pattern-crowded c = walkable (goal.at.walk_by-requires-else-pattern-crowded c).After-rotate_left-pattern

pub returns-then-pattern-crowded : goal.returns-then-pattern-crowded
returns-then-pattern-crowded c =
    c.walk_by.ensures ∙ drawn (goal.at.returns-then-pattern-crowded c).After-rotate_left-pattern solid (digits_solid _ (eqb-true _ 65535 (both_true _ _ c.if-pattern-crowded.true).0))

pub returns-else-pattern-crowded : goal.returns-else-pattern-crowded
returns-else-pattern-crowded c =
    c.walk_by-else-pattern-crowded.ensures
    ∙ drawn (goal.at.returns-else-pattern-crowded c).After-rotate_left-pattern (pattern_digit c.rotate_left-pattern.result) (λ k. refl)
