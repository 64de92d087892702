-- The record that a command leaves which draws nothing, and what no fault says of CALL and RETURN.
use mathlib.Core.Path.{◌≡◌, sym, ap, subst, ◌∙◌}
use mathlib.Core.List.{List}
use Prim.Native.Nat.{ℕ, ◌<◌, ◌≤◌}
use native.Mathlib.Omega.{arith}
use borrow.Author.Tests.{leb-false, eqb-false}
use denote.Enum.Declared.{tag_of}
use types.Run.{OneOf}
use lib.Dec.{leb, eqb}
use Rattle.model.specs.Numbers.{fault_call, fault_return}
use Rattle.model.specs.declared.Geometry.{Geometry}
use Rattle.model.specs.declared.Row.{Row}
use Rattle.model.specs.declared.Pane.{Pane}
use Rattle.model.specs.declared.Command.{Command}
use Rattle.model.specs.declared.Command.TheVariants as command
use Rattle.model.specs.Effects.{Effect, becomes, effect_of}
use Rattle.model.specs.Faults.{context_of, fault_of}
use Rattle.model.specs.contracts.Command.{the_type}
use Rattle.model.proofs.Decisions.{cond_none}
use Rattle.perform.specs.Performing.{Settling, Settles}
use Rattle.perform.proofs.KindLaws.{drawing_tags, drawing_draws, either_effect}

same_record : {e : Effect} {q q' : Pane} → e ≡ becomes q → e ≡ becomes q' → q ≡ q'
same_record h k = cc

-- the command d, told as c
pub settles : (r : Row) (p : Pane) (next : ℕ) (d : Command) (q' : Pane) {c : Command} {q : Pane} → c ≡ d
    → ((g : Geometry) (pixel_of : ℕ → ℕ → ℕ) (store : List ℕ) → effect_of g r p pixel_of store next d ≡ becomes q') → q ≡ q'
    → Settles r p next c q
settles r p next d q' told is h = record {
  is = λ g pixel_of store q'' e. h ∙ same_record (is g pixel_of store) (sym (ap (effect_of g r p pixel_of store next) told) ∙ e);
}

-- nothing is said of a drawing command
pub settles_not : (r : Row) (p : Pane) (next : ℕ) (c : Command) (q : Pane) → OneOf drawing_tags (tag_of the_type c) → Settles r p next c q
settles_not r p next c q h = record { is = λ g pixel_of store q' e. either_effect e (drawing_draws g r p pixel_of store next c h).is }

-- ## CALL and RETURN

pub call_room : {r : Row} {p : Pane} {a : ℕ} {c : Command} → c ≡ command.Call a → Settling r p c → p.returns.count < 8
unfolding fault_of
call_room {r} {p} {a} told s =
    let e = subst (λ (d : Command). fault_of s.geometry r (context_of p) s.store d ≡ 0) told s.clear in
    leb-false 8 p.returns.count (cond_none (leb 8 p.returns.count) fault_call 0 tt e).0

pub return_kept : {r : Row} {p : Pane} {c : Command} → c ≡ command.Return → Settling r p c → (0 < p.returns.count) × (p.returns.count ≤ 8)
unfolding fault_of
return_kept {r} {p} told s =
    let e = subst (λ (d : Command). fault_of s.geometry r (context_of p) s.store d ≡ 0) told s.clear in
    let n = eqb-false p.returns.count 0 (cond_none (eqb p.returns.count 0) fault_return 0 tt e).0 in
    (omega arith, s.returns)
