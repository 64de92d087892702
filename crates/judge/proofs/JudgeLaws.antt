-- What the two judges answer is what the walk does, whatever return addresses are kept.
use mathlib.Core.Path.{◌≡◌, refl, sym, ap, subst, ◌∙◌}
use mathlib.Core.Bool.{false}
use mathlib.Core.List.{List, []}
use Prim.Native.Nat.{ℕ, suc, ◌+◌, ◌-◌, ◌≤◌, ◌<◌}
use native.Mathlib.Nat.{le_refl}
use native.Mathlib.Omega.{arith}
use lib.ListN.{length}
use borrow.Author.Tests.{eqb-false}
use Rattle.std.specs.Prelude.{Ok, Err}
use Rattle.std.specs.declared.result.Result.{Result}
use Rattle.model.specs.declared.Geometry.{Geometry}
use Rattle.model.specs.declared.Row.{Row}
use Rattle.model.specs.declared.Pane.{Pane}
use Rattle.model.specs.declared.Bitmap.{Bitmap}
use Rattle.model.specs.declared.Bitmap.TheVariants as bitmap
use Rattle.model.specs.declared.Font.{Font}
use Rattle.model.specs.declared.Returns.{Returns}
use Rattle.model.specs.declared.Context.{Context}
use Rattle.model.specs.declared.Command.{Command}
use Rattle.model.specs.declared.Decoded.{Decoded}
use Rattle.model.specs.declared.Decoded.TheVariants.{Do, End}
use Rattle.model.specs.declared.Decoded.TheVariants as decoded
use Rattle.model.specs.declared.Fault.{Fault}
use Rattle.model.specs.declared.Fault.TheVariants as fault
use Rattle.model.specs.declared.FoundFault.{FoundFault}
use Rattle.model.specs.Numbers.{fault_number}
use Rattle.model.specs.Bitmaps.{rule_broken}
use Rattle.model.specs.Record.{fresh, no_returns}
use Rattle.model.specs.Setup.{font_bad}
use Rattle.model.specs.Commands.{Addressed, decode}
use Rattle.model.specs.Faults.{context_of}
use Rattle.model.specs.Effects.{kept_one, latest, without_latest}
use Rattle.model.specs.Judge.{judged_fault, record_after, judged_command, list_walk, most_walked, tallied, verdict_of}
use Rattle.model.specs.Calls.{started}
use Rattle.model.proofs.NumberLaws.{fault_some}
use Rattle.faults.specs.Checking.{Checkable}
use Rattle.judge.specs.declared.Role.{Role}
use Rattle.judge.specs.declared.Role.TheVariants as role
use Rattle.judge.specs.declared.Stop.{Stop}
use Rattle.judge.specs.declared.Stop.TheVariants as stop
use Rattle.judge.specs.declared.Next.TheVariants as after
use Rattle.judge.specs.Roles.{role_of}
use Rattle.judge.specs.Levels.{record_with, with_kept, Kept, Judgeable, resumed, Further, StopFair, ListJudged, CommandJudged}
use Rattle.judge.proofs.RoleLaws.{standing_of, Followed, changed, RoleFair, follows, none_fault, walk_same}
use Rattle.judge.proofs.WalkLaws.{walk_end, walk_long, walk_fault, walk_do, judged_fault_lem, judged_none}
use Rattle.judge.proofs.KeptLaws.{kept_none, kept_more, latest_more, without_more}

-- ## Stops

fair_more : (g : Geometry) (r : Row) (store count left most : ℕ) (s : Stop) → left ≤ most
    → StopFair g r store count left (Ok s) → StopFair g r store count most (Ok s)
fair_more g r store count left most (stop.Ended n) h f = omega arith
fair_more g r store count left most (stop.Returned x n) h f =
    (f.0, record { checkable = f.1.checkable; kept = f.1.kept; rest = omega (arith, f.1.rest) })

-- ## A command

-- a record with the context, of which nothing else is known
abbrev bare : Context → Pane
bare x = record_with x (record { addresses = []; count = x.kept }) 0

checkable_with : {g : Geometry} {r : Row} {x : Context} {store : ℕ} → Checkable g r x store → (b : Bitmap) (f : Font) (n : ℕ) → rule_broken g r b ≡ false
    → font_bad f ≡ false → Checkable g r (record { bitmap = b; font = f; kept = n }) store
checkable_with h b f n rule font = record { screen = h.screen; placed = h.placed; rule = rule; font = font }

module _ (g : Geometry) (r : Row) (store : List ℕ) (x : Context) (at left : ℕ) (c : Command) (next : ℕ) where
  found_with : (f : ℕ) → f ≡ judged_fault g r x store c → (kept : Returns) → Kept kept x.kept
      → f ≡ judged_fault g r (context_of (record_with x kept at)) store c
  found_with f e kept k = e ∙ ap (λ (n : ℕ). judged_fault g r (with_kept x n) store c) (sym k.count)

  pub command_fault : (f : Fault) → fault_number f ≡ judged_fault g r x store c
      → CommandJudged g r store x at left c next (Err (record { fault = f; address = at }))
  command_fault f e = record {
    same = λ kept k. judged_fault_lem g r store (record_with x kept at) (λ q. list_walk g r store left q) c next (fault_number f)
        (found_with (fault_number f) e kept k) (eqb-false (fault_number f) 0 (fault_some f));
    fair = tt;
  }

-- a command that is followed, as its role is known
module _ (g : Geometry) (r : Row) (store : List ℕ) (x : Context) (at left : ℕ) (c : Command) (next : ℕ) (ready : Judgeable g r x (length store))
    (addressed : Addressed c) (clear : 0 ≡ judged_fault g r x store c) where
  module _ {v : Role} (known : role_of c ≡ Ok v) where
    -- the walk goes on from a record that stands as the role says
    onward : (kept : Returns) → Kept kept x.kept → (q : Pane) → changed (standing_of (record_with x kept at)) next (Ok v) ≡ standing_of q
        → judged_command g r store (λ z. list_walk g r store left z) (record_with x kept at) c next ≡ list_walk g r store left q
    unfolding record_after
    onward kept k q s =
        judged_none g r store (record_with x kept at) (λ z. list_walk g r store left z) c next 0 (found_with g r store x at left c next 0 clear kept k) refl
        ∙ walk_same g r store left _ q
        ((follows g r (record_with x kept at) (λ a b. 0) store next c).stands (subst Followed (sym known) tt)
        ∙ ap (changed (standing_of (record_with x kept at)) next) known ∙ s)

    fairly : RoleFair g r x.kept (Ok v)
    fairly = subst (RoleFair g r x.kept) known
        ((follows g r (bare x) (λ a b. 0) store next c).fair addressed (none_fault g r (bare x) store c (sym clear)))

  pub command_plain : role_of c ≡ Ok role.Plain → CommandJudged g r store x at left c next (Ok (after.On x next left))
  command_plain w = record {
    same = λ kept k. onward w kept k (record_with x kept next) refl;
    fair = record { checkable = ready.checkable; kept = refl; rest = le_refl left };
  }

  pub command_bitmap : (xmax ymax b : ℕ) → role_of c ≡ Ok (role.SetsBitmap xmax ymax b)
      → CommandJudged g r store x at left c next (Ok (after.On (record { bitmap = bitmap.Pane xmax ymax b; font = x.font; kept = x.kept }) next left))
  command_bitmap xmax ymax b w = record {
    same = λ kept k. onward w kept k (record_with (record { bitmap = bitmap.Pane xmax ymax b; font = x.font; kept = x.kept }) kept next) refl;
    fair = record {
      checkable = checkable_with ready.checkable (bitmap.Pane xmax ymax b) x.font x.kept (fairly w) ready.checkable.font;
      kept = refl;
      rest = le_refl left;
    };
  }

  pub command_font : (f : Font) → role_of c ≡ Ok (role.SetsFont f)
      → CommandJudged g r store x at left c next (Ok (after.On (record { bitmap = x.bitmap; font = f; kept = x.kept }) next left))
  command_font f w = record {
    same = λ kept k. onward w kept k (record_with (record { bitmap = x.bitmap; font = f; kept = x.kept }) kept next) refl;
    fair = record {
      checkable = checkable_with ready.checkable x.bitmap f x.kept ready.checkable.rule (fairly w);
      kept = refl;
      rest = le_refl left;
    };
  }

  -- RETURN: some address is kept
  module _ (w : role_of c ≡ Ok role.Returns) where
    pub command_kept : 0 < x.kept
    command_kept = fairly w

    pub command_back : CommandJudged g r store x at left c next (Ok (after.Stops (stop.Returned (with_kept x (x.kept - 1)) left)))
    command_back = record {
      same = λ kept k. onward w kept k (record_with (with_kept x (x.kept - 1)) (without_latest kept) (latest kept)) refl;
      fair = (
        command_kept,
        record {
          checkable = checkable_with ready.checkable x.bitmap x.font (x.kept - 1) ready.checkable.rule ready.checkable.font;
          kept = refl;
          rest = le_refl left;
        },
      );
    }

  -- CALL: a level is left, the list is judged with one level less, and where it returns the walk goes on after the CALL
  module _ (a : ℕ) (w : role_of c ≡ Ok (role.Calls a)) where
    pub command_room : x.kept < 8
    command_room = fairly w

    pub command_called : Judgeable g r (with_kept x (x.kept + 1)) (length store)
    command_called = record {
      checkable = checkable_with ready.checkable x.bitmap x.font (x.kept + 1) ready.checkable.rule ready.checkable.font;
      most = let l = command_room in omega arith;
    }

    abbrev Called : Result Stop FoundFault → Type 0
    Called s = ListJudged g r store (with_kept x (x.kept + 1)) a left s

    into : (s : Result Stop FoundFault) → Called s → (kept : Returns) → Kept kept x.kept
        → judged_command g r store (λ z. list_walk g r store left z) (record_with x kept at) c next ≡ resumed g r store (kept_one kept next) s
    into s j kept h =
        onward w kept h (record_with (with_kept x (x.kept + 1)) (kept_one kept next) a) refl
        ∙ j.same (kept_one kept next) (kept_more kept x.kept next h command_room)

    pub command_met : (f : FoundFault) → Called (Err f) → CommandJudged g r store x at left c next (Err f)
    command_met f j = record { same = into (Err f) j; fair = tt }

    pub command_ended : (n : ℕ) → Called (Ok (stop.Ended n)) → CommandJudged g r store x at left c next (Ok (after.Stops (stop.Ended n)))
    command_ended n j = record { same = into (Ok (stop.Ended n)) j; fair = j.fair }

    pub command_returned : (y : Context) (rest : ℕ) → Called (Ok (stop.Returned y rest))
        → CommandJudged g r store x at left c next (Ok (after.On y next rest))
    command_returned y rest j = record {
      same = λ kept h.
          into (Ok (stop.Returned y rest)) j kept h
          ∙ (λ i. list_walk g r store rest
          (record_with y (without_more kept x.kept next h command_room i) (latest_more kept x.kept next h command_room i)));
      fair = record {
        checkable = j.fair.1.checkable;
        kept = j.fair.1.kept ∙ (let k : x.kept + 1 - 1 ≡ x.kept = omega arith in k);
        rest = j.fair.1.rest;
      };
    }

-- ## A list

-- what holds at the loop's head: what is left to walk gives the same verdict
pub record Walking (g : Geometry) (r : Row) (store : List ℕ) (begun : Context) (from most : ℕ) (x : Context) (at left : ℕ) : Type 0 where
  pub further : Further g r (length store) begun.kept most x left
  pub same : (kept : Returns) → Kept kept begun.kept
      → list_walk g r store most (record_with begun kept from) ≡ list_walk g r store left (record_with x kept at)

module _ {g : Geometry} {r : Row} {store : List ℕ} {begun : Context} {from most : ℕ} {x : Context} {at left : ℕ}
    (w : Walking g r store begun from most x at left) where
  -- the decoder is asked with the store's length, which is the row's
  here : (d : Decoded) → d ≡ decode (length store) store at → decode r.len store at ≡ d
  here d e = sym (ap (λ (n : ℕ). decode n store at) w.further.checkable.placed.part) ∙ sym e

  pub list_ended : End ≡ decode (length store) store at → ListJudged g r store begun from most (Ok (stop.Ended left))
  list_ended e = record { same = λ kept h. w.same kept h ∙ walk_end g r store (record_with x kept at) left (here _ e); fair = w.further.rest }

  pub list_fault : (f : Fault) → (left ≡ 0 → ⊥) → decoded.Fault f ≡ decode (length store) store at
      → ListJudged g r store begun from most (Err (record { fault = f; address = at }))
  list_fault f n e = record { same = λ kept h. w.same kept h ∙ walk_fault g r store (record_with x kept at) left f n (here _ e); fair = tt }

  -- nothing is left to walk, and what stands there is no end word
  pub list_long : (d : Decoded) → left ≡ 0 → (d ≡ End → ⊥) → d ≡ decode (length store) store at
      → ListJudged g r store begun from most (Err (record { fault = fault.Long; address = at }))
  list_long d z n e = record {
    same = λ kept h.
        w.same kept h ∙ ap (λ (n : ℕ). list_walk g r store n (record_with x kept at)) z
        ∙ walk_long g r store (record_with x kept at) d n (here d e);
    fair = tt;
  }

  module _ (c : Command) (next : ℕ) (n : left ≡ 0 → ⊥) (e : Do c next ≡ decode (length store) store at) where
    one : suc (left - 1) ≡ left
    one = omega arith

    kept_as : {kept : Returns} → Kept kept begun.kept → Kept kept x.kept
    kept_as {kept} h = subst (λ (k : ℕ). Kept kept k) (sym w.further.kept) h

    stepped : (kept : Returns) → Kept kept begun.kept
        → list_walk g r store most (record_with begun kept from)
        ≡ judged_command g r store (λ q. list_walk g r store (left - 1) q) (record_with x kept at) c next
    stepped kept h =
        w.same kept h ∙ sym (ap (λ (k : ℕ). list_walk g r store k (record_with x kept at)) one)
        ∙ walk_do g r store (record_with x kept at) (left - 1) c next (here _ e)

    pub list_met : (f : FoundFault) → CommandJudged g r store x at (left - 1) c next (Err f) → ListJudged g r store begun from most (Err f)
    list_met f j = record { same = λ kept h. stepped kept h ∙ j.same kept (kept_as h); fair = tt }

    pub list_stops : (s : Stop) → CommandJudged g r store x at (left - 1) c next (Ok (after.Stops s)) → ListJudged g r store begun from most (Ok s)
    list_stops s j = record {
      same = λ kept h. stepped kept h ∙ j.same kept (kept_as h);
      fair = fair_more g r (length store) begun.kept (left - 1) most s (omega (arith, w.further.rest))
          (subst (λ (k : ℕ). StopFair g r (length store) k (left - 1) (Ok s)) w.further.kept j.fair);
    }

    pub list_on : (y : Context) (to rest : ℕ) → CommandJudged g r store x at (left - 1) c next (Ok (after.On y to rest))
        → Walking g r store begun from most y to rest
    list_on y to rest j = record {
      further = record {
        checkable = j.fair.checkable;
        kept = j.fair.kept ∙ w.further.kept;
        rest = omega (arith, w.further.rest, j.fair.rest);
      };
      same = λ kept h. stepped kept h ∙ j.same kept (kept_as h);
    }

-- ## The whole list

pub verdict_stop : (g : Geometry) (r : Row) (store : List ℕ) (at : ℕ) (s : Result Stop FoundFault)
    → ListJudged g r store (context_of fresh) at most_walked s → verdict_of g r store (started fresh at) ≡ tallied (resumed g r store no_returns s)
unfolding verdict_of
verdict_stop g r store at s j = ap tallied
    (walk_same g r store most_walked (started fresh at) (record_with (context_of fresh) no_returns at) refl ∙ j.same no_returns kept_none)
