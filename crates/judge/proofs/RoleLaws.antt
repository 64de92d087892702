-- What faults depend on, with the pointer: what a command leaves of it, by its role. The walk depends on nothing else.
use mathlib.Core.Path.{◌≡◌, refl, sym, ap, ◌∙◌}
use mathlib.Core.Logic.{◌⊎◌, inl, inr, ⊎_elim}
use mathlib.Core.Bool.{false}
use mathlib.Core.List.{List}
use Rattle.std.specs.Prelude.{Ok, Err}
use Rattle.std.specs.declared.result.Result.{Result}
use Prim.Native.Nat.{ℕ, zero, suc, ◌%◌, ◌<◌}
use native.Mathlib.Omega.{arith}
use borrow.Author.Tests.{leb-false, eqb-true, eqb-false}
use lib.Dec.{eqb, leb}
use Rattle.model.specs.declared.Geometry.{Geometry}
use Rattle.model.specs.declared.Row.{Row}
use Rattle.model.specs.declared.Pane.{Pane}
use Rattle.model.specs.declared.Bitmap.{Bitmap}
use Rattle.model.specs.declared.Bitmap.TheVariants as bitmap
use Rattle.model.specs.declared.Font.{Font}
use Rattle.model.specs.declared.Returns.{Returns}
use Rattle.model.specs.declared.Context.{Context}
use Rattle.model.specs.declared.Command.{Command}
use Rattle.model.specs.declared.Command.TheVariants as command
use Rattle.model.specs.declared.Decoded.{Decoded}
use Rattle.model.specs.declared.Decoded.TheVariants.{Do, End}
use Rattle.model.specs.declared.Decoded.TheVariants as decoded
use Rattle.model.specs.Replies.{Found}
use Rattle.model.specs.declared.Fault.{Fault}
use Rattle.model.specs.declared.Fault.TheVariants as fault
use Rattle.model.specs.Numbers.{fault_bitmap, fault_data, fault_call, fault_return, fault_barred, fault_long, fault_number, fault_met}
use Rattle.model.specs.Bitmaps.{pane_address, bitmap_of, rule_broken}
use Rattle.model.specs.Setup.{font_bad}
use Rattle.model.specs.Commands.{Addressed, font_at, decode}
use Rattle.model.specs.Faults.{context_of, fault_of}
use Rattle.model.specs.Effects.{kept_one, latest, without_latest, effect_of}
use Rattle.model.specs.Steps.{plan_of}
use Rattle.model.specs.Judge.{barred_fault, judged_fault, record_after, judged_command, met, met_last, list_walk}
use Rattle.model.proofs.Decisions.{split, cond_none, cond_true, cond_false, or_else_none}
use Rattle.refusals.proofs.GoodLaws.{good_font_of}
use Rattle.judge.specs.declared.Role.{Role}
use Rattle.judge.specs.declared.Role.TheVariants as role
use Rattle.judge.specs.Roles.{role_of}

-- ## What the walk depends on

pub record Standing : Type 0 where
  pub bitmap : Bitmap
  pub font : Font
  pub returns : Returns
  pub pointer : ℕ

abbrev pub standing_of : Pane → Standing
standing_of p = record { bitmap = p.bitmap; font = p.text.font; returns = p.returns; pointer = p.progress.pointer }

-- what faults depend on
abbrev pub context_in : Standing → Context
context_in s = record { bitmap = s.bitmap; font = s.font; kept = s.returns.count }

-- ## What a command leaves of it

-- a command that is followed
abbrev pub Followed : Result Role Fault → Type 0
Followed (Ok v) = Unit {0}
Followed (Err f) = ⊥

pub followed_none : (x : Result Role Fault) → Followed x → fault_met x ≡ 0
followed_none (Ok v) h = refl
followed_none (Err f) h = absurd h

-- .. leaves this, by the address after it
abbrev pub changed : Standing → ℕ → Result Role Fault → Standing
changed s next (Err f) = s
changed s next (Ok (role.Calls a)) = record { bitmap = s.bitmap; font = s.font; returns = kept_one s.returns next; pointer = a }
changed s next (Ok role.Returns) = record { bitmap = s.bitmap; font = s.font; returns = without_latest s.returns; pointer = latest s.returns }
changed s next (Ok (role.SetsBitmap xmax ymax b)) = record { bitmap = bitmap.Pane xmax ymax b; font = s.font; returns = s.returns; pointer = next }
changed s next (Ok (role.SetsFont f)) = record { bitmap = s.bitmap; font = f; returns = s.returns; pointer = next }
changed s next (Ok role.Plain) = record { bitmap = s.bitmap; font = s.font; returns = s.returns; pointer = next }

-- .. and without a fault promises this
abbrev pub RoleFair : Geometry → Row → ℕ → Result Role Fault → Type 0
RoleFair g r n (Err f) = Unit {0}
RoleFair g r n (Ok (role.Calls a)) = n < 8
RoleFair g r n (Ok role.Returns) = 0 < n
RoleFair g r n (Ok (role.SetsBitmap xmax ymax b)) = rule_broken g r (bitmap.Pane xmax ymax b) ≡ false
RoleFair g r n (Ok (role.SetsFont f)) = font_bad f ≡ false
RoleFair g r n (Ok role.Plain) = Unit {0}

-- a bitmap that is not in the store: the walk's never is
abbrev pub NotStore : Bitmap → Type 0
NotStore bitmap.Absent = Unit {0}
NotStore (bitmap.Pane xmax ymax b) = Unit {0}
NotStore (bitmap.Store a xmax ymax b) = ⊥

pub changed_apart : (s : Standing) (next : ℕ) (x : Result Role Fault) → NotStore s.bitmap → NotStore (changed s next x).bitmap
changed_apart s next (Err f) h = h
changed_apart s next (Ok (role.Calls a)) h = h
changed_apart s next (Ok role.Returns) h = h
changed_apart s next (Ok (role.SetsBitmap xmax ymax b)) h = tt
changed_apart s next (Ok (role.SetsFont f)) h = h
changed_apart s next (Ok role.Plain) h = h

-- ## Every command

positive : {n : ℕ} → (n ≡ 0 → ⊥) → 0 < n
positive f = omega arith

module _ (g : Geometry) (r : Row) (p : Pane) (see : ℕ → ℕ → ℕ) (store : List ℕ) (next : ℕ) where
  -- the record after a command that is done
  abbrev left : Command → Pane
  left c = (plan_of g r p store next (effect_of g r p see store next c)).pane

  -- the trap switch off, it leaves the status, and the switch off
  abbrev Unstopped : Command → Type 0
  Unstopped c = p.flags.switch ≡ false → ((left c).progress.status ≡ p.progress.status) × ((left c).flags.switch ≡ false)

  pub record Follows (c : Command) : Type 0 where
    -- followed, or 31
    pub cases : ((barred_fault c ≡ 0) × Followed (role_of c)) ⊎ ((barred_fault c ≡ fault_barred) × (role_of c ≡ Err fault.Barred))
    -- followed, it leaves what its role says, whatever the pane shows
    pub stands : Followed (role_of c) → standing_of (left c) ≡ changed (standing_of p) next (role_of c)
    pub unstopped : Unstopped c
    pub fair : Addressed c → fault_of g r (context_of p) store c ≡ 0 → RoleFair g r p.returns.count (role_of c)

  unchanging : {c : Command} → (barred_fault c ≡ 0) × Followed (role_of c)
      → (Followed (role_of c) → standing_of (left c) ≡ changed (standing_of p) next (role_of c)) → Unstopped c
      → RoleFair g r p.returns.count (role_of c) → Follows c
  unchanging a b u f = record { cases = inl a; stands = b; unstopped = u; fair = λ h e. f }

  pub follows : (c : Command) → Follows c
  unfolding barred_fault role_of fault_of effect_of plan_of
  follows (command.Link a) = record { cases = inr (refl, refl); stands = λ h. absurd h; unstopped = λ o. (refl, o); fair = λ h e. tt }
  follows command.Nop = unchanging (refl, tt) (λ h. refl) (λ o. (refl, o)) tt
  follows (command.DefTexture pattern t) = unchanging (refl, tt) (λ h. refl) (λ o. (refl, o)) tt
  follows (command.DefCharSet base t) = record {
    cases = inl (refl, tt);
    stands = λ h. refl;
    unstopped = λ o. (refl, o);
    fair = λ h e. good_font_of t base (eqb-false (base % 2) 1 (cond_none (eqb (base % 2) 1) fault_data 0 tt e).0) (h base font_at);
  }
  follows (command.Call a) = record {
    cases = inl (refl, tt);
    stands = λ h. refl;
    unstopped = λ o. (refl, o);
    fair = λ h e. leb-false 8 p.returns.count (cond_none (leb 8 p.returns.count) fault_call 0 tt e).0;
  }
  follows command.Return = record {
    cases = inl (refl, tt);
    stands = λ h. refl;
    unstopped = λ o. (refl, o);
    fair = λ h e. positive (eqb-false p.returns.count 0 (cond_none (eqb p.returns.count 0) fault_return 0 tt e).0);
  }
  follows (command.DefBitmap a xmax ymax b) = split (eqb a pane_address)
      (λ t. record {
        cases = rw t (inl (refl, tt));
        stands = λ h. rw t;
        unstopped = λ o. (refl, o);
        fair = λ h e. rw t (rw t at (cond_none (rule_broken g r (bitmap_of a xmax ymax b)) fault_bitmap 0 tt e).0);
      })
      (λ t. record { cases = rw t (inr (refl, refl)); stands = λ h. absurd (rw t at h); unstopped = λ o. (refl, o); fair = λ h e. rw t tt })
  follows (command.DefColors fore back) = unchanging (refl, tt) (λ h. refl) (λ o. (refl, o)) tt
  follows (command.DefLogicalOp mask code) = unchanging (refl, tt) (λ h. refl) (λ o. (refl, o)) tt
  follows command.EnterPick = unchanging (refl, tt) (λ h. refl) (λ o. (refl, o)) tt
  follows command.ExitPick = unchanging (refl, tt) (λ h. refl) (λ o. (refl, o)) tt
  follows (command.DefClipRect xmin ymin xmax ymax) = unchanging (refl, tt) (λ h. refl) (λ o. (refl, o)) tt
  follows (command.DefSpace spacing) = unchanging (refl, tt) (λ h. refl) (λ o. (refl, o)) tt
  follows (command.DefCharOrient orientation) = unchanging (refl, tt) (λ h. refl) (λ o. (refl, o)) tt
  follows (command.AbsMov x y) = unchanging (refl, tt) (λ h. refl) (λ o. (refl, o)) tt
  follows (command.RelMov dx dy) = unchanging (refl, tt) (λ h. refl) (λ o. (refl, o)) tt
  follows (command.Point dx dy) = unchanging (refl, tt) (λ h. refl) (λ o. (rw o, o)) tt
  follows (command.Line dx dy) = unchanging (refl, tt) (λ h. refl) (λ o. (rw o, o)) tt
  follows (command.Rect dx dy) = unchanging (refl, tt) (λ h. refl) (λ o. (rw o, o)) tt
  follows (command.BitBlt b) = unchanging (refl, tt) (λ h. refl) (λ o. (rw o, o)) tt
  follows (command.Polyline a n) = unchanging (refl, tt) (λ h. refl) (λ o. (rw o, o)) tt
  follows (command.Circle radius) = unchanging (refl, tt) (λ h. refl) (λ o. (rw o, o)) tt
  follows (command.Char a n t) = unchanging (refl, tt) (λ h. refl) (λ o. (rw o, o)) tt
  follows (command.BitBltM a xmax ymax b) = unchanging (refl, tt) (λ h. refl) (λ o. (rw o, o)) tt
  follows (command.ScanLines a n) = unchanging (refl, tt) (λ h. refl) (λ o. (rw o, o)) tt

module _ (g : Geometry) (r : Row) (p : Pane) (store : List ℕ) (c : Command) where
  -- the role holds the same fault as the paper's definition
  pub barred_role : barred_fault c ≡ fault_met (role_of c)
  barred_role = ⊎_elim (λ k. k.0 ∙ sym (followed_none (role_of c) k.1)) (λ k. k.0 ∙ sym (ap fault_met k.1)) (follows g r p (λ x y. 0) store 0 c).cases

-- a command that the judge finds no fault with is followed, and has no fault of its own
module _ (g : Geometry) (r : Row) (p : Pane) (store : List ℕ) (c : Command) (e : judged_fault g r (context_of p) store c ≡ 0) where
  pub none_fault : fault_of g r (context_of p) store c ≡ 0
  unfolding judged_fault
  none_fault = (or_else_none (barred_fault c) (fault_of g r (context_of p) store c) e).1

  pub none_followed : Followed (role_of c)
  unfolding judged_fault
  none_followed = ⊎_elim (λ k. k.1)
      (λ k. let z : fault_barred ≡ 0 = sym k.0 ∙ (or_else_none (barred_fault c) (fault_of g r (context_of p) store c) e).0 in absurd (omega arith))
      (follows g r p (λ x y. 0) store 0 c).cases

-- ## The walk goes by the standing alone

module _ (g : Geometry) (r : Row) (store : List ℕ) where
  last_same : (p q : Pane) (d : Decoded) → p.progress.pointer ≡ q.progress.pointer → met_last p d ≡ met_last q d
  unfolding met_last
  last_same p q End e = refl
  last_same p q (decoded.Fault f) e = ap (Found fault_long) e
  last_same p q (Do c next) e = ap (Found fault_long) e

  Steady : ℕ → Type 0
  Steady n = (p q : Pane) → standing_of p ≡ standing_of q → list_walk g r store n p ≡ list_walk g r store n q

  module _ (n : ℕ) (ih : Steady n) (p q : Pane) (e : standing_of p ≡ standing_of q) where
    fault_same : (c : Command) → judged_fault g r (context_of p) store c ≡ judged_fault g r (context_of q) store c
    fault_same c = ap (λ (s : Standing). judged_fault g r (context_in s) store c) e

    after_same : (c : Command) (next : ℕ) → Followed (role_of c) → standing_of (record_after g r p store next c) ≡ standing_of (record_after g r q store next c)
    unfolding record_after
    after_same c next h =
        (follows g r p (λ x y. 0) store next c).stands h ∙ ap (λ (s : Standing). changed s next (role_of c)) e
        ∙ sym ((follows g r q (λ x y. 0) store next c).stands h)

    command_same : (c : Command) (next : ℕ) → judged_command g r store (λ z. list_walk g r store n z) p c next
        ≡ judged_command g r store (λ z. list_walk g r store n z) q c next
    unfolding judged_command Steady
    command_same c next = split (eqb (judged_fault g r (context_of p) store c) 0)
        (λ t.
        let z = eqb-true (judged_fault g r (context_of p) store c) 0 t in
        cond_true _ _ t ∙ ih _ _ (after_same c next (none_followed g r p store c z))
        ∙ sym (cond_true _ _ (sym (ap (λ (k : ℕ). eqb k 0) (fault_same c)) ∙ t)))
        (λ t. cond_false _ _ t ∙ (λ i. Found (fault_same c i) (e i).pointer) ∙ sym (cond_false _ _ (sym (ap (λ (k : ℕ). eqb k 0) (fault_same c)) ∙ t)))

    met_same : (d : Decoded) → met g r store (suc n) (λ z. list_walk g r store n z) p d ≡ met g r store (suc n) (λ z. list_walk g r store n z) q d
    unfolding met
    met_same End = refl
    met_same (decoded.Fault f) = λ i. Found (fault_number f) (e i).pointer
    met_same (Do c next) = command_same c next

  pub walk_same : (n : ℕ) (p q : Pane) → standing_of p ≡ standing_of q → list_walk g r store n p ≡ list_walk g r store n q
  unfolding list_walk Steady
  walk_same zero p q e =
      last_same p q (decode r.len store p.progress.pointer) (λ i. (e i).pointer) ∙ (λ i. met_last q (decode r.len store (e i).pointer))
  walk_same (suc n) p q e =
      met_same n (λ x y h. walk_same n x y h) p q e (decode r.len store p.progress.pointer)
      ∙ (λ i. met g r store (suc n) (λ z. list_walk g r store n z) q (decode r.len store (e i).pointer))
