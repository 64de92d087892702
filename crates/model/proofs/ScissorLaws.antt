-- The scissor (02, A.6): refusal 12's comparison, what the scissor holds, and that every command and call keeps it.
use mathlib.Core.Path.{◌≡◌, refl, sym, ap, subst, ◌∙◌}
use mathlib.Core.Logic.{◌⊎◌, inl, inr}
use mathlib.Core.Bool.{true, false, not}
use mathlib.Core.List.{List, [], ◌∷◌}
use Prim.Native.Nat.{ℕ, zero, suc, ◌+◌, ◌-◌, ◌≤◌}
use native.Mathlib.Omega.{arith}
use lib.Dec.{eqb, ltb}
use lib.ListN.{get_or, set, replicate}
use borrow.Author.Tests.{ltb-true, eqb-true, eq-eqb, not-false}
use Rattle.model.specs.Numbers.{status_running, status_trapped}
use Rattle.model.specs.declared.Geometry.{Geometry}
use Rattle.model.specs.declared.Row.{Row}
use Rattle.model.specs.declared.Bitmap.{Bitmap}
use Rattle.model.specs.declared.Bitmap.TheVariants as bitmap
use Rattle.model.specs.declared.Clip.{Clip}
use Rattle.model.specs.declared.Scissor.{Scissor}
use Rattle.model.specs.declared.Pane.{Pane}
use Rattle.model.specs.declared.Command.{Command}
use Rattle.model.specs.declared.Command.TheVariants as command
use Rattle.model.specs.declared.Decoded.{Decoded}
use Rattle.model.specs.declared.Decoded.TheVariants.{Do, End, Fault}
use Rattle.model.specs.Bitmaps.{is_pane, pane_surface, pixels, rule_broken}
use Rattle.model.specs.Record.{fresh, no_pane, no_scissor}
use Rattle.model.specs.Scissor.{clip_empty, clip_on_screen, scissor_of, afresh, Current, same_scissor, scissor_stale, InScissor, PanePixel, Exact}
use Rattle.model.specs.Faults.{clip_outside, context_of, fault_of}
use Rattle.model.specs.Setup.{pane_bad}
use Rattle.model.specs.Commands.{decode}
use Rattle.model.specs.Effects.{Effect, becomes, draws, effect_of}
use Rattle.model.specs.Steps.{Plan, plan_of, attempted, obey, step}
use Rattle.model.specs.Runs.{Finish, stepped, follow, runs}
use Rattle.model.specs.Replies.{refused_with, accepted_with}
use Rattle.model.specs.Calls.{State, Call, put, start, run, look, pixel, peek, clear, judge, switch, Request, Answer, on_pane, row_of, record_of}
use Rattle.model.specs.Calls.{setup_refusal, released, switched, refusal, with_pane, accepted, exec, set_up}
use Rattle.model.specs.ScissorKept.{CurrentIn, ScissorKept}
use Rattle.model.proofs.Decisions.{split, holds, both_true, both_of, either_true, cond_true, cond_false, cond_ind}
use Rattle.model.proofs.SetupLaws.{PaneBitmap, rule_broken_pane, ClipIn, clip_beyond_says, clip_empty_says, pane_bad_says}

-- ## Refusal 12's comparison

same_is : (s t : Scissor) → same_scissor s t ≡ true → s ≡ t
same_is s t h =
    let a = both_true (eqb s.left t.left) _ h in
    let b = both_true (eqb s.top t.top) _ a.1 in
    let c = both_true (eqb s.width t.width) (eqb s.height t.height) b.1 in
    let left = eqb-true s.left t.left a.0 in
    let top = eqb-true s.top t.top b.0 in
    let width = eqb-true s.width t.width c.0 in
    let height = eqb-true s.height t.height c.1 in
    λ i. record { left = left i; top = top i; width = width i; height = height i }

same_self : (s : Scissor) → same_scissor s s ≡ true
same_self s =
    both_of (eq-eqb s.left s.left refl) (both_of (eq-eqb s.top s.top refl)
    (both_of (eq-eqb s.width s.width refl) (eq-eqb s.height s.height refl)))

module _ (r : Row) (p : Pane) where
  pub stale_current : scissor_stale r p ≡ false → Current r p
  unfolding scissor_stale
  stale_current h = same_is p.scissor (afresh r p) (not-false (same_scissor p.scissor (afresh r p)) h)

  pub current_stale : Current r p → scissor_stale r p ≡ false
  unfolding scissor_stale
  current_stale h = ap not (subst (λ (s : Scissor). same_scissor p.scissor s ≡ true) h (same_self p.scissor))

-- ## What it holds

module _ {s : Scissor} (e : s ≡ no_scissor) where
  none_in : (u v : ℕ) → InScissor s u v → ⊥
  none_in u v h =
      let left : s.left ≡ 0 = ap (λ (t : Scissor). t.left) e in
      let width : s.width ≡ 0 = ap (λ (t : Scissor). t.width) e in
      omega (arith, h.east)

-- where the clip is empty no pixel is in it
empty_says : (c : Clip) (x y : ℕ) → clip_empty c ≡ true → c.xmin ≤ x → x ≤ c.xmax → c.ymin ≤ y → y ≤ c.ymax → ⊥
empty_says c x y e h1 h2 h3 h4 = go (either_true (ltb c.xmax c.xmin) (ltb c.ymax c.ymin) e)
  where
    go : (ltb c.xmax c.xmin ≡ true) ⊎ (ltb c.ymax c.ymin ≡ true) → ⊥
    go (inl q) = let l = ltb-true c.xmax c.xmin q in omega arith
    go (inr q) = let l = ltb-true c.ymax c.ymin q in omega arith

module _ (g : Geometry) (r : Row) (p : Pane) where
  -- no pixel of the pane is in bitmap and clip, and none in the scissor
  exact_none : p.scissor ≡ no_scissor → ((x y : ℕ) → PanePixel r p x y → ⊥) → Exact r p
  exact_none e n = record { all = λ x y h. absurd (n x y h); only = λ u v h. absurd (none_in e u v h) }

  -- the pane is not the active bitmap
  exact_other : p.scissor ≡ no_scissor → is_pane p.bitmap ≡ false → Exact r p
  exact_other e b = exact_none e (λ x y h. absurd (holds (sym b ∙ h.bitmap)))

  -- the pane is the active bitmap, the clip not empty
  exact_some : {xmax ymax b : ℕ} → is_pane p.bitmap ≡ true → PaneBitmap g r xmax ymax b → ClipIn xmax ymax p.clip
      → clip_empty p.clip ≡ false → p.scissor ≡ clip_on_screen r p.clip → Exact r p
  exact_some b size within h e =
      let left : p.scissor.left ≡ r.left + p.clip.xmin = ap (λ (t : Scissor). t.left) e in
      let top : p.scissor.top ≡ r.top + p.clip.ymin = ap (λ (t : Scissor). t.top) e in
      let width : p.scissor.width ≡ p.clip.xmax + 1 - p.clip.xmin = ap (λ (t : Scissor). t.width) e in
      let height : p.scissor.height ≡ p.clip.ymax + 1 - p.clip.ymin = ap (λ (t : Scissor). t.height) e in
      let some = clip_empty_says p.clip h in
      record {
        all = λ x y q. record { west = omega arith; east = omega arith; north = omega arith; south = omega arith };
        only = λ u v q. record {
          x = u - r.left;
          y = v - r.top;
          pixel = record {
            column = omega arith;
            row = omega arith;
            bitmap = b;
            west = omega arith;
            east = omega arith;
            north = omega arith;
            south = omega arith;
          };
          u_is = omega arith;
          v_is = omega arith;
        };
      }

  -- by the active bitmap: DEF_BITMAP's rule gives the pane's width and height, and the clip lies in the bitmap
  exact_by : (b : Bitmap) → p.bitmap ≡ b → rule_broken g r b ≡ false → clip_outside b p.clip ≡ false
      → p.scissor ≡ scissor_of r b p.clip → Exact r p
  unfolding clip_outside scissor_of
  exact_by bitmap.Absent b h k e = exact_other e (ap is_pane b)
  exact_by (bitmap.Store a xmax ymax bits) b h k e = exact_other e (ap is_pane b)
  exact_by (bitmap.Pane xmax ymax bits) b h k e = split (clip_empty p.clip)
      (λ t. exact_none (e ∙ cond_true _ _ t) (λ x y q. empty_says p.clip x y t q.west q.east q.north q.south))
      (λ t. exact_some (ap is_pane b) (rule_broken_pane g r xmax ymax bits h) (clip_beyond_says xmax ymax p.clip k) t (e ∙ cond_false _ _ t))

  pane_bad_exact : pane_bad g r p ≡ false → Exact r p
  pane_bad_exact h =
      let q = pane_bad_says g r p h in
      exact_by p.bitmap refl q.rule q.clip (stale_current r p q.scissor)

-- ## A command keeps it

-- whatever an effect leaves of the record
CurrentEffect : Row → Effect → Type 0
CurrentEffect r (becomes q) = Current r q
CurrentEffect r (draws d) = Unit {0}

module _ (g : Geometry) (r : Row) (p : Pane) (h : Current r p) (pixel_of : ℕ → ℕ → ℕ) (store : List ℕ) where
  effect_current : (next : ℕ) (c : Command) → CurrentEffect r (effect_of g r p pixel_of store next c)
  unfolding effect_of CurrentEffect
  effect_current next (command.Link a) = h
  effect_current next command.Nop = h
  effect_current next (command.DefTexture pattern t) = h
  effect_current next (command.DefCharSet base t) = h
  effect_current next (command.Call a) = h
  effect_current next command.Return = h
  effect_current next (command.DefBitmap a xmax ymax b) = refl
  effect_current next (command.DefColors fore back) = h
  effect_current next (command.DefLogicalOp mask code) = h
  effect_current next command.EnterPick = h
  effect_current next command.ExitPick = h
  effect_current next (command.DefClipRect xmin ymin xmax ymax) = refl
  effect_current next (command.DefSpace spacing) = h
  effect_current next (command.DefCharOrient orientation) = h
  effect_current next (command.AbsMov x y) = h
  effect_current next (command.RelMov dx dy) = h
  effect_current next (command.Point dx dy) = tt
  effect_current next (command.Line dx dy) = tt
  effect_current next (command.Rect dx dy) = tt
  effect_current next (command.BitBlt b) = tt
  effect_current next (command.Polyline a n) = tt
  effect_current next (command.Circle radius) = tt
  effect_current next (command.Char a n t) = tt
  effect_current next (command.BitBltM a xmax ymax b) = tt
  effect_current next (command.ScanLines a n) = tt

  plan_current : (next : ℕ) (e : Effect) → CurrentEffect r e → Current r (plan_of g r p store next e).pane
  unfolding plan_of CurrentEffect
  plan_current next (becomes q) e = e
  plan_current next (draws d) e = h

  obey_current : (d : Decoded) → Current r (obey g r p pixel_of store d).pane
  unfolding obey attempted
  obey_current End = h
  obey_current (Fault f) = h
  obey_current (Do c next) = cond_ind (λ (q : Plan). Current r q.pane) (eqb (fault_of g r (context_of p) store c) 0) _ _
      (λ e. plan_current next _ (effect_current next c)) (λ e. h)

  step_current : Current r (step g r p pixel_of store).pane
  unfolding step
  step_current = obey_current (decode r.len store p.progress.pointer)

-- ## A call keeps it

module _ (g : Geometry) (r : Row) where
  runs_current : (n : ℕ) (p : Pane) (s store : List ℕ) → Current r p → Current r (runs g r n p s store).pane
  unfolding runs follow stepped
  runs_current zero p s store h = h
  runs_current (suc n) p s store h =
      cond_ind (λ (f : Finish). Current r f.pane) (eqb p.progress.status status_running) _ _
      (λ e. runs_current n _ _ _ (step_current g r p h (pixels (pane_surface g r) s) store)) (λ e. h)

  released_current : (p : Pane) → Current r p → Current r (released p)
  unfolding released
  released_current p h = cond_ind (Current r) (eqb p.progress.status status_trapped) _ _ (λ e. h) (λ e. h)

  on_pane_current : (p : Pane) (s store : List ℕ) → Current r p → (c : Call) → Current r (on_pane g r p s store c).pane
  unfolding on_pane scissor_of switched
  on_pane_current p s store h (put a bytes) = h
  on_pane_current p s store h (start a) = h
  on_pane_current p s store h (run n) = runs_current n (released p) s store (released_current p h)
  on_pane_current p s store h look = h
  on_pane_current p s store h (pixel x y) = h
  on_pane_current p s store h (peek a) = h
  on_pane_current p s store h clear = refl
  on_pane_current p s store h (judge a) = h
  on_pane_current p s store h (switch v) = h

-- what holds of an element, and of what is put in its place, holds after that
set_keeps : {A : Type 0} (P : A → Type 0) (l : List A) (i j : ℕ) (a d : A) → (j ≡ i → P a) → P (get_or l j d) → P (get_or (set l i a) j d)
set_keeps P [] i j a d f h = h
set_keeps P (x ∷ l) zero zero a d f h = f refl
set_keeps P (x ∷ l) zero (suc j) a d f h = h
set_keeps P (x ∷ l) (suc i) zero a d f h = h
set_keeps P (x ∷ l) (suc i) (suc j) a d f h = set_keeps P l i j a d (λ e. f (ap suc e)) h

exec_current : (s : State) (c : Request) (k : ℕ) → CurrentIn s k → CurrentIn (exec s c).state k
unfolding CurrentIn exec accepted with_pane row_of record_of
exec_current s c k h =
    cond_ind (λ (a : Answer). CurrentIn a.state k) (eqb (refusal s c) 0) _ _
    (λ e. set_keeps (Current (row_of s k)) s.console.panes c.number k _ no_pane
    (λ q. rw q (on_pane_current _ _ _ _ _ (rw (← q) h) c.call)) h) (λ e. h)

-- ## Set-up

replicate_keeps : {A : Type 0} (P : A → Type 0) (n k : ℕ) (a d : A) → P a → P d → P (get_or (replicate n a) k d)
replicate_keeps P zero k a d f h = h
replicate_keeps P (suc n) zero a d f h = f
replicate_keeps P (suc n) (suc k) a d f h = replicate_keeps P n k a d f h

module _ (s : State) (k : ℕ) where
  set_up_done : eqb (setup_refusal s) 0 ≡ true → CurrentIn (set_up s).state k
  unfolding CurrentIn set_up row_of record_of scissor_of
  set_up_done e =
      subst (λ (a : Answer). CurrentIn a.state k) (sym (cond_true _ _ e)) (replicate_keeps (Current (row_of s k)) 8 k fresh no_pane refl refl)

  set_up_current : (set_up s).reply ≡ accepted_with [] → CurrentIn (set_up s).state k
  unfolding set_up
  set_up_current h = split (eqb (setup_refusal s) 0) set_up_done
      (λ e. let n : refused_with (setup_refusal s) ≡ accepted_with [] = sym (ap (λ (z : Answer). z.reply) (cond_false _ _ e)) ∙ h in
      let z : ◌≡◌ {A = ℕ} 0 1 = cc in
      absurd (omega arith))

  set_up_keeps : CurrentIn s k → CurrentIn (set_up s).state k
  unfolding set_up
  set_up_keeps h = split (eqb (setup_refusal s) 0) set_up_done (λ e. subst (λ (a : Answer). CurrentIn a.state k) (sym (cond_false _ _ e)) h)

pub scissor_kept : ScissorKept
scissor_kept = record {
  exact = pane_bad_exact;
  setup = set_up_current;
  setup_keeps = set_up_keeps;
  command = λ g r p pixel_of store h. step_current g r p h pixel_of store;
  call = exec_current;
}
