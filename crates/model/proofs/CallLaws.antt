-- A call on a pane: what it keeps, that its outcome depends only on the pane's record, pixels and store, and when it is refused.
use mathlib.Core.Path.{◌≡◌, refl, ap, ◌∙◌, subst}
use mathlib.Core.List.{List, [], ◌∷◌}
use Prim.Native.Nat.{ℕ, zero, suc, ◌+◌}
use native.Mathlib.Omega.{arith}
use borrow.Author.Tests.{ltb-false, eq-eqb, ne_eqb}
use lib.ListN.{length}
use lib.Dec.{ltb, eqb}
use Rattle.model.specs.Numbers.{status_running, refuse_end}
use Rattle.model.specs.declared.Geometry.{Geometry}
use Rattle.model.specs.declared.Row.{Row}
use Rattle.model.specs.declared.Bitmap.{Bitmap}
use Rattle.model.specs.declared.Bitmap.TheVariants as bitmap
use Rattle.model.specs.declared.Pane.{Pane}
use Rattle.model.specs.declared.Command.{Command}
use Rattle.model.specs.declared.Decoded.{Decoded}
use Rattle.model.specs.declared.Decoded.TheVariants.{Do, End, Fault}
use Rattle.model.specs.Replies.{Response, accepted_with, natural, ran_values}
use Rattle.model.specs.Bitmaps.{Surface, pane_surface, inside, pixels, Fits}
use Rattle.model.specs.Pixels.{Change, change, changes}
use Rattle.model.specs.Commands.{decode}
use Rattle.model.specs.Faults.{context_of, fault_of}
use Rattle.model.specs.Effects.{Effect, becomes, draws}
use Rattle.model.specs.Steps.{Plan, on_store, plan_of, attempted, obey, step}
use Rattle.model.specs.Runs.{Finish, idle, carried, stepped, follow, runs}
use Rattle.model.specs.Calls.{Call, put, start, run, look, pixel, peek, clear, judge, switch, Outcome, outcome, ran, own_refusal, on_pane, State, Request}
use Rattle.model.specs.Calls.{released, refusal, accepted, refused, exec}
use Rattle.model.proofs.Decisions.{cond_none, cond_true, cond_false, cond_ind, cond_rel}
use Rattle.model.proofs.FieldLaws.{length_put}
use Rattle.model.proofs.PartLaws.{length_in_part}
use Rattle.model.proofs.PixelLaws.{Framed, fits_framed, framed_refl, framed_trans, changes_frame, changes_agree}

-- ## A step keeps the store's length: the one law of a command that isolation needs

pub change_length : (u : Surface) (c : Change) (s : List ℕ) → length (change u c s) ≡ length s
unfolding change
change_length u c s = cond_ind (λ (t : List ℕ). length t ≡ length s) (inside u c.x c.y) _ _ (λ e. length_put s _ u.bits _) (λ e. refl)

pub changes_length : (u : Surface) (cs : List Change) (s : List ℕ) → length (changes u cs s) ≡ length s
unfolding changes
changes_length u [] s = refl
changes_length u (c ∷ cs) s = changes_length u cs (change u c s) ∙ change_length u c s

pub on_store_length : (g : Geometry) (r : Row) (b : Bitmap) (cs : List Change) (store : List ℕ) → length (on_store g r b cs store) ≡ length store
on_store_length g r bitmap.Absent cs store = refl
on_store_length g r (bitmap.Pane x y b) cs store = refl
on_store_length g r (bitmap.Store a x y b) cs store = changes_length _ cs store

plan_length : (g : Geometry) (r : Row) (p : Pane) (store : List ℕ) (next : ℕ) (e : Effect) → length (plan_of g r p store next e).store ≡ length store
unfolding plan_of
plan_length g r p store next (becomes q) = refl
plan_length g r p store next (draws d) = on_store_length g r p.bitmap _ store

attempted_length : (g : Geometry) (r : Row) (p : Pane) (see : ℕ → ℕ → ℕ) (store : List ℕ) (next : ℕ) (c : Command) (f : ℕ)
    → length (attempted g r p see store next c f).store ≡ length store
unfolding attempted
attempted_length g r p see store next c f =
    cond_ind (λ (q : Plan). length q.store ≡ length store) (eqb f 0) _ _ (λ e. plan_length g r p store next _) (λ e. refl)

obey_length : (g : Geometry) (r : Row) (p : Pane) (see : ℕ → ℕ → ℕ) (store : List ℕ) (d : Decoded) → length (obey g r p see store d).store ≡ length store
unfolding obey
obey_length g r p see store End = refl
obey_length g r p see store (Fault f) = refl
obey_length g r p see store (Do c next) = attempted_length g r p see store next c (fault_of g r (context_of p) store c)

pub step_length : (g : Geometry) (r : Row) (p : Pane) (see : ℕ → ℕ → ℕ) (store : List ℕ) → length (step g r p see store).store ≡ length store
unfolding step
step_length g r p see store = obey_length g r p see store (decode r.len store p.progress.pointer)

-- ## Run

module _ (g : Geometry) (r : Row) where
  runs_length : (n : ℕ) (p : Pane) (s store : List ℕ) → length (runs g r n p s store).store ≡ length store
  unfolding runs follow stepped
  runs_length zero p s store = refl
  runs_length (suc n) p s store =
      cond_ind (λ (e : Finish). length e.store ≡ length store) (eqb p.progress.status status_running) _ _
      (λ e. runs_length n _ _ _ ∙ step_length g r p (pixels (pane_surface g r) s) store) (λ e. refl)

  runs_frame : (n : ℕ) (p : Pane) (s store : List ℕ) → Fits (pane_surface g r) s → Framed (pane_surface g r) s (runs g r n p s store).screen
  unfolding runs follow stepped
  runs_frame zero p s store f = framed_refl (pane_surface g r) s
  runs_frame (suc n) p s store f =
      cond_ind (λ (e : Finish). Framed (pane_surface g r) s e.screen) (eqb p.progress.status status_running) _ _
      (λ e. let a = changes_frame (pane_surface g r) (step g r p (pixels (pane_surface g r) s) store).drawn s f in
      framed_trans (pane_surface g r) s _ _ a (runs_frame n _ _ _ (fits_framed (pane_surface g r) s _ a.length f)))
      (λ e. framed_refl (pane_surface g r) s)

  -- two ends of a run that the pane cannot tell apart
  record SameRan (a b : Finish) : Type 0 where
    count : a.count ≡ b.count
    paint : a.paint ≡ b.paint
    pane : a.pane ≡ b.pane
    store : a.store ≡ b.store
    shown : pixels (pane_surface g r) a.screen ≡ pixels (pane_surface g r) b.screen

  Steady : (Pane → List ℕ → List ℕ → Finish) → Type 0
  Steady rest = (p : Pane) (s t store : List ℕ) → Fits (pane_surface g r) s → Fits (pane_surface g r) t
      → pixels (pane_surface g r) s ≡ pixels (pane_surface g r) t → SameRan (rest p s store) (rest p t store)

  follow_agree : (rest : Pane → List ℕ → List ℕ → Finish) → Steady rest → (plan plan' : Plan) → plan ≡ plan' → (s t : List ℕ)
      → Fits (pane_surface g r) s → Fits (pane_surface g r) t → pixels (pane_surface g r) s ≡ pixels (pane_surface g r) t
      → SameRan (follow rest (carried g r plan s)) (follow rest (carried g r plan' t))
  unfolding follow Steady
  follow_agree rest ih plan plan' q s t f h e = subst (λ (z : Plan). SameRan (follow rest (carried g r plan s)) (follow rest (carried g r z t))) q
      (record {
        count = ap (λ (n : ℕ). plan.counted + n) w.count;
        paint = ap (λ (n : ℕ). plan.paint + n) w.paint;
        pane = w.pane;
        store = w.store;
        shown =
            w.shown;
      })
    where
      cs : List Change
      cs = plan.drawn

      w : SameRan (rest plan.pane (changes (pane_surface g r) cs s) plan.store) (rest plan.pane (changes (pane_surface g r) cs t) plan.store)
      w = ih plan.pane (changes (pane_surface g r) cs s) (changes (pane_surface g r) cs t) plan.store
          (fits_framed (pane_surface g r) s _ (changes_frame (pane_surface g r) cs s f).length f)
          (fits_framed (pane_surface g r) t _ (changes_frame (pane_surface g r) cs t h).length h) (changes_agree (pane_surface g r) cs s t f h e)

  runs_agree : (n : ℕ) → Steady (λ p s store. runs g r n p s store)
  unfolding runs Steady stepped
  runs_agree zero p s t store f h e = record { count = refl; paint = refl; pane = refl; store = refl; shown = e }
  runs_agree (suc n) p s t store f h e =
      cond_rel SameRan (eqb p.progress.status status_running) _ (idle p s store) _ (idle p t store)
      (follow_agree (λ p s store. runs g r n p s store) (λ p s t store f h e. runs_agree n p s t store f h e)
      (step g r p (pixels (pane_surface g r) s) store) (step g r p (pixels (pane_surface g r) t) store)
      (ap (λ (see : ℕ → ℕ → ℕ). step g r p see store) e) s t f h e)
      (record { count = refl; paint = refl; pane = refl; store = refl; shown = e })

-- ## Any accepted call on the pane

module _ (g : Geometry) (r : Row) (p : Pane) where
  -- what a call on the pane keeps
  pub record Local (s store : List ℕ) (o : Outcome) : Type 0 where
    pub size : length o.store ≡ length store
    pub frame : Framed (pane_surface g r) s o.screen

  local_screen : (a : Response) (q : Pane) (s store new : List ℕ) → length new ≡ length store → Local s store (outcome a q s new)
  local_screen a q s store new e = record { size = e; frame = framed_refl (pane_surface g r) s }

  pub on_pane_local : (s store : List ℕ) → Fits (pane_surface g r) s → length store ≡ r.len → (k : Call) → own_refusal r p k ≡ 0
      → Local s store (on_pane g r p s store k)
  unfolding on_pane own_refusal
  on_pane_local s store f m (put a bytes) e =
      let h = ltb-false r.len (a + length bytes) (cond_none (ltb r.len (a + length bytes)) refuse_end 0 tt e).0 in
      local_screen _ _ s store _ (length_in_part store a (length bytes) bytes refl (omega arith))
  on_pane_local s store f m (start a) e = local_screen _ _ s store store refl
  on_pane_local s store f m (run n) e = record { size = runs_length g r n (released p) s store; frame = runs_frame g r n (released p) s store f }
  on_pane_local s store f m look e = local_screen _ _ s store store refl
  on_pane_local s store f m (pixel x y) e = local_screen _ _ s store store refl
  on_pane_local s store f m (peek a) e = local_screen _ _ s store store refl
  on_pane_local s store f m clear e = local_screen _ _ s store store refl
  on_pane_local s store f m (judge a) e = local_screen _ _ s store store refl
  on_pane_local s store f m (switch v) e = local_screen _ _ s store store refl

  -- two outcomes that the pane cannot tell apart
  pub record SameOutcome (a b : Outcome) : Type 0 where
    pub reply : a.reply ≡ b.reply
    pub pane : a.pane ≡ b.pane
    pub store : a.store ≡ b.store
    pub shown : pixels (pane_surface g r) a.screen ≡ pixels (pane_surface g r) b.screen

  module _ (s t store : List ℕ) (f : Fits (pane_surface g r) s) (h : Fits (pane_surface g r) t) (e : pixels (pane_surface g r) s ≡ pixels (pane_surface g r) t)
    where
      same_screen : (a : Response) (q : Pane) (new : List ℕ) → SameOutcome (outcome a q s new) (outcome a q t new)
      same_screen a q new = record { reply = refl; pane = refl; store = refl; shown = e }

      pub on_pane_agree : (k : Call) → SameOutcome (on_pane g r p s store k) (on_pane g r p t store k)
      unfolding on_pane Steady
      on_pane_agree (put a bytes) = same_screen _ _ _
      on_pane_agree (start a) = same_screen _ _ _
      on_pane_agree (run n) = go _ _ (runs_agree g r n (released p) s t store f h e)
        where
          go : (a b : Finish) → SameRan g r a b → SameOutcome (ran a) (ran b)
          go a b w = record {
            reply =
                λ i. accepted_with (ran_values (record {
                  commands = w.count i;
                  status = (w.pane i).progress.status;
                  fault = (w.pane i).progress.fault;
                  pixels = w.paint i;
                }));
            pane = w.pane;
            store = w.store;
            shown = w.shown;
          }
      on_pane_agree look = same_screen _ _ _
      on_pane_agree (pixel x y) = record { reply = ap (λ (see : ℕ → ℕ → ℕ). accepted_with (natural (see x y) ∷ [])) e; pane = refl; store = refl; shown = e }
      on_pane_agree (peek a) = same_screen _ _ _
      on_pane_agree clear = same_screen _ _ _
      on_pane_agree (judge a) = same_screen _ _ _
      on_pane_agree (switch v) = same_screen _ _ _

-- ## A call is refused, or accepted

pub exec_accepted : (s : State) (c : Request) → refusal s c ≡ 0 → exec s c ≡ accepted s c
unfolding exec
exec_accepted s c e = cond_true _ _ (eq-eqb (refusal s c) 0 e)

pub exec_refused : (s : State) (c : Request) → (refusal s c ≡ 0 → ⊥) → exec s c ≡ refused s (refusal s c)
unfolding exec
exec_refused s c e = cond_false _ _ (ne_eqb (refusal s c) 0 e)
