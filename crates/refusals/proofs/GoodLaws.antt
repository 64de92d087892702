-- A good pane record is one that refusal 12 lets pass, and each part of it may be replaced by a good one.
use mathlib.Core.Path.{◌≡◌, refl}
use mathlib.Core.Bool.{Bool, true, false, not, ◌&&◌, ◌||◌}
use Prim.Native.Nat.{ℕ, ◌%◌, ◌≤◌, ◌<◌}
use native.Mathlib.Omega.{arith}
use lib.Dec.{ltb, eqb}
use borrow.Author.Tests.{ltb-false, le-ltb, lt-leb, eqb-true, eqb-false, eq-eqb, ne_eqb, not-false}
use Rattle.model.specs.declared.Geometry.{Geometry}
use Rattle.model.specs.declared.Row.{Row}
use Rattle.model.specs.declared.Progress.{Progress}
use Rattle.model.specs.declared.Point.{Point}
use Rattle.model.specs.declared.Bitmap.{Bitmap}
use Rattle.model.specs.declared.Clip.{Clip}
use Rattle.model.specs.declared.Font.{Font}
use Rattle.model.specs.declared.Flags.{Flags}
use Rattle.model.specs.declared.Returns.{Returns}
use Rattle.model.specs.declared.Pane.{Pane}
use Rattle.model.specs.Ranges.{out_of}
use Rattle.model.specs.Words.{address_end}
use Rattle.model.specs.Numbers.{status_running, status_ended, status_faulted, status_trapped}
use Rattle.model.specs.Bitmaps.{rule_broken}
use Rattle.model.specs.Faults.{clip_outside}
use Rattle.model.specs.Dots.{Drawing}
use Rattle.model.specs.Steps.{drew_flags, drew_progress, drew_pane}
use Rattle.model.specs.Record.{fresh, with_pointer, ended, faulted, with_position, with_colours, with_operation, with_pattern, with_spacing}
use Rattle.model.specs.Record.{with_orientation, with_font, with_picking, with_flags, with_progress, with_returns}
use Rattle.model.specs.Scissor.{scissor_of, scissor_stale, with_bitmap_and_clip}
use Rattle.model.specs.Effects.{font_of}
use Rattle.model.specs.Setup.{progress_bad, trap_bad, font_bad, pane_bad}
use Rattle.model.specs.Calls.{started, released}
use Rattle.model.proofs.Decisions.{split, both_true, either_false, or_true, cond_ind}
use Rattle.model.proofs.SetupLaws.{pane_bad_says}
use Rattle.model.proofs.ScissorLaws.{stale_current, current_stale}
use Rattle.refusals.specs.Good.{GoodProgress, Good}

-- ## Refusal 12's tests

either_none : {a b : Bool} → a ≡ false → b ≡ false → (a || b) ≡ false
either_none e f = rw (e, f)

within_false : (lo hi n : ℕ) → out_of lo hi n ≡ false → (lo ≤ n) × (n ≤ hi)
within_false lo hi n h = let p = either_false (ltb n lo) (ltb hi n) h in (ltb-false n lo p.0, ltb-false hi n p.1)

module _ (p : Progress) where
  pub progress_bad_good : progress_bad p ≡ false → GoodProgress p
  unfolding progress_bad
  progress_bad_good h = record {
    status = ltb-false status_trapped p.status a.0;
    least = λ e. (within_false 20 30 p.fault (at e)).0;
    most = λ e. (within_false 20 30 p.fault (at e)).1;
    none = λ n. eqb-true p.fault 0 (not-false (eqb p.fault 0) (rw (ne_eqb p.status status_faulted n) at b.1));
  }
    where
      a : (ltb status_trapped p.status ≡ false) × (((eqb p.status status_faulted && out_of 20 30 p.fault) ||
          (not (eqb p.status status_faulted) && not (eqb p.fault 0))) ≡ false)
      a = either_false (ltb status_trapped p.status) _ h

      b : ((eqb p.status status_faulted && out_of 20 30 p.fault) ≡ false) × ((not (eqb p.status status_faulted) && not (eqb p.fault 0)) ≡ false)
      b = either_false (eqb p.status status_faulted && out_of 20 30 p.fault) (not (eqb p.status status_faulted) && not (eqb p.fault 0)) a.1

      at : p.status ≡ status_faulted → out_of 20 30 p.fault ≡ false
      at e = rw (eq-eqb p.status status_faulted e) at b.0

  pub good_progress_bad : GoodProgress p → progress_bad p ≡ false
  unfolding progress_bad
  good_progress_bad q = either_none (le-ltb status_trapped p.status q.status) (split (eqb p.status status_faulted)
      (λ e. let f = eqb-true p.status status_faulted e in rw (e, le-ltb p.fault 20 (q.least f), le-ltb 30 p.fault (q.most f)))
      (λ e. rw (e, eq-eqb p.fault 0 (q.none (eqb-false p.status status_faulted e)))))

-- DEF_CHAR_SET's font
pub good_font_of : (t : Bool) (a : ℕ) → (a % 2 ≡ 1 → ⊥) → a < address_end → font_bad (font_of t a) ≡ false
good_font_of true a e h = either_none (ne_eqb (a % 2) 1 e) (lt-leb address_end a h)
good_font_of false a e h = either_none (ne_eqb (a % 2) 1 e) (lt-leb address_end a h)

module _ (g : Geometry) (r : Row) (p : Pane) where
  pub pane_bad_good : pane_bad g r p ≡ false → Good g r p
  pane_bad_good h =
      let a = pane_bad_says g r p h in
      record {
        progress = progress_bad_good p.progress a.progress;
        trap = a.trap;
        rule = a.rule;
        clip = a.clip;
        op = ltb-false 15 p.pen.op a.op;
        text = record { font = a.font; path = ltb-false 3 p.text.path a.path; rotation = ltb-false 3 p.text.rotation a.rotation };
        returns = ltb-false 8 p.returns.count a.returns;
        scissor = stale_current r p a.scissor;
      }

  pub good_pane_bad : Good g r p → pane_bad g r p ≡ false
  unfolding pane_bad
  good_pane_bad q =
      either_none (good_progress_bad p.progress q.progress) (either_none q.trap (either_none q.rule (either_none q.clip
      (either_none q.text.font (either_none (le-ltb 15 p.pen.op q.op) (either_none (le-ltb 3 p.text.path q.text.path)
      (either_none (le-ltb 3 p.text.rotation q.text.rotation) (either_none (le-ltb 8 p.returns.count q.returns)
      (current_stale r p q.scissor)))))))))

-- ## Another status

-- from a status that is not 3 to another, with the fault 0 that it has
unfaulted : {x : Progress} → GoodProgress x → (x.status ≡ status_faulted → ⊥) → (s a : ℕ) → (s ≡ status_faulted → ⊥) → s ≤ status_trapped
    → GoodProgress (record { status = s; fault = x.fault; pointer = a })
unfaulted h n s a m l = record { status = l; least = λ e. absurd (m e); most = λ e. absurd (m e); none = λ e. h.none n }

-- no status but 4 needs a cause
untrapped : (s : ℕ) (f : Flags) → (s ≡ status_trapped → ⊥) → trap_bad s f ≡ false
unfolding trap_bad
untrapped s f n = rw (ne_eqb s status_trapped n)

-- a T met with the switch on is one
trap_met : (f : Flags) (d : Drawing) (n : ℕ) → (f.switch && d.trap) ≡ true → trap_bad status_trapped (drew_flags f d n) ≡ false
unfolding trap_bad
trap_met f d n e = let h = both_true f.switch d.trap e in rw (h.0, or_true f.trap d.trap h.1)

-- ## A part replaced

module _ {g : Geometry} {r : Row} {p : Pane} (q : Good g r p) where
  -- how far the list has come, and the flags
  good_going : (x : Progress) (f : Flags) → GoodProgress x → trap_bad x.status f ≡ false → Good g r (with_flags (with_progress p x) f)
  good_going x f h t =
      record { progress = h; trap = t; rule = q.rule; clip = q.clip; op = q.op; text = q.text; returns = q.returns; scissor = q.scissor }

  pub good_pointer : (a : ℕ) → Good g r (with_pointer p a)
  good_pointer a = good_going _ p.flags
      (record { status = q.progress.status; least = q.progress.least; most = q.progress.most; none = q.progress.none }) q.trap

  -- only a running list ends
  pub good_ended : p.progress.status ≡ status_running → Good g r (ended p)
  good_ended h = good_going _ p.flags (unfaulted q.progress (λ e. omega arith) status_ended _ (λ e. omega arith) (omega arith))
      (untrapped status_ended _ (λ e. omega arith))

  pub good_faulted : (f : ℕ) → 20 ≤ f → f ≤ 30 → Good g r (faulted p f)
  good_faulted f l m = good_going _ p.flags (record { status = omega arith; least = λ e. l; most = λ e. m; none = λ n. absurd (n refl) })
      (untrapped status_faulted _ (λ e. omega arith))

  pub good_position : (at : Point) → Good g r (with_position p at)
  good_position at =
      record { progress = q.progress; trap = q.trap; rule = q.rule; clip = q.clip; op = q.op; text = q.text; returns = q.returns; scissor = q.scissor }

  -- DEF_BITMAP's bitmap and clip, and DEF_CLIP_RECT's clip
  pub good_bitmap : (b : Bitmap) (c : Clip) → rule_broken g r b ≡ false → clip_outside b c ≡ false → Good g r (with_bitmap_and_clip r p b c)
  good_bitmap b c h o = record { progress = q.progress; trap = q.trap; rule = h; clip = o; op = q.op; text = q.text; returns = q.returns; scissor = refl }

  pub good_colours : (fore back : ℕ) → Good g r (with_colours p fore back)
  good_colours fore back =
      record { progress = q.progress; trap = q.trap; rule = q.rule; clip = q.clip; op = q.op; text = q.text; returns = q.returns; scissor = q.scissor }

  pub good_operation : (op mask : ℕ) → op ≤ 15 → Good g r (with_operation p op mask)
  good_operation op mask h =
      record { progress = q.progress; trap = q.trap; rule = q.rule; clip = q.clip; op = h; text = q.text; returns = q.returns; scissor = q.scissor }

  pub good_pattern : (pattern : ℕ) (transparent : Bool) → Good g r (with_pattern p pattern transparent)
  good_pattern pattern transparent =
      record { progress = q.progress; trap = q.trap; rule = q.rule; clip = q.clip; op = q.op; text = q.text; returns = q.returns; scissor = q.scissor }

  pub good_spacing : (spacing : ℕ) → Good g r (with_spacing p spacing)
  good_spacing spacing = record {
    progress = q.progress;
    trap = q.trap;
    rule = q.rule;
    clip = q.clip;
    op = q.op;
    text = record { font = q.text.font; path = q.text.path; rotation = q.text.rotation };
    returns = q.returns;
    scissor = q.scissor;
  }

  pub good_orientation : (path rotation : ℕ) → path ≤ 3 → rotation ≤ 3 → Good g r (with_orientation p path rotation)
  good_orientation path rotation h k = record {
    progress = q.progress;
    trap = q.trap;
    rule = q.rule;
    clip = q.clip;
    op = q.op;
    text = record { font = q.text.font; path = h; rotation = k };
    returns = q.returns;
    scissor = q.scissor;
  }

  pub good_font : (f : Font) → font_bad f ≡ false → Good g r (with_font p f)
  good_font f h = record {
    progress = q.progress;
    trap = q.trap;
    rule = q.rule;
    clip = q.clip;
    op = q.op;
    text = record { font = h; path = q.text.path; rotation = q.text.rotation };
    returns = q.returns;
    scissor = q.scissor;
  }

  pub good_picking : (picking pick : Bool) → Good g r (with_picking p picking pick)
  unfolding trap_bad
  good_picking picking pick = good_going p.progress _ q.progress q.trap

  -- a drawing of a running list: with the switch on and a T met it stops there
  pub good_drew : p.progress.status ≡ status_running → (next : ℕ) (d : Drawing) (n : ℕ) → Good g r (drew_pane p next d n)
  good_drew h next d n = record {
    progress = going.0;
    trap = going.1;
    rule = q.rule;
    clip = q.clip;
    op = q.op;
    text = q.text;
    returns = q.returns;
    scissor = q.scissor;
  }
    where
      Going : ℕ → Type 0
      Going s = GoodProgress (record { status = s; fault = p.progress.fault; pointer = next }) × (trap_bad s (drew_flags p.flags d n) ≡ false)

      good : (s : ℕ) → (s ≡ status_faulted → ⊥) → s ≤ status_trapped → trap_bad s (drew_flags p.flags d n) ≡ false → Going s
      good s m l t = (unfaulted q.progress (λ e. omega arith) s next m l, t)

      going : Going (drew_progress p next d).status
      going = cond_ind Going (p.flags.switch && d.trap) status_trapped p.progress.status
          (λ e. good status_trapped (λ f. omega arith) (omega arith) (trap_met p.flags d n e))
          (λ e. good p.progress.status (λ f. omega arith) (omega arith) (untrapped p.progress.status _ (λ f. omega arith)))

  pub good_returns : (k : Returns) → k.count ≤ 8 → Good g r (with_returns p k)
  good_returns k h =
      record { progress = q.progress; trap = q.trap; rule = q.rule; clip = q.clip; op = q.op; text = q.text; returns = h; scissor = q.scissor }

  pub good_released : Good g r (released p)
  unfolding released
  good_released = cond_ind (Good g r) (eqb p.progress.status status_trapped) _ p
      (λ e. let s = eqb-true p.progress.status status_trapped e in
      good_going _ _ (unfaulted q.progress (λ f. omega arith) status_running _ (λ f. omega arith) (omega arith))
      (untrapped status_running _ (λ f. omega arith))) (λ e. q)

  pub good_started : (a : ℕ) → Good g r (started p a)
  good_started a = record {
    progress = record { status = omega arith; least = λ e. absurd (omega arith); most = λ e. absurd (omega arith); none = λ n. refl };
    trap = untrapped status_running _ (λ e. omega arith);
    rule = q.rule;
    clip = q.clip;
    op = q.op;
    text = q.text;
    returns = omega arith;
    scissor = q.scissor;
  }

pub good_fresh : (g : Geometry) (r : Row) → Good g r fresh
unfolding pane_bad progress_bad trap_bad rule_broken clip_outside scissor_of scissor_stale
good_fresh g r = pane_bad_good g r fresh refl
