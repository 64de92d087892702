-- A step of a running pane leaves a good record: what refusal 12 checks is kept by every command.
use mathlib.Core.Path.{◌≡◌, refl, sym, ap, ◌∙◌}
use mathlib.Core.Logic.{◌⊎◌, inl, inr}
use mathlib.Core.Bool.{Bool, true, false, cond, ◌||◌}
use mathlib.Core.List.{List}
use Prim.Native.Nat.{ℕ, ◌+◌, ◌*◌, ◌/◌, ◌%◌, ◌≤◌, ◌<◌}
use native.Mathlib.Omega.{arith}
use borrow.Author.Tests.{leb-false, eqb-true, eqb-false}
use lib.Dec.{eqb, leb, ltb}
use lib.ListN.{get_or}
use Rattle.model.specs.declared.Geometry.{Geometry}
use Rattle.model.specs.declared.Row.{Row}
use Rattle.model.specs.declared.Pane.{Pane}
use Rattle.model.specs.declared.Bitmap.{Bitmap}
use Rattle.model.specs.declared.Command.{Command}
use Rattle.model.specs.declared.Command.TheVariants as command
use Rattle.model.specs.declared.OpcodeEntry.{OpcodeEntry}
use Rattle.std.specs.Prelude.{Some, None}
use Rattle.std.specs.declared.option.Option.{Option}
use Rattle.model.specs.declared.Fault as declared
use Rattle.model.specs.declared.Decoded.{Decoded}
use Rattle.model.specs.declared.Decoded.TheVariants.{Do, End, Fault}
use Rattle.model.specs.Numbers.{status_running, fault_number, fault_bitmap, fault_call, fault_clip, fault_data, fault_no_bitmap}
use Rattle.model.specs.Words.{word_at}
use Rattle.model.specs.Coordinates.{coord, negative}
use Rattle.model.specs.Bitmaps.{rule_broken, bitmap_of, surface_of}
use Rattle.model.specs.Record.{faulted}
use Rattle.model.specs.Commands.{Addressed, font_at, opcode_of, fetch, decode}
use Rattle.model.specs.Copies.{Rectangle, rectangle_of, block_bad, sharing}
use Rattle.model.specs.Faults.{no_bitmap, no_font, clip_outside, array_bad, string_bad, descriptors_bad, source_bitmap, copy_fault, draw_fault, context_of, fault_of}
use Rattle.model.specs.Dots.{hits}
use Rattle.model.specs.Effects.{Effect, becomes, draws, font_of, effect_of}
use Rattle.model.specs.Steps.{Plan, plan_of, attempted, obey, step}
use Rattle.model.proofs.Decisions.{split, cond_ind, cond_none, cond_true, cond_false}
use Rattle.refusals.specs.Good.{Good}
use Rattle.bitmaps.proofs.BitmapLaws.{whole_clip_lem}
use Rattle.refusals.proofs.GoodLaws.{good_pointer, good_ended, good_faulted, good_position, good_bitmap, good_colours, good_operation}
use Rattle.refusals.proofs.GoodLaws.{good_pattern, good_spacing, good_orientation, good_font, good_picking, good_drew, good_returns, good_font_of}
use Rattle.decoder.proofs.DecodeLaws.{decode_addressed}

-- ## Faults are 20 to 30

-- a number that is none, or one of the faults
abbrev pub InRange : ℕ → Type 0
InRange f = (f ≡ 0) ⊎ ((20 ≤ f) × (f ≤ 30))

none : InRange 0
none = inl refl

one : (f : ℕ) → 20 ≤ f → f ≤ 30 → InRange f
one f l h = inr (l, h)

-- .. where a test holds, and else what follows
first : (t : Bool) (f rest : ℕ) → 20 ≤ f → f ≤ 30 → InRange rest → InRange (cond t f rest)
first true f rest l h r = inr (l, h)
first false f rest l h r = r

copy_range : (g : Geometry) (r : Row) (active source : Bitmap) (c : Rectangle) → InRange (copy_fault g r active source c)
copy_range g r active source c = first (rule_broken g r source) 22 _ (omega arith) (omega arith)
    (first (block_bad (surface_of g r source) c || sharing active source (surface_of g r source) c) 29 0 (omega arith) (omega arith) none)

module _ (g : Geometry) (r : Row) (p : Pane) (store : List ℕ) where
  drawn : (rest : ℕ) → InRange rest → InRange (draw_fault p.bitmap rest)
  drawn rest h = first (no_bitmap p.bitmap) 23 rest (omega arith) (omega arith) h

  pub fault_range : (c : Command) → InRange (fault_of g r (context_of p) store c)
  unfolding fault_of
  fault_range (command.Link a) = none
  fault_range command.Nop = none
  fault_range (command.DefTexture pattern t) = none
  fault_range (command.DefCharSet base t) = first (eqb (base % 2) 1) 25 0 (omega arith) (omega arith) none
  fault_range (command.Call a) = first (leb 8 p.returns.count) 26 0 (omega arith) (omega arith) none
  fault_range command.Return = first (eqb p.returns.count 0) 27 0 (omega arith) (omega arith) none
  fault_range (command.DefBitmap a xmax ymax b) = first (rule_broken g r (bitmap_of a xmax ymax b)) 22 0 (omega arith) (omega arith) none
  fault_range (command.DefColors fore back) = none
  fault_range (command.DefLogicalOp mask code) = none
  fault_range command.EnterPick = none
  fault_range command.ExitPick = none
  fault_range (command.DefClipRect xmin ymin xmax ymax) = drawn _ (first (clip_outside p.bitmap _) 24 0 (omega arith) (omega arith) none)
  fault_range (command.DefSpace spacing) = none
  fault_range (command.DefCharOrient orientation) = none
  fault_range (command.AbsMov x y) = none
  fault_range (command.RelMov dx dy) = none
  fault_range (command.Point dx dy) = drawn 0 none
  fault_range (command.Line dx dy) = drawn 0 none
  fault_range (command.Rect dx dy) = drawn 0 none
  fault_range (command.BitBlt b) = drawn _ (first (block_bad (surface_of g r p.bitmap) (rectangle_of b)) 29 0 (omega arith) (omega arith) none)
  fault_range (command.Polyline a n) = drawn _ (first (array_bad r p.bitmap a (4 * n)) 25 0 (omega arith) (omega arith) none)
  fault_range (command.Circle radius) = drawn _ (first (negative (coord radius)) 30 0 (omega arith) (omega arith) none)
  fault_range (command.Char a n t) = drawn _ (first (no_font p.text.font) 28 _ (omega arith) (omega arith)
      (first (string_bad r p.bitmap store p.text.font a n || descriptors_bad r p.bitmap store p.text.font a n) 25 0 (omega arith) (omega arith)
      none))
  fault_range (command.BitBltM a xmax ymax b) = drawn _ (copy_range g r p.bitmap (source_bitmap g r p.bitmap a xmax ymax) (rectangle_of b))
  fault_range (command.ScanLines a n) = drawn _ (first (array_bad r p.bitmap a (6 * n)) 25 0 (omega arith) (omega arith) none)

-- ## A command that is done keeps the record good

-- whatever an effect leaves of the record
GoodEffect : Geometry → Row → Effect → Type 0
GoodEffect g r (becomes q) = Good g r q
GoodEffect g r (draws d) = Unit {0}

module _ (g : Geometry) (r : Row) (p : Pane) (good : Good g r p) (pixel_of : ℕ → ℕ → ℕ) (store : List ℕ) (next : ℕ) where
  effect_good : (c : Command) → Addressed c → fault_of g r (context_of p) store c ≡ 0 → GoodEffect g r (effect_of g r p pixel_of store next c)
  unfolding fault_of effect_of GoodEffect
  effect_good (command.Link a) h e = good_pointer good a
  effect_good command.Nop h e = good_pointer good next
  effect_good (command.DefTexture pattern t) h e = good_pointer (good_pattern good pattern t) next
  effect_good (command.DefCharSet base t) h e =
      let o = eqb-false (base % 2) 1 (cond_none (eqb (base % 2) 1) fault_data 0 tt e).0 in
      good_pointer (good_font good (font_of t base) (good_font_of t base o (h base font_at))) next
  effect_good (command.Call a) h e =
      let l = leb-false 8 p.returns.count (cond_none (leb 8 p.returns.count) fault_call 0 tt e).0 in
      good_pointer (good_returns good _ (omega arith)) a
  effect_good command.Return h e = good_pointer (good_returns good _ (omega (arith, good.returns))) _
  effect_good (command.DefBitmap a xmax ymax b) h e =
      good_pointer (good_bitmap good (bitmap_of a xmax ymax b) _ (cond_none (rule_broken g r (bitmap_of a xmax ymax b)) fault_bitmap 0 tt e).0
      (whole_clip_lem a xmax ymax b)) next
  effect_good (command.DefColors fore back) h e = good_pointer (good_colours good fore back) next
  effect_good (command.DefLogicalOp mask code) h e = good_pointer (good_operation good (code % 16) mask (omega arith)) next
  effect_good command.EnterPick h e = good_pointer (good_picking good true false) next
  effect_good command.ExitPick h e = good_pointer (good_picking good false p.flags.pick) next
  effect_good (command.DefClipRect xmin ymin xmax ymax) h e =
      let a = cond_none (no_bitmap p.bitmap) fault_no_bitmap _ tt e in
      let b = cond_none (clip_outside p.bitmap (record { xmin = xmin; ymin = ymin; xmax = xmax; ymax = ymax })) fault_clip 0 tt a.1 in
      good_pointer (good_bitmap good p.bitmap _ good.rule b.0) next
  effect_good (command.DefSpace spacing) h e = good_pointer (good_spacing good spacing) next
  effect_good (command.DefCharOrient orientation) h e =
      good_pointer (good_orientation good (orientation / 256 % 4) (orientation % 4) (omega arith) (omega arith)) next
  effect_good (command.AbsMov x y) h e = good_pointer (good_position good _) next
  effect_good (command.RelMov dx dy) h e = good_pointer (good_position good _) next
  effect_good (command.Point dx dy) h e = tt
  effect_good (command.Line dx dy) h e = tt
  effect_good (command.Rect dx dy) h e = tt
  effect_good (command.BitBlt b) h e = tt
  effect_good (command.Polyline a n) h e = tt
  effect_good (command.Circle radius) h e = tt
  effect_good (command.Char a n t) h e = tt
  effect_good (command.BitBltM a xmax ymax b) h e = tt
  effect_good (command.ScanLines a n) h e = tt

  plan_good : p.progress.status ≡ status_running → (e : Effect) → GoodEffect g r e → Good g r (plan_of g r p store next e).pane
  unfolding plan_of GoodEffect
  plan_good s (becomes q) h = h
  plan_good s (draws d) h = good_drew good s next d (hits (surface_of g r p.bitmap) p.clip d.dots)

  -- a command that is faulty is only recorded, and else done
  fault_good : (f : ℕ) → InRange f → (f ≡ 0 → ⊥) → Good g r (faulted p f)
  fault_good f (inl e) n = absurd (n e)
  fault_good f (inr h) n = good_faulted good f h.0 h.1

  attempted_good : p.progress.status ≡ status_running → (c : Command) → Addressed c
      → Good g r (attempted g r p pixel_of store next c (fault_of g r (context_of p) store c)).pane
  unfolding attempted
  attempted_good s c h = cond_ind (λ (q : Plan). Good g r q.pane) (eqb (fault_of g r (context_of p) store c) 0) _ _
      (λ e. plan_good s (effect_of g r p pixel_of store next c) (effect_good c h (eqb-true (fault_of g r (context_of p) store c) 0 e)))
      (λ e. fault_good (fault_of g r (context_of p) store c) (fault_range g r p store c) (eqb-false (fault_of g r (context_of p) store c) 0 e))

-- ## A step

fault_is : {m n : declared.Fault} → Fault m ≡ Fault n → m ≡ n
fault_is q = cc

-- what the decoder answers beside a command is a fault 20 or 21
fetch_fault : (len : ℕ) (s : List ℕ) (at : ℕ) (entry : Option OpcodeEntry) (f : declared.Fault) → fetch len s at entry ≡ Fault f → (20 ≤ fault_number f) × (fault_number f ≤ 30)
unfolding fetch
fetch_fault len s at None f e = let q : 20 ≡ fault_number f = ap fault_number (fault_is e) in (omega arith, omega arith)
fetch_fault len s at (Some entry) f e = split (ltb len (at + 2 + 2 * entry.words))
    (λ t. let q : 21 ≡ fault_number f = ap fault_number (fault_is (sym (cond_true _ _ t) ∙ e)) in (omega arith, omega arith))
    (λ t. absurd (do_fault (sym (cond_false _ _ t) ∙ e)))
  where
    do_fault : {c : Command} {m : ℕ} {f : declared.Fault} → Do c m ≡ Fault f → ⊥
    do_fault q = let z : ◌≡◌ {A = ℕ} 0 1 = cc in omega arith

decode_fault : (len : ℕ) (s : List ℕ) (at : ℕ) (f : declared.Fault) → decode len s at ≡ Fault f → (20 ≤ fault_number f) × (fault_number f ≤ 30)
unfolding decode
decode_fault len s at f e = split (eqb (at % 2) 1 || ltb len (at + 2))
    (λ t. let q : 21 ≡ fault_number f = ap fault_number (fault_is (sym (cond_true _ _ t) ∙ e)) in (omega arith, omega arith))
    (λ t. split (eqb (word_at s at % 2) 1)
    (λ u. absurd (end_fault (sym (cond_true _ _ u) ∙ (sym (cond_false _ _ t) ∙ e))))
    (λ u. fetch_fault len s at (opcode_of (word_at s at / 256)) f (sym (cond_false _ _ u) ∙ (sym (cond_false _ _ t) ∙ e))))
  where
    end_fault : {f : declared.Fault} → End ≡ Fault f → ⊥
    end_fault q = let z : ◌≡◌ {A = ℕ} 0 1 = cc in omega arith

module _ (g : Geometry) (r : Row) (p : Pane) (good : Good g r p) (pixel_of : ℕ → ℕ → ℕ) (store : List ℕ) where
  obey_good : p.progress.status ≡ status_running → ((k : ℕ) → get_or store k 0 < 256) → (d : Decoded)
      → decode r.len store p.progress.pointer ≡ d → Good g r (obey g r p pixel_of store d).pane
  unfolding obey
  obey_good s bytes End e = good_ended good s
  obey_good s bytes (Fault f) e = let h = decode_fault r.len store p.progress.pointer f e in good_faulted good (fault_number f) h.0 h.1
  obey_good s bytes (Do c next) e = attempted_good g r p good pixel_of store next s c (decode_addressed r.len store p.progress.pointer c next bytes e)

  -- what refusal 12 checks is kept by a step of a running pane
  pub step_good : p.progress.status ≡ status_running → ((k : ℕ) → get_or store k 0 < 256) → Good g r (step g r p pixel_of store).pane
  unfolding step
  step_good s bytes = obey_good s bytes (decode r.len store p.progress.pointer) refl
