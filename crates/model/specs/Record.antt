-- The pane record (01, "Screen, panes, stores"): a fresh one, and one with a part replaced.
use Rattle.std.specs.Prelude.{ℕ, Bool, false, [], replicate}
use Rattle.model.specs.Numbers.{status_parked, status_ended, status_faulted}
pub use Rattle.model.specs.declared.Progress.{Progress}
pub use Rattle.model.specs.declared.Point.{Point}
pub use Rattle.model.specs.declared.Bitmap.{Bitmap}
use Rattle.model.specs.declared.Bitmap.TheVariants as bitmap
pub use Rattle.model.specs.declared.Clip.{Clip}
pub use Rattle.model.specs.declared.Scissor.{Scissor}
pub use Rattle.model.specs.declared.Pen.{Pen}
pub use Rattle.model.specs.declared.Font.{Font}
use Rattle.model.specs.declared.Font.TheVariants as font
pub use Rattle.model.specs.declared.Text.{Text}
pub use Rattle.model.specs.declared.Flags.{Flags}
pub use Rattle.model.specs.declared.Returns.{Returns}
pub use Rattle.model.specs.declared.Pane.{Pane}

-- the code of "replace" (003, 2.10.14: "source")
abbrev pub replace_code : ℕ
replace_code = 5

abbrev pub no_clip : Clip
no_clip = record { xmin = 0; ymin = 0; xmax = 0; ymax = 0 }

-- "four zeros when empty" (02, A.6)
abbrev pub no_scissor : Scissor
no_scissor = record { left = 0; top = 0; width = 0; height = 0 }

-- "no return addresses": a slot that holds none holds 0
abbrev pub no_returns : Returns
no_returns = record { addresses = replicate 8 0; count = 0 }

-- "A fresh pane record: status 0, fault 0, pointer 0, position (0,0), no bitmap, clip all 0, both colours 0,
-- operation "replace" (new bit = source bit), colour mask FFFF hex, pattern FFFF hex opaque, spacing 0, path
-- and rotation 0, no font, pick mode off, pick and trap flags 0, no return addresses"; no scissor, there being no
-- bitmap (02, A.6); "a trap switch, off when fresh" (02, A.7)
abbrev pub fresh : Pane
fresh =
    record {
      progress = record { status = status_parked; fault = 0; pointer = 0 };
      position = record { x = 0; y = 0 };
      bitmap = bitmap.Absent;
      clip = no_clip;
      scissor = no_scissor;
      pen = record { fore = 0; back = 0; op = replace_code; mask = 0xFFFF; pattern = 0xFFFF; transparent = false };
      text = record { spacing = 0; path = 0; rotation = 0; font = font.Absent };
      flags = record { picking = false; pick = false; trap = false; switch = false };
      returns = no_returns;
    }

-- what the logic reads past the end of a list of panes: zeros, the first variants, no elements
abbrev pub no_pane : Pane
no_pane =
    record {
      progress = record { status = 0; fault = 0; pointer = 0 };
      position = record { x = 0; y = 0 };
      bitmap = bitmap.Absent;
      clip = no_clip;
      scissor = no_scissor;
      pen = record { fore = 0; back = 0; op = 0; mask = 0; pattern = 0; transparent = false };
      text = record { spacing = 0; path = 0; rotation = 0; font = font.Absent };
      flags = record { picking = false; pick = false; trap = false; switch = false };
      returns = record { addresses = []; count = 0 };
    }

-- ## A record with one part replaced, all else kept

-- a pane record by its nine parts
abbrev pub pane_of : Progress → Point → Bitmap → Clip → Scissor → Pen → Text → Flags → Returns → Pane
pane_of progress position bitmap clip scissor pen text flags returns =
    record {
      progress = progress;
      position = position;
      bitmap = bitmap;
      clip = clip;
      scissor = scissor;
      pen = pen;
      text = text;
      flags = flags;
      returns = returns;
    }

abbrev pub with_progress : Pane → Progress → Pane
with_progress p x = pane_of x p.position p.bitmap p.clip p.scissor p.pen p.text p.flags p.returns

abbrev pub with_position : Pane → Point → Pane
with_position p x = pane_of p.progress x p.bitmap p.clip p.scissor p.pen p.text p.flags p.returns

abbrev pub with_bitmap : Pane → Bitmap → Pane
with_bitmap p x = pane_of p.progress p.position x p.clip p.scissor p.pen p.text p.flags p.returns

abbrev pub with_clip : Pane → Clip → Pane
with_clip p x = pane_of p.progress p.position p.bitmap x p.scissor p.pen p.text p.flags p.returns

abbrev pub with_scissor : Pane → Scissor → Pane
with_scissor p x = pane_of p.progress p.position p.bitmap p.clip x p.pen p.text p.flags p.returns

abbrev pub with_pen : Pane → Pen → Pane
with_pen p x = pane_of p.progress p.position p.bitmap p.clip p.scissor x p.text p.flags p.returns

abbrev pub with_text : Pane → Text → Pane
with_text p x = pane_of p.progress p.position p.bitmap p.clip p.scissor p.pen x p.flags p.returns

abbrev pub with_flags : Pane → Flags → Pane
with_flags p x = pane_of p.progress p.position p.bitmap p.clip p.scissor p.pen p.text x p.returns

abbrev pub with_returns : Pane → Returns → Pane
with_returns p x = pane_of p.progress p.position p.bitmap p.clip p.scissor p.pen p.text p.flags x

-- ## Parts of parts

abbrev pub with_pointer : Pane → ℕ → Pane
with_pointer p a = with_progress p (record { status = p.progress.status; fault = p.progress.fault; pointer = a })

abbrev pub with_status : Pane → ℕ → Pane
with_status p s = with_progress p (record { status = s; fault = p.progress.fault; pointer = p.progress.pointer })

-- "makes status 2; the pointer stays"
abbrev pub ended : Pane → Pane
ended p = with_status p status_ended

-- "A fault sets status 3 and its number; nothing else changes"
abbrev pub faulted : Pane → ℕ → Pane
faulted p f = with_progress p (record { status = status_faulted; fault = f; pointer = p.progress.pointer })

abbrev pub pen_of : ℕ → ℕ → ℕ → ℕ → ℕ → Bool → Pen
pen_of fore back op mask pattern transparent =
    record { fore = fore; back = back; op = op; mask = mask; pattern = pattern; transparent = transparent }

abbrev pub with_colours : Pane → ℕ → ℕ → Pane
with_colours p fore back =
    with_pen p (pen_of fore back p.pen.op p.pen.mask p.pen.pattern p.pen.transparent)

abbrev pub with_operation : Pane → ℕ → ℕ → Pane
with_operation p op mask =
    with_pen p (pen_of p.pen.fore p.pen.back op mask p.pen.pattern p.pen.transparent)

abbrev pub with_pattern : Pane → ℕ → Bool → Pane
with_pattern p pattern transparent =
    with_pen p (pen_of p.pen.fore p.pen.back p.pen.op p.pen.mask pattern transparent)

abbrev pub text_of : ℕ → ℕ → ℕ → Font → Text
text_of spacing path rotation f = record { spacing = spacing; path = path; rotation = rotation; font = f }

abbrev pub with_spacing : Pane → ℕ → Pane
with_spacing p spacing = with_text p (text_of spacing p.text.path p.text.rotation p.text.font)

abbrev pub with_orientation : Pane → ℕ → ℕ → Pane
with_orientation p path rotation = with_text p (text_of p.text.spacing path rotation p.text.font)

abbrev pub with_font : Pane → Font → Pane
with_font p f = with_text p (text_of p.text.spacing p.text.path p.text.rotation f)

abbrev pub flags_of : Bool → Bool → Bool → Bool → Flags
flags_of picking pick trap switch = record { picking = picking; pick = pick; trap = trap; switch = switch }

abbrev pub with_picking : Pane → Bool → Bool → Pane
with_picking p picking pick = with_flags p (flags_of picking pick p.flags.trap p.flags.switch)

abbrev pub with_trap : Pane → Bool → Pane
with_trap p trap = with_flags p (flags_of p.flags.picking p.flags.pick trap p.flags.switch)

abbrev pub with_switch : Pane → Bool → Pane
with_switch p switch = with_flags p (flags_of p.flags.picking p.flags.pick p.flags.trap switch)
