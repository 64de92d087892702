-- A string that the check lets pass can be read while it is drawn, and reads as it did before.
use Rattle.std.proofs.Common.{◌≡◌, ℕ, ◌+◌, ◌*◌, ◌<◌, false, ◌||◌, List, length, get_or, refl, ap, ◌∙◌, arith}
use Rattle.model.specs.declared.Geometry.{Geometry}
use Rattle.model.specs.declared.Row.{Row}
use Rattle.model.specs.declared.Bitmap.{Bitmap}
use Rattle.model.specs.declared.Font.{Font}
use Rattle.model.specs.declared.Font.TheVariants as font
use Rattle.model.specs.Words.{word_at}
use Rattle.model.specs.Glyphs.{base_of, offset_word, selector, descriptor}
use Rattle.model.specs.Faults.{bytes_bad, string_bad, descriptors_bad}
use Rattle.model.proofs.Decisions.{either_false}
use Rattle.canvas.specs.declared.Target.{Target}
use Rattle.canvas.specs.Canvas.{Reach}
use Rattle.canvas.specs.Targets.{Aimed}
use Rattle.canvas.proofs.KeptLaws.{Agree, agree_word}
use Rattle.canvas.proofs.ReachLaws.{bytes_bad_reach, reach_part}
use Rattle.fault_text.specs.Reading.{Spelt}
use Rattle.fault_text.proofs.CheckLaws.{string_bad_word, string_bad_code, string_bad_offset, descriptors_bad_descriptor}
use Rattle.draw_text.specs.Writing.{Legible}

-- ## All that is read is in the store, beside the active bitmap

module _ (r : Row) (active : Bitmap) (store : List ℕ) (f : Font) (string n : ℕ) {t : Target} {g : Geometry}
    (m : Aimed t g r active) (s : length store ≡ r.len) where
  reach : (a k : ℕ) → bytes_bad r active a k ≡ false → Reach t (length store) a k
  reach a k e = rw s (bytes_bad_reach active m a k e)

  pub char_legible : (string_bad r active store f string n || descriptors_bad r active store f string n) ≡ false → Legible t f store string n
  char_legible e =
      let p = either_false (string_bad r active store f string n) (descriptors_bad r active store f string n) e in
      record {
        word = λ base k e l.
            reach_part (reach string (2 * n) (string_bad_word r active store f string n p.0 base e)) (string + 2 * k) 2 (omega arith) (omega arith);
        code = λ base k e l. reach_part (reach string n (string_bad_code r active store f string n p.0 base e)) (string + k) 1 (omega arith) (omega arith);
        offset = λ base k e l. reach (offset_word base (get_or store (string + k) 0)) 2 (string_bad_offset r active store f string n p.0 base e k l);
        glyph = λ k l. reach (descriptor f store string k) _ (descriptors_bad_descriptor r active store f string n p.1 k l);
      }

-- ## Character k of a legible string, read while it is drawn

module _ {t : Target} {f : Font} {old new : List ℕ} {string n : ℕ} (u : Agree t old new) (s : length new ≡ length old)
    (h : Legible t f old string n) (k : ℕ) (l : k < n) where
  code_kept : (base : ℕ) → f ≡ font.Byte base → get_or new (string + k) 0 ≡ get_or old (string + k) 0
  code_kept base e = u.bytes (string + k) ((h.code base k e l).clear (string + k) (omega arith) (omega arith))

  pub legible_spelt : Spelt f new string k
  legible_spelt = record {
    word = λ base e. rw s ((h.word base k e l).inside (string + 2 * k + 1) (omega arith) (omega arith));
    code = λ base e. rw s ((h.code base k e l).inside (string + k) (omega arith) (omega arith));
    offset = λ base e.
        rw (s, code_kept base e) ((h.offset base k e l).inside (offset_word base (get_or old (string + k) 0) + 1) (omega arith) (omega arith));
  }

  selector_kept : (g : Font) → f ≡ g → selector g new string k ≡ selector g old string k
  unfolding selector
  selector_kept font.Absent e = refl
  selector_kept (font.Word base) e = agree_word u (h.word base k e l) (string + 2 * k) (omega arith) (omega arith)
  selector_kept (font.Byte base) e =
      ap (λ (v : ℕ). word_at new (offset_word base v)) (code_kept base e)
      ∙ agree_word u (h.offset base k e l) (offset_word base (get_or old (string + k) 0)) (omega arith) (omega arith)

  pub descriptor_kept : descriptor f new string k ≡ descriptor f old string k
  unfolding descriptor
  descriptor_kept = ap (λ (v : ℕ). base_of f + 2 * v) (selector_kept f refl)
