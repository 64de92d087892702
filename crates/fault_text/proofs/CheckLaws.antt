-- What CHAR's check says of each character: its part of the string, its offset word and its descriptor pass. So its selector can be read.
use mathlib.Core.Path.{◌≡◌}
use mathlib.Core.Bool.{false}
use mathlib.Core.List.{List}
use Prim.Native.Nat.{ℕ, ◌+◌, ◌*◌, ◌≤◌, ◌<◌}
use native.Mathlib.Omega.{arith}
use lib.ListN.{length, get_or}
use Rattle.model.specs.declared.Row.{Row}
use Rattle.model.specs.declared.Bitmap.{Bitmap}
use Rattle.model.specs.declared.Font.{Font}
use Rattle.model.specs.declared.Font.TheVariants.{Word, Byte}
use Rattle.model.specs.Words.{word_at}
use Rattle.model.specs.Glyphs.{offset_word, descriptor}
use Rattle.model.specs.Faults.{bytes_bad, string_bad, descriptors_bad}
use Rattle.model.proofs.SetupLaws.{any_below_lem}
use Rattle.model.proofs.Decisions.{either_false}
use Rattle.fault_text.specs.Reading.{Spelt, offset_bad, descriptor_bytes, descriptor_bad}
use Rattle.bitmaps.proofs.BytesLaws.{array_bad_bytes, bytes_bad_inside}

module _ (r : Row) (active : Bitmap) (store : List ℕ) (f : Font) (string n : ℕ) where
  -- ## The parts of the check

  pub string_bad_word : string_bad r active store f string n ≡ false → (base : ℕ) → f ≡ Word base → bytes_bad r active string (2 * n) ≡ false
  unfolding string_bad
  string_bad_word h base e = array_bad_bytes r active string (2 * n) (rw e at h)

  pub string_bad_code : string_bad r active store f string n ≡ false → (base : ℕ) → f ≡ Byte base → bytes_bad r active string n ≡ false
  unfolding string_bad
  string_bad_code h base e = (either_false (bytes_bad r active string n) _ (rw e at h)).0

  pub string_bad_offset : string_bad r active store f string n ≡ false → (base : ℕ) → f ≡ Byte base → (k : ℕ) → k < n
      → bytes_bad r active (offset_word base (get_or store (string + k) 0)) 2 ≡ false
  unfolding string_bad
  string_bad_offset h base e k l =
      let offsets = (either_false (bytes_bad r active string n) _ (rw e at h)).1 in
      array_bad_bytes r active _ 2 (any_below_lem n (offset_bad r active store base string) k offsets l)

  pub descriptors_bad_descriptor : descriptors_bad r active store f string n ≡ false → (k : ℕ) → k < n
      → bytes_bad r active (descriptor f store string k) (descriptor_bytes (word_at store (descriptor f store string k))) ≡ false
  unfolding descriptors_bad
  descriptors_bad_descriptor h k l =
      array_bad_bytes r active _ _ (any_below_lem n (λ k. descriptor_bad r active store (descriptor f store string k)) k h l)

  -- ## The selectors can be read

  pub string_bad_spelt : length store ≡ r.len → string_bad r active store f string n ≡ false → (k : ℕ) → k < n → Spelt f store string k
  string_bad_spelt s h k l = record {
    word = λ base e. inside string (2 * n) (string_bad_word h base e) (string + 2 * k + 1) (omega arith) (omega arith);
    code = λ base e. inside string n (string_bad_code h base e) (string + k) (omega arith) (omega arith);
    offset = λ base e.
        let at = offset_word base (get_or store (string + k) 0) in
        inside at 2 (string_bad_offset h base e k l) (at + 1) (omega arith) (omega arith);
  }
    where
      inside : (a m : ℕ) → bytes_bad r active a m ≡ false → (j : ℕ) → a ≤ j → j < a + m → j < length store
      inside a m e j lo hi = rw s (bytes_bad_inside r active a m e j lo hi)
