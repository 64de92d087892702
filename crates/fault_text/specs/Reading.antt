-- What of a string can be read, and the parts of its check.
use Rattle.std.specs.Prelude.{◌≡◌, Bool, false, ◌||◌, List, ℕ, ◌+◌, ◌*◌, ◌<◌, length, get_or}
use Rattle.model.specs.declared.Row.{Row}
use Rattle.model.specs.declared.Bitmap.{Bitmap}
use Rattle.model.specs.declared.Font.{Font}
use Rattle.model.specs.declared.Font.TheVariants.{Word, Byte}
use Rattle.model.specs.Words.{word_at, address_end}
use Rattle.model.specs.Ranges.{any_below}
use Rattle.model.specs.Setup.{font_bad}
use Rattle.model.specs.Glyphs.{offset_word, height_of}
use Rattle.model.specs.Faults.{bytes_bad, array_bad}

-- the selector of character k lies in the store: its word, or its code and the offset word that this names
pub record Spelt (f : Font) (store : List ℕ) (string k : ℕ) : Type 0 where
  pub word : (base : ℕ) → f ≡ Word base → string + 2 * k + 1 < length store
  pub code : (base : ℕ) → f ≡ Byte base → string + k < length store
  pub offset : (base : ℕ) → f ≡ Byte base → offset_word base (get_or store (string + k) 0) + 1 < length store

-- the store is the row's, and font base and string have addresses of 22 bits
pub record StringAddressed (r : Row) (store : List ℕ) (f : Font) (string : ℕ) : Type 0 where
  pub long : length store ≡ r.len
  pub base : font_bad f ≡ false
  pub small : string < address_end

-- n codes of a string lie in the store, and the font's base is of 22 bits
pub record Coded (store : List ℕ) (base string n : ℕ) : Type 0 where
  pub small : base < address_end
  pub codes : (k : ℕ) → k < n → string + k < length store

-- ## The parts of the check

-- the offset word that code k of a string names, and those that n codes name, and these with the codes
abbrev pub offset_bad : Row → Bitmap → List ℕ → ℕ → ℕ → ℕ → Bool
offset_bad r active store base string k = array_bad r active (offset_word base (get_or store (string + k) 0)) 2

unfoldable pub offsets_bad : Row → Bitmap → List ℕ → ℕ → ℕ → ℕ → Bool
offsets_bad r active store base string n = any_below n (offset_bad r active store base string)

abbrev pub codes_bad : Row → Bitmap → List ℕ → ℕ → ℕ → ℕ → Bool
codes_bad r active store base string n = bytes_bad r active string n || offsets_bad r active store base string n

-- the bytes of a descriptor by its first word: this word, and one word for each row that it counts
abbrev pub descriptor_bytes : ℕ → ℕ
descriptor_bytes head = 2 + 2 * height_of head

-- the descriptor at an address
abbrev pub descriptor_bad : Row → Bitmap → List ℕ → ℕ → Bool
descriptor_bad r active store at = array_bad r active at (descriptor_bytes (word_at store at))
