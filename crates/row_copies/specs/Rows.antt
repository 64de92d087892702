-- A row copied by words: what an operator makes of source and old bits, bits of a row from the left, and what a copy
-- asks for.
use Rattle.std.specs.Prelude.{◌≡◌, ◌⊎◌, Bool, true, false, ◌&&◌, List, ℕ, ◌+◌, ◌-◌, ◌*◌, ◌/◌, ◌%◌, ◌≤◌, ◌<◌}
use Rattle.std.specs.Prelude.{length, get_or, Option, Some, None}
use Rattle.std.specs.Int.Bits.{bit_and, bit_xor}
use denote.Ref.{Bor}
use Rattle.model.specs.Words.{bit, bit_at}
use Rattle.model.specs.Operations.{new_bit}
use Rattle.model.specs.declared.Surface.{Surface}
use Rattle.raster.proofs.BitLaws.{differs}
use Rattle.strips.specs.Stretches.{across}
use Rattle.strips.specs.declared.inks.Ink.{Ink}
use Rattle.row_copies.specs.declared.operators.Operator.{Operator}
use Rattle.row_copies.specs.declared.rows.RowCopy.{RowCopy}
use Rattle.row_copies.specs.declared.rows.Ends.{Ends}

-- ## An operator

-- what an operator makes of a word with a source word: (old & ((s & q) ^ r)) ^ ((s & p) ^ a)
abbrev pub ink_over : Operator → ℕ → Ink
ink_over x s = record { keep = bit_xor (bit_and s x.q) x.r; flip = bit_xor (bit_and s x.p) x.a }

-- .. of source bit s and old bit d, at bit j of the word
unfoldable pub operator_bit : Operator → ℕ → Bool → Bool → Bool
operator_bit x j s d =
    differs (d && differs (s && bit x.q j) (bit x.r j)) (differs (s && bit x.p j) (bit x.a j))

-- an operator that is called plain is the source itself
pub record SoundOperator (x : Operator) : Type 0 where
  pub passes : x.plain ≡ true → (j : ℕ) → j < 16 → (s d : Bool) → operator_bit x j s d ≡ s

-- an operator is an operation under a mask
pub record OperatorOf (op mask : ℕ) (x : Operator) : Type 0 where
  pub bits : (j : ℕ) → j < 16 → (s d : Bool) → operator_bit x j s d ≡ new_bit op (bit mask j) s d
  pub sound : SoundOperator x

-- one bit over a whole word
pub record Plane (v : Bool) (r : ℕ) : Type 0 where
  pub bits : (j : ℕ) → j < 16 → bit r j ≡ v

-- ## A row's copy

-- bit k, from the left, of the row that begins at byte o
unfoldable pub left_bit : List ℕ → ℕ → ℕ → Bool
left_bit s o k = bit_at s (8 * o + 16 * (k / 16) + (15 - k % 16))

-- THE RULE of a row's copy: what becomes of bit m of the target's buffer, the source's bits taken from s
unfoldable pub copied : Operator → RowCopy → List ℕ → ℕ → Bool → Bool
copied x c s m v =
    operator_bit x ((m - 8 * c.row) % 16) (left_bit s c.base (across c.row m + c.from - c.to)) v

-- the words of both stretches lie in their buffers; a row has at most 65,536 pixels of eight bits
pub record RowsFit (c : RowCopy) (old s : List ℕ) : Type 0 where
  pub target : c.row + 2 * ((c.to + c.count + 15) / 16) ≤ length old
  pub source : c.base + 2 * ((c.from + c.count + 15) / 16) ≤ length s
  pub short : c.to + c.count ≤ 524288
  pub near : c.from + c.count ≤ 524288

-- no word that holds a bit of the source's stretch shares a byte with one of the target's
abbrev pub Apart : RowCopy → Type 0
Apart c =
    (c.base + 2 * ((c.from + c.count + 15) / 16) ≤ c.row + 2 * (c.to / 16))
    ⊎ (c.row + 2 * ((c.to + c.count + 15) / 16) ≤ c.base + 2 * (c.from / 16))

-- in one buffer: one row, or two stretches that share nothing
abbrev pub Slidable : RowCopy → Type 0
Slidable c = (c.base ≡ c.row) ⊎ Apart c

-- from the first word to the last nothing is read after it is written; from the last to the first
abbrev pub Forward : RowCopy → Type 0
Forward c = ((c.base ≡ c.row) × (c.to ≤ c.from)) ⊎ Apart c

abbrev pub Backward : RowCopy → Type 0
Backward c = ((c.base ≡ c.row) × (c.from ≤ c.to)) ⊎ Apart c

-- .. from the last to the first, or from the first to the last
abbrev pub InOrder : Bool → RowCopy → Type 0
InOrder true c = Backward c
InOrder false c = Forward c

-- the buffer that a copy reads: another one, or where none is given the target's own
abbrev pub source_in : Option (Bor (List ℕ)) → List ℕ → List ℕ
source_in (Some s) own = s.now
source_in None own = own

-- nothing is read after it is written: from another buffer in any order
abbrev pub ReadFirst : Option (Bor (List ℕ)) → Bool → RowCopy → Type 0
ReadFirst (Some s) back c = Unit {0}
ReadFirst None back c = InOrder back c

-- the copy of n pixels of one surface, from (sx,sy) on, to another, (x,y) and on
abbrev pub row_copy_of : Surface → Surface → ℕ → ℕ → ℕ → ℕ → ℕ → RowCopy
row_copy_of u us x y sx sy n = record {
  row = u.base + 2 * (u.words * (u.top + y));
  to = (u.left + x) * u.bits;
  base = us.base + 2 * (us.words * (us.top + sy));
  from = (us.left + sx) * us.bits;
  count = n * u.bits;
}

-- ## Parts of a row's copy

-- the words at both ends of the stretch
pub record EndsOf (c : RowCopy) (e : Ends) : Type 0 where
  pub first : e.first ≡ c.to / 16
  pub lead : e.lead ≡ c.to % 16
  pub last : e.last ≡ (c.to + c.count - 1) / 16
  pub tail : e.tail ≡ c.to + c.count - 16 * ((c.to + c.count - 1) / 16)

-- bits lead to tail - 1 of a word, from the left, are some of the stretch
pub record PartOf (c : RowCopy) (word lead tail : ℕ) : Type 0 where
  pub order : lead < tail
  pub wide : tail ≤ 16
  pub from : c.to ≤ 16 * word + lead
  pub most : 16 * word + tail ≤ c.to + c.count

-- whole words first .. last - 1 of the stretch, which goes on behind them
pub record Inner (c : RowCopy) (first last : ℕ) : Type 0 where
  pub order : first ≤ last
  pub from : c.to ≤ 16 * first
  pub most : 16 * last < c.to + c.count

-- eight whole words from word w on, and a bit behind them
pub record Eight (c : RowCopy) (w : ℕ) : Type 0 where
  pub from : c.to ≤ 16 * w
  pub most : 16 * w + 128 < c.to + c.count

-- bytes at .. at + n - 1 are a source's bytes from `from` on; all others kept
pub record Carried (at from n : ℕ) (s old new : List ℕ) : Type 0 where
  pub length : length new ≡ length old
  pub inside : (i : ℕ) → i < n → get_or new (at + i) 0 ≡ get_or s (from + i) 0
  pub outside : (i : ℕ) → (i < at) ⊎ (at + n ≤ i) → get_or new i 0 ≡ get_or old i 0
