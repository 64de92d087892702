-- Laws of a decoded command: its next address is even and at most the store's length; the addresses in it have 22 bits.
use Prim.Native.Nat.{ℕ, ◌+◌, ◌*◌, ◌/◌, ◌%◌, ◌≤◌, ◌<◌}
use native.Mathlib.Omega.{arith}
use mathlib.Core.Path.{◌≡◌, sym, subst}
use mathlib.Core.Bool.{◌||◌}
use mathlib.Core.List.{List}
use lib.Dec.{eqb, ltb}
use lib.ListN.{get_or}
use borrow.Author.Tests.{eqb-false, ltb-false}
use Rattle.model.specs.Words.{word_at, address, address_end}
use Rattle.model.specs.Commands.{Addressed, link_to, call_to, bitmap_at, font_at, pairs_at, triples_at, source_at, string_at, opcode_of, parameter, command_of, fetch}
use Rattle.model.specs.Commands.{decode}
use Rattle.model.specs.declared.Opcode.{Opcode}
use Rattle.model.specs.declared.Opcode.TheVariants as opcode
use Rattle.std.specs.Prelude.{Some, None}
use Rattle.std.specs.declared.option.Option.{Option}
use Rattle.model.specs.declared.Fault.{Fault}
use Rattle.model.specs.declared.OpcodeEntry.{OpcodeEntry}
use Rattle.model.specs.declared.Command.{Command}
use Rattle.model.specs.declared.Decoded.TheVariants.{Do, End}
use Rattle.model.specs.declared.Decoded.TheVariants as decoded
use Rattle.model.proofs.Decisions.{split, either_false}

-- ## What a decoded command came from

pub record Fetched (len : ℕ) (s : List ℕ) (at : ℕ) (k : Command) (next : ℕ) : Type 0 where
  pub op : Opcode
  pub count : ℕ
  pub even : at % 2 ≡ 0
  pub inside : at + 2 + 2 * count ≤ len
  pub after : next ≡ at + 2 + 2 * count
  pub whole : k ≡ command_of op (parameter s at)

fault_do : {f : Fault} {k : Command} {next : ℕ} → decoded.Fault f ≡ Do k next → ⊥
fault_do e = let z : ◌≡◌ {A = ℕ} 0 1 = cc in omega arith

end_do : {k : Command} {next : ℕ} → End ≡ Do k next → ⊥
end_do e = let z : ◌≡◌ {A = ℕ} 0 1 = cc in omega arith

fetch_do : (len : ℕ) (s : List ℕ) (at : ℕ) (h : Option OpcodeEntry) (k : Command) (next : ℕ) → at % 2 ≡ 0 → fetch len s at h ≡ Do k next → Fetched len s at k next
unfolding fetch
fetch_do len s at None k next v e = absurd (fault_do e)
fetch_do len s at (Some h) k next v e = split (ltb len (at + 2 + 2 * h.words))
    (λ t. absurd (fault_do (rw t at e)))
    (λ t. let d : Do (command_of h.opcode (parameter s at)) (at + 2 + 2 * h.words) ≡ Do k next = rw t at e in
    record { op = h.opcode; count = h.words; even = v; inside = ltb-false len (at + 2 + 2 * h.words) t; after = cc; whole = cc })

pub decode_do : (len : ℕ) (s : List ℕ) (at : ℕ) (k : Command) (next : ℕ) → decode len s at ≡ Do k next → Fetched len s at k next
unfolding decode
decode_do len s at k next e = split (eqb (at % 2) 1 || ltb len (at + 2))
    (λ t. absurd (fault_do (rw t at e)))
    (λ t. split (eqb (word_at s at % 2) 1)
    (λ u. absurd (end_do (rw (t, u) at e)))
    (λ u. fetch_do len s at (opcode_of (word_at s at / 256)) k next (even (eqb-false (at % 2) 1 (either_false (eqb (at % 2) 1) (ltb len (at + 2)) t).0))
    (rw (t, u) at e)))
  where
    even : (at % 2 ≡ 1 → ⊥) → at % 2 ≡ 0
    even f = omega arith

-- ## Addresses

address_lt : (low high : ℕ) → low < 65536 → address low high < address_end
address_lt low high h = omega arith

-- the address that a command holds is made of its first two words
command_addressed : (op : Opcode) (w : ℕ → ℕ) → w 0 < 65536 → Addressed (command_of op w)
unfolding command_of
command_addressed opcode.Link w h a link_to = address_lt (w 0) (w 1) h
command_addressed (opcode.DefCharSet t) w h a font_at = address_lt (w 0) (w 1) h
command_addressed opcode.Call w h a call_to = address_lt (w 0) (w 1) h
command_addressed opcode.DefBitmap w h a bitmap_at = address_lt (w 0) (w 1) h
command_addressed opcode.Polyline w h a pairs_at = address_lt (w 0) (w 1) h
command_addressed (opcode.Char t) w h a string_at = address_lt (w 0) (w 1) h
command_addressed opcode.BitBltM w h a source_at = address_lt (w 0) (w 1) h
command_addressed opcode.ScanLines w h a triples_at = address_lt (w 0) (w 1) h
command_addressed opcode.Nop w h a e = elim e [ ]
command_addressed (opcode.DefTexture _) w h a e = elim e [ ]
command_addressed opcode.Return w h a e = elim e [ ]
command_addressed opcode.DefColors w h a e = elim e [ ]
command_addressed opcode.DefLogicalOp w h a e = elim e [ ]
command_addressed opcode.EnterPick w h a e = elim e [ ]
command_addressed opcode.ExitPick w h a e = elim e [ ]
command_addressed opcode.DefClipRect w h a e = elim e [ ]
command_addressed opcode.DefSpace w h a e = elim e [ ]
command_addressed opcode.DefCharOrient w h a e = elim e [ ]
command_addressed opcode.AbsMov w h a e = elim e [ ]
command_addressed opcode.RelMov w h a e = elim e [ ]
command_addressed opcode.Point w h a e = elim e [ ]
command_addressed opcode.Line w h a e = elim e [ ]
command_addressed opcode.Rect w h a e = elim e [ ]
command_addressed opcode.BitBlt w h a e = elim e [ ]
command_addressed opcode.Circle w h a e = elim e [ ]

word_lt : (s : List ℕ) (at : ℕ) → ((k : ℕ) → get_or s k 0 < 256) → word_at s at < 65536
word_lt s at bytes = omega (arith, bytes at, bytes (at + 1))

pub decode_addressed : (len : ℕ) (s : List ℕ) (at : ℕ) (k : Command) (next : ℕ) → ((k : ℕ) → get_or s k 0 < 256) → decode len s at ≡ Do k next → Addressed k
decode_addressed len s at k next bytes e =
    let f = decode_do len s at k next e in
    subst Addressed (sym f.whole) (command_addressed f.op (parameter s at) (word_lt s (at + 2 + 2 * 0) bytes))
