-- The invariant: the bytes passed are written.
use Rattle.std.proofs.Common.{take}
use Rattle.script_numerals.specs.Numerals.{Wrote}
use Rattle.script_numerals.proofs.append.Given as goal

abbrev pub invariant-loop-byte : goal.invariant-loop-byte
invariant-loop-byte l = Wrote l.initial.out l.at (take l.byte-index l.bytes) l.out l.end
