-- The invariant: the bytes before place i are written, and those that the rest of the field spells, after them, are those that all of it spells.
use Rattle.std.proofs.Common.{◌≡◌, ◌+◌, ◌*◌, length, take}
use Rattle.std.specs.Slice.Iter.{chunks_exact_rest, chunks_exact_size}
use Rattle.std.specs.Iterator.Adapters.{enumerate_source, enumerate_count}
use Rattle.script_fields.specs.Fields.{spelled_bytes}
use Rattle.script_fields.proofs.ReadingLaws.{prefixed}
use Rattle.script_fields.proofs.spelled_bytes.Given as goal

abbrev pub invariant-loop-i : goal.invariant-loop-i
invariant-loop-i l =
    let i = enumerate_count l.i-iterator in
    let rest = chunks_exact_rest (enumerate_source l.i-iterator) in record {
      by_two : chunks_exact_size (enumerate_source l.i-iterator) ≡ 2;
      left : 2 * i + length rest ≡ length l.field;
      read : prefixed (take i l.buffer) (spelled_bytes rest) ≡ spelled_bytes l.field;
    }
