-- The invariant: i numbers are read, and with those from number i on they are the line's.
use Rattle.std.proofs.Common.{◌≡◌, length, take}
use Rattle.script_fields.specs.Fields.{fields_of, line_numbers}
use Rattle.script_fields.proofs.ReadingLaws.{prefixed, numbers_from}
use Rattle.script_fields.proofs.numbers.Given as goal

abbrev pub invariant-loop-i : goal.invariant-loop-i
invariant-loop-i l =
    (length l.values ≡ 5)
    × (prefixed (take l.i l.values) (numbers_from l.i l.bases (fields_of l.line)) ≡ line_numbers l.fields l.bases (fields_of l.line))
