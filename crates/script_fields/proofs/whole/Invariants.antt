-- The invariant: the digits that are left, taken to the number so far, spell what all of them spell.
use Rattle.std.proofs.Common.{◌≡◌, drop, Some}
use Rattle.script_fields.specs.Numbers.{and_digits, spelled_number}
use Rattle.script_fields.proofs.whole.Given as goal

abbrev pub invariant-loop-byte : goal.invariant-loop-byte
invariant-loop-byte l = and_digits l.base (drop l.byte-index l.field) (Some l.value) ≡ spelled_number l.base l.field
