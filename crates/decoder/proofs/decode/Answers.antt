-- The tests come in the order of the definition: pointer, end bit, opcode, parameter words. Past the first two (`fetched`) what is left is
-- `fetch` of the opcode's shape, and the shape's number of words is the command's own (`opcode_of_count`).
use Prim.Native.Nat.{ℕ, ◌/◌}
use native.Mathlib.Omega.{arith}
use mathlib.Core.List.{List}
use mathlib.Core.Path.{◌≡◌, sym, ◌∙◌}
use lib.ListN.{length}
use borrow.Author.Tests.{lt-ltb, le-ltb}
use Rattle.model.specs.Commands.{opcode_of, fetch, decode}
use Rattle.decoder.proofs.OpcodeLaws.{opcode_of_count}
use Rattle.decoder.proofs.decode.Goals as goal
use Rattle.decoder.proofs.decode.Goals.{Else-ends}

abbrev store : Else-ends → List ℕ
store c = c.before.before.before.before.before.args.store.now

abbrev pointer : Else-ends → ℕ
pointer c = c.before.before.before.before.before.args.pointer

-- past the tests on the pointer and the end bit
fetched : (c : Else-ends) →
    decode (length (store c)) (store c) (pointer c) ≡ fetch (length (store c)) (store c) (pointer c) (opcode_of (c.word-word.result / 256))
unfolding decode
fetched c = simp (c.if-at-store.false, ← c.word-word.ensures, ← c.ends.ensures, c.if-ends.false)

pub returns-then-at-store : goal.returns-then-at-store
unfolding decode
returns-then-at-store c = rw c.if-at-store.true

pub returns-then-ends : goal.returns-then-ends
unfolding decode
returns-then-ends c =
    simp (c.if-at-store.false, ← c.word-word.ensures, ← c.ends.ensures, c.if-ends.true)

pub returns-in_default : goal.returns-in_default
unfolding fetch
returns-in_default c = rw (fetched (goal.at.returns-in_default c).Else-ends, ← c.opcode_of.ensures, c.in_default.is)

pub returns-then-store-next : goal.returns-then-store-next
unfolding fetch
returns-then-store-next c =
    rw (
      fetched (goal.at.returns-then-store-next c).Else-ends,
      ← c.opcode_of.ensures,
      c.in-Some.is,
      lt-ltb _ _ c.if-store-next.true,
    )

pub command-requires : goal.command-requires
command-requires c =
    let count = opcode_of_count
    (c.word-word.result / 256)
    c.in-Some.entry
    (omega arith)
    (sym c.opcode_of.ensures ∙ c.in-Some.is) in
    rw (← count) (omega arith)

pub returns : goal.returns
unfolding fetch
returns c =
    rw (
      fetched (goal.at.returns c).Else-ends,
      ← c.opcode_of.ensures,
      c.in-Some.is,
      le-ltb _ _ c.if-store-next.false,
      c.command.ensures,
    )
