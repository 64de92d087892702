-- What stands at an address, by the head that was read there.
use mathlib.Core.Path.{◌≡◌, ap}
use mathlib.Core.List.{List}
use Prim.Native.Nat.{ℕ, ◌+◌, ◌*◌, ◌/◌, ◌%◌, ◌≤◌}
use native.Mathlib.Omega.{arith}
use borrow.Author.Tests.{ne_eqb, le-ltb}
use lib.ListN.{length}
use Rattle.std.specs.Prelude.{Some, None}
use Rattle.std.specs.declared.option.Option.{Option}
use Rattle.model.specs.Words.{word_at}
use Rattle.model.specs.Commands.{parameter, fetch, decode}
use Rattle.model.specs.declared.Command.{Command}
use Rattle.model.specs.declared.Decoded.TheVariants.{Do}
use Rattle.batches.specs.declared.heads.Head.{Head}
use Rattle.batches.specs.declared.heads.Head.TheVariants as head
use Rattle.batches.specs.Heads.{HeadAt, OpcodeFor, words_in}

-- a head has at most two words
words_few : (h : Head) → words_in h ≤ 2
words_few (head.Circle radius) = omega arith
words_few head.Nop = omega arith
words_few h = omega arith

-- at an even address, with a word in the store that does not end the list: its opcode tells the command
pub head_told : (s : List ℕ) (at word : ℕ) {a b : ℕ} (h : Option Head) → (at % 2 ≡ 1 → ⊥) → at + 6 ≤ length s → word ≡ word_at s at
    → (word % 2 ≡ 1 → ⊥) → a ≡ parameter s at 0 → b ≡ parameter s at 1 → OpcodeFor (word / 256) a b h → HeadAt s at h
unfolding decode fetch
head_told s at word None odd inside read end first second named = tt
head_told s at word (Some h) odd inside read end first second named =
    let few = words_few h in
    record {
      fetched =
          rw (
            ne_eqb (at % 2) 1 odd,
            le-ltb (length s) (at + 2) (omega arith),
            ← read,
            ne_eqb (word % 2) 1 end,
            named.entry,
            le-ltb (length s) (at + 2 + 2 * words_in h) (omega arith),
          )
          (ap (λ (c : Command). Do c (at + 2 + 2 * words_in h)) (named.same (parameter s at) first second));
      inside = inside;
      radius = named.radius;
    }
