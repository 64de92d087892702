-- What an array in the store names, as the code has it.
use Rattle.std.specs.Prelude.{List, ℕ, ◌+◌}
use Rattle.model.specs.Words.{word_at}
use Rattle.draw_lines.specs.declared.segments.Segment.{Segment}
use Rattle.draw_arrays.specs.declared.Triple.{Triple}

-- the two words of a pair at a byte, as a segment
abbrev pub segment_words : List ℕ → ℕ → ℕ → ℕ → Segment
segment_words store a first index =
    record { dx = word_at store a; dy = word_at store (a + 2); first = first; index = index }

-- the three words of a triple at a byte
abbrev pub triple_words : List ℕ → ℕ → Triple
triple_words store a = record { dx = word_at store a; dy = word_at store (a + 2); len = word_at store (a + 4) }
