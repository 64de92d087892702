-- `draw_text::text::draw_string` meets its contract. The loop's invariant: what is left of the string, drawn on from here, gives the whole.
use Rattle.draw_text.proofs.WritingLaws.{Writing}
use Rattle.draw_text.proofs.text.draw_string.Given as goal

abbrev pub invariant-loop-k : goal.invariant-loop-k
invariant-loop-k l = Writing l.t l.text l.initial.d.position l.c l.initial.screen l.initial.store l.screen l.store l.d l.k
