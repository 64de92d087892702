-- `fault_text::check::char_bad` meets its contract: the string is looked at first, since descriptors are found through it.
use mathlib.Core.Path.{sym, ◌∙◌}
use Rattle.fault_text.proofs.check.char_bad.Goals as goal

pub returns-then-string_bad : goal.returns-then-string_bad
returns-then-string_bad c = rw (sym c.string_bad.ensures ∙ c.if-string_bad.true)

pub descriptors_bad-requires : goal.descriptors_bad-requires
descriptors_bad-requires c = (c.requires, sym c.string_bad.ensures ∙ c.if-string_bad.false)

pub returns : goal.returns
returns c = rw (sym c.string_bad.ensures ∙ c.if-string_bad.false) c.descriptors_bad.ensures
