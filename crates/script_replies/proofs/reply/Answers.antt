-- Letter, values and line feed.
use Rattle.script_replies.specs.Replies.{reply_text}
use Rattle.script_numerals.proofs.WroteLaws.{Wrote-then}
use Rattle.script_replies.proofs.reply.Goals as goal

pub returns : goal.returns
unfolding reply_text
returns c =
    Wrote-then c.push-first.ensures (Wrote-then c.values-last.ensures c.push.ensures)
