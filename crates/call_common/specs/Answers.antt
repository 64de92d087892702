-- What a call is lent and what it leaves, as the states and answers that `exec` and `set_up` speak of.
use Rattle.std.specs.Prelude.{ℕ, List, Result, set, Err}
use Rattle.model.specs.declared.Console.{Console}
use Rattle.model.specs.declared.Pane.{Pane}
use Rattle.model.specs.declared.Reply.{Reply}
use Rattle.model.specs.declared.Refusal.{Refusal}
use Rattle.model.specs.Replies.{response}
use Rattle.model.specs.Calls.{State, Answer}
use Rattle.call_common.specs.declared.Answered.{Answered}

-- the console record and the contents of the two buffers
abbrev pub state : Console → List ℕ → List ℕ → State
state console screen stores = record { console = console; screen = screen; stores = stores }

-- what a call of the paper answers
abbrev pub CallAnswered : Type 0
CallAnswered = Answered (Result Reply Refusal)

-- the same after a call, with the paper's number and values of its reply
abbrev pub answer : CallAnswered → List ℕ → List ℕ → Answer
answer a screen stores = record { reply = response a.reply; state = state a.console screen stores }

-- the record as it came, with a reply
abbrev pub unchanged : {T : Type 0} → Console → T → Answered T
unchanged console a = record { console = console; reply = a }

-- a refused call
abbrev pub turned_away : {R : Type 0} → Console → R → Answered (Result Reply R)
turned_away console r = unchanged console (Err r)

-- the record with pane k's replaced
abbrev pub with_record : Console → ℕ → Pane → Console
with_record c k p = record { geometry = c.geometry; count = c.count; rows = c.rows; panes = set c.panes k p }

-- the same, with a reply
abbrev pub replaced : {T : Type 0} → Console → ℕ → Pane → T → Answered T
replaced c k p a = record { console = with_record c k p; reply = a }
