-- Replies (01, "For those who test a delivery"): what a call answers, in the paper's numbers, and the same of
-- each case of the code's enum.
use Rattle.std.specs.Prelude.{ℕ, List, [], ◌∷◌, ◌++◌, ℤ, pos, Ok, Err}
use Rattle.std.specs.declared.result.Result.{Result}
use Rattle.model.specs.Numbers.{Fault, Refusal, fault_number, refusal_number}
use Rattle.model.specs.Words.{digit}
use Rattle.model.specs.Coordinates.{coord}
pub use Rattle.model.specs.declared.Progress.{Progress}
pub use Rattle.model.specs.declared.Ran.{Ran}
pub use Rattle.model.specs.declared.View.{View}
pub use Rattle.model.specs.declared.FoundFault.{FoundFault}
pub use Rattle.model.specs.declared.Reply.{Reply}
use Rattle.model.specs.declared.Reply.TheVariants as reply

-- a value of a reply: a number, or an address of the store
pub data Value : Type 0 where
  number : ℤ → Value
  address : ℕ → Value

-- "A reply is the refusal, or acceptance with its values"
pub data Response : Type 0 where
  refused_with : ℕ → Response
  accepted_with : List Value → Response

-- what the judge finds (02, A.2): a clean list with the number of commands walked, or the number of a fault, 31 or 32
-- among them, with its address
pub data Verdict : Type 0 where
  Clean : ℕ → Verdict
  Found : ℕ → ℕ → Verdict

abbrev pub natural : ℕ → Value
natural n = number (pos n)

-- ## "If an answer is an enum, the promises use a definition that states this paper's number
-- ## and values for each of its cases"

-- "commands done, status, fault"; the pixels drawn are "the last field of r" (02, A.5)
abbrev pub ran_values : Ran → List Value
ran_values r = natural r.commands ∷ natural r.status ∷ natural r.fault ∷ natural r.pixels ∷ []

-- "status, fault, pointer, position, pick and trap flag"
abbrev pub progress_values : Progress → List Value
progress_values p = natural p.status ∷ natural p.fault ∷ address p.pointer ∷ []

abbrev pub view_values : View → List Value
view_values v =
    progress_values v.progress
    ++ (number (coord v.position.x) ∷ number (coord v.position.y) ∷ natural (digit v.pick) ∷ natural
    (digit v.trap) ∷ [])

-- "Otherwise the accepted reply names the first fault the run would meet and its address" (02, A.2): 0 and the
-- commands walked, or the number and its address
abbrev pub verdict_values : Verdict → List Value
verdict_values (Clean n) = natural 0 ∷ natural n ∷ []
verdict_values (Found f a) = natural f ∷ address a ∷ []

-- .. in the code: the commands walked, or else the first fault
abbrev pub verdict : Result ℕ FoundFault → Verdict
verdict (Ok n) = Clean n
verdict (Err f) = Found (fault_number f.fault) f.address

abbrev pub reply_values : Reply → List Value
reply_values reply.Done = []
reply_values (reply.Ran r) = ran_values r
reply_values (reply.Seen v) = view_values v
reply_values (reply.Value n) = natural n ∷ []
reply_values (reply.Judged v) = verdict_values (verdict v)

abbrev pub response : Result Reply Refusal → Response
response (Ok a) = accepted_with (reply_values a)
response (Err r) = refused_with (refusal_number r)
