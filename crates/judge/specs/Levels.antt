-- What the two judges ask and answer. They hold what faults depend on, with the number of return addresses and
-- not the addresses: so their answers are those of the walk for every list of addresses with that number.
use Rattle.std.specs.Prelude.{◌≡◌, List, ℕ, ◌-◌, ◌≤◌, ◌<◌, length, get_or, Ok, Err}
use Rattle.std.specs.declared.result.Result.{Result}
use Rattle.model.specs.declared.Geometry.{Geometry}
use Rattle.model.specs.declared.Row.{Row}
use Rattle.model.specs.declared.Pane.{Pane}
use Rattle.model.specs.declared.Context.{Context}
use Rattle.model.specs.declared.Returns.{Returns}
use Rattle.model.specs.declared.Command.{Command}
use Rattle.model.specs.declared.FoundFault.{FoundFault}
use Rattle.model.specs.Numbers.{fault_number}
use Rattle.model.specs.Replies.{Verdict, Clean, Found}
use Rattle.model.specs.Record.{fresh, with_bitmap, with_font, with_returns, with_pointer}
use Rattle.model.specs.Effects.{latest, without_latest}
use Rattle.model.specs.Judge.{judged_command, list_walk}
use Rattle.faults.specs.Checking.{Checkable}
use Rattle.judge.specs.declared.Stop.{Stop}
use Rattle.judge.specs.declared.Stop.TheVariants as stop
use Rattle.judge.specs.declared.Next.{Next}
use Rattle.judge.specs.declared.Next.TheVariants as after

-- a record with this bitmap and font, these return addresses and this pointer, else fresh
abbrev pub record_with : Context → Returns → ℕ → Pane
record_with x kept at = with_pointer (with_returns (with_font (with_bitmap fresh x.bitmap) x.font) kept) at

-- the same with so many return addresses
abbrev pub with_kept : Context → ℕ → Context
with_kept x n = record { bitmap = x.bitmap; font = x.font; kept = n }

-- return addresses, so many of them: a slot that holds none holds 0
pub record Kept (kept : Returns) (n : ℕ) : Type 0 where
  pub count : kept.count ≡ n
  pub slots : length kept.addresses ≡ 8
  pub clear : (k : ℕ) → n ≤ k → get_or kept.addresses k 0 ≡ 0

-- ## What is asked

-- faults can be looked for, and at most eight return addresses are kept
pub record Judgeable (g : Geometry) (r : Row) (x : Context) (store : ℕ) : Type 0 where
  pub checkable : Checkable g r x store
  pub most : x.kept ≤ 8

-- ## What is answered

-- what is left to walk where a list stops, by the return addresses kept there
abbrev pub resumed : Geometry → Row → List ℕ → Returns → Result Stop FoundFault → Verdict
resumed g r store kept (Ok (stop.Ended n)) = Clean n
resumed g r store kept (Ok (stop.Returned x n)) =
    list_walk g r store n (record_with x (without_latest kept) (latest kept))
resumed g r store kept (Err f) = Found (fault_number f.fault) f.address

-- .. and after a command
abbrev pub continued : Geometry → Row → List ℕ → Returns → Result Next FoundFault → Verdict
continued g r store kept (Ok (after.On x at n)) = list_walk g r store n (record_with x kept at)
continued g r store kept (Ok (after.Stops s)) = resumed g r store kept (Ok s)
continued g r store kept (Err f) = resumed g r store kept (Err f)

-- what is answered with a context: faults can be looked for with it, it keeps so many return addresses, and the
-- walk remaining has not grown
pub record Further (g : Geometry) (r : Row) (store count left : ℕ) (x : Context) (n : ℕ) : Type 0 where
  pub checkable : Checkable g r x store
  pub kept : x.kept ≡ count
  pub rest : n ≤ left

-- .. and a list is left by RETURN only where one more is kept
abbrev pub StopFair : Geometry → Row → ℕ → ℕ → ℕ → Result Stop FoundFault → Type 0
StopFair g r store count left (Ok (stop.Ended n)) = n ≤ left
StopFair g r store count left (Ok (stop.Returned x n)) = (0 < count) × Further g r store (count - 1) left x n
StopFair g r store count left (Err f) = Unit {0}

abbrev pub NextFair : Geometry → Row → ℕ → ℕ → ℕ → Result Next FoundFault → Type 0
NextFair g r store count left (Ok (after.On x at n)) = Further g r store count left x n
NextFair g r store count left (Ok (after.Stops s)) = StopFair g r store count left (Ok s)
NextFair g r store count left (Err f) = StopFair g r store count left (Err f)

-- the list judge's answer is the walk's, whatever return addresses are kept
pub record ListJudged (g : Geometry) (r : Row) (store : List ℕ) (x : Context) (at left : ℕ)
    (s : Result Stop FoundFault) : Type 0 where
  pub same : (kept : Returns) → Kept kept x.kept
      → list_walk g r store left (record_with x kept at) ≡ resumed g r store kept s
  pub fair : StopFair g r (length store) x.kept left s

-- the command judge's answer is that of the walk's command, so many being left after it
pub record CommandJudged (g : Geometry) (r : Row) (store : List ℕ) (x : Context) (at left : ℕ) (c : Command)
    (next : ℕ) (s : Result Next FoundFault) : Type 0 where
  pub same : (kept : Returns) → Kept kept x.kept
      → judged_command g r store (λ q. list_walk g r store left q) (record_with x kept at) c next
      ≡ continued g r store kept s
  pub fair : NextFair g r (length store) x.kept left s
