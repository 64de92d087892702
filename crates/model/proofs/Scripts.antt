-- What tests are made of: a store in pieces, a scissor, and what a list of calls is told and leaves.
use mathlib.Core.List.{List, [], ◌∷◌, ◌++◌}
use Prim.Native.Nat.{ℕ, ◌+◌}
use lib.IntN.{ℤ, pos}
use lib.ListN.{length, take, drop}
use Rattle.model.specs.Record.{Scissor}
use Rattle.model.specs.Replies.{Value, number, address, Response, refused_with, accepted_with}
use Rattle.model.specs.Calls.{State, Request, exec, set_up}

-- ## Replies

abbrev numbers : List Value → List ℤ
numbers [] = []
numbers (number z ∷ vs) = z ∷ numbers vs
numbers (address a ∷ vs) = pos a ∷ numbers vs

-- a reply as numbers: the refusal, or 0 and the values
abbrev pub values : Response → List ℤ
values (refused_with n) = pos n ∷ []
values (accepted_with vs) = pos 0 ∷ numbers vs

-- ## Calls, one after the other

-- what calls are told, and what they leave
pub record Played : Type 0 where
  pub told : List (List ℤ)
  pub left : State

abbrev telling : List ℤ → Played → Played
telling v p = record { told = v ∷ p.told; left = p.left }

unfoldable pub play : State → List Request → Played
play s [] = record { told = []; left = s }
play s (c ∷ cs) = let a = exec s c in telling (values a.reply) (play a.state cs)

-- set-up, and then the calls
unfoldable pub script : State → List Request → Played
unfolding play
script s cs = let a = set_up s in telling (values a.reply) (play a.state cs)

-- ## The store in pieces

-- bytes that stand at an address
pub record Piece : Type 0 where
  pub address : ℕ
  pub bytes : List ℕ

abbrev pub piece : ℕ → List ℕ → Piece
piece a bytes = record { address = a; bytes = bytes }

-- a store with pieces laid over it
abbrev pub laid : List Piece → List ℕ → List ℕ
laid [] store = store
laid (p ∷ ps) store = laid ps (take p.address store ++ (p.bytes ++ drop (p.address + length p.bytes) store))

-- ## A scissor

abbrev pub scissor : ℕ → ℕ → ℕ → ℕ → Scissor
scissor left top width height = record { left = left; top = top; width = width; height = height }

-- "four zeros when empty" (02, A.6)
abbrev pub empty : Scissor
empty = scissor 0 0 0 0
