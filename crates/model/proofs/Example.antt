-- The script example (01, "The script program"; 02, A.5) as a theorem about set-up and the calls: what each line replies, and what all of them leave.
use mathlib.Core.Path.{◌≡◌, refl}
use mathlib.Core.List.{List, [], ◌∷◌}
use lib.IntN.{pos}
use lib.ListN.{replicate}
use Rattle.model.specs.Calls.{State, Request, on, put, start, run, look, pixel}
use Rattle.model.proofs.Computing.{machine}
use Rattle.model.proofs.Scripts.{script}

-- `s,16,2,1` `p,0,0,8,2,32`: "screen and stores zeroed"
abbrev console : State
console =
    record {
      console = record {
        geometry = record { width = 16; height = 2; depth = 1 };
        count = 1;
        rows = record { left = 0; top = 0; width = 8; height = 2; start = 0; len = 32 } ∷ [];
        panes = [];
      };
      screen = replicate 4 0;
      stores = replicate 32 0;
    }

abbrev calls : List Request
calls =
    -- `w,0,0,003d010000000100`
    on 0 (put 0 (0x00 ∷ 0x3d ∷ 0x01 ∷ 0x00 ∷ 0x00 ∷ 0x00 ∷ 0x01 ∷ 0x00 ∷ []))
    -- `g,0,0`
    ∷ on 0 (start 0)
    -- `r,0,5`
    ∷ on 0 (run 5)
    -- `l,0`
    ∷ on 0 look
    -- `x,0,3,1`
    ∷ on 0 (pixel 3 1)
    -- `g,1,0`
    ∷ on 1 (start 0)
    ∷ []

pub example_told :
    (script console calls).told
    ≡  -- `o,0`
    (pos 0 ∷ [])
    -- `w,0`
    ∷ (pos 0 ∷ [])
    -- `g,0`
    ∷ (pos 0 ∷ [])
    -- `r,0,1,2,0,0`
    ∷ (pos 0 ∷ pos 1 ∷ pos 2 ∷ pos 0 ∷ pos 0 ∷ [])
    -- `l,0,2,0,6,0,0,0,0`
    ∷ (pos 0 ∷ pos 2 ∷ pos 0 ∷ pos 6 ∷ pos 0 ∷ pos 0 ∷ pos 0 ∷ pos 0 ∷ [])
    -- `x,0,0`
    ∷ (pos 0 ∷ pos 0 ∷ [])
    -- `g,1`
    ∷ (pos 1 ∷ [])
    ∷ []
unfolding machine script
example_told = refl

pub example_screen : (script console calls).left.screen ≡ replicate 4 0
unfolding machine script
example_screen = refl

pub example_stores : (script console calls).left.stores ≡ 0x00 ∷ 0x3d ∷ 0x01 ∷ 0x00 ∷ 0x00 ∷ 0x00 ∷ 0x01 ∷ 0x00 ∷ replicate 24 0
unfolding machine script
example_stores = refl
