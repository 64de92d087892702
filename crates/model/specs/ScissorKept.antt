-- What is shown of the scissor (02, A.6): what it holds, and that every call and command keeps it.
use Rattle.std.specs.Prelude.{ℕ, ◌≡◌, false, List, []}
use Rattle.model.specs.Bitmaps.{Geometry, Row}
use Rattle.model.specs.Record.{Pane}
use Rattle.model.specs.Scissor.{Current, Exact}
use Rattle.model.specs.Setup.{pane_bad}
use Rattle.model.specs.Steps.{step}
use Rattle.model.specs.Replies.{accepted_with}
use Rattle.model.specs.Calls.{State, Request, exec, set_up, row_of, record_of}

-- the scissor of pane k is "equal to what would be computed afresh"
unfoldable pub CurrentIn : State → ℕ → Type 0
CurrentIn s k = Current (row_of s k) (record_of s k)

pub record ScissorKept : Type 0 where
  -- "it is shown to hold exactly the pane's pixels in bitmap and clip", in every record that refusal 12 lets pass
  pub exact : (g : Geometry) (r : Row) (p : Pane) → pane_bad g r p ≡ false → Exact r p
  -- "Every call and command keeps it equal to what would be computed afresh": an accepted set-up makes it so in
  -- every record
  pub setup : (s : State) (k : ℕ) → (set_up s).reply ≡ accepted_with [] → CurrentIn (set_up s).state k
  -- .. and, refused or not, keeps it
  pub setup_keeps : (s : State) (k : ℕ) → CurrentIn s k → CurrentIn (set_up s).state k
  -- a command, faulty or done, by whatever the pane shows and its store holds
  pub command : (g : Geometry) (r : Row) (p : Pane) (pixel_of : ℕ → ℕ → ℕ) (store : List ℕ) → Current r p
      → Current r (step g r p pixel_of store).pane
  -- a call, on this pane or another, refused or not
  pub call : (s : State) (c : Request) (k : ℕ) → CurrentIn s k → CurrentIn (exec s c).state k
