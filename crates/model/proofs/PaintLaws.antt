-- How many pixels a drawing draws (02, A.5): its visible dots, or none in pick mode.
use mathlib.Core.Path.{◌≡◌, refl, ap, ◌∙◌}
use mathlib.Core.Bool.{Bool, true, false, cond}
use mathlib.Core.List.{List, [], ◌∷◌}
use Prim.Native.Nat.{ℕ, ◌+◌}
use lib.ListN.{length}
use Rattle.model.specs.Words.{digit}
use Rattle.model.specs.Bitmaps.{Surface}
use Rattle.model.specs.Record.{Pane}
use Rattle.model.specs.Pixels.{Pen, Change}
use Rattle.model.specs.Dots.{Clip, Dot, Drawing, visible, change_of, hits, changes_of}
use Rattle.model.specs.Steps.{made_by, paint_of}
use Rattle.model.proofs.DotLaws.{length_keep}

-- each visible dot makes one change
pub length_changes : (s : Surface) (c : Clip) (pen : Pen) (ds : List Dot) → length (changes_of s c pen ds) ≡ hits s c ds
unfolding changes_of hits
length_changes s c pen [] = refl
length_changes s c pen (d ∷ ds) =
    length_keep (visible s c d) (change_of s pen d) (changes_of s c pen ds) ∙ ap (λ (n : ℕ). digit (visible s c d) + n) (length_changes s c pen ds)

-- a choice between no changes and some, by their number
length_cond : (t : Bool) (l : List Change) (n : ℕ) → length l ≡ n → length (cond t [] l) ≡ cond t 0 n
length_cond true l n e = refl
length_cond false l n e = e

-- the visible dots are drawn, and none in pick mode
pub paint_is : (s : Surface) (p : Pane) (d : Drawing) → paint_of s p d ≡ cond p.flags.picking 0 (hits s p.clip d.dots)
unfolding paint_of made_by
paint_is s p d = length_cond p.flags.picking (changes_of s p.clip p.pen d.dots) _ (length_changes s p.clip p.pen d.dots)
