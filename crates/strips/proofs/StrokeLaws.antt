-- THE BIT LAW of pixels drawn one by one, each at most once: what they make of every bit of the buffer.
use mathlib.Core.Path.{◌≡◌, refl, ap, ◌∙◌}
use mathlib.Core.Logic.{◌≢◌, ◌⊎◌, inl, inr}
use mathlib.Core.Bool.{Bool, true, false, cond}
use mathlib.Core.List.{List}
use Prim.Native.Nat.{ℕ, zero, suc, ◌+◌, ◌≤◌, ◌<◌}
use native.Mathlib.Omega.{arith}
use native.Mathlib.Decide.{ℕ_discrete}
use lib.ListN.{length}
use Rattle.model.specs.Ranges.{listed}
use Rattle.model.specs.Words.{bit, bit_at}
use Rattle.model.specs.Operations.{new_bit}
use Rattle.model.specs.Bitmaps.{place_bit, place_shift, Fits}
use Rattle.model.specs.Coordinates.{index}
use Rattle.model.specs.Pixels.{Change, source_bit, change, changes}
use Rattle.model.specs.Dots.{Dot, keep, visible, changes_of}
use Rattle.model.specs.declared.Clip.{Clip}
use Rattle.model.specs.declared.Surface.{Surface}
use Rattle.model.specs.declared.Pen.{Pen}
use Rattle.model.specs.declared.Source.{Source}
use Rattle.model.proofs.CallLaws.{change_length, changes_length}
use Rattle.model.proofs.Decisions.{split}
use Rattle.model.proofs.PixelLaws.{fits_framed}
use Rattle.raster.specs.Pixels.{blending}
use Rattle.raster.proofs.ChangeLaws.{places_apart}
use Rattle.strips.specs.Strokes.{Strokes, strokes}
use Rattle.strips.proofs.FieldBits.{blending_bit, blending_keeps}

-- what a source makes of the old bit j of a pixel that lies at a shift of its word
abbrev pub inked : Pen → Source → ℕ → ℕ → Bool → Bool
inked pen s shift j d = new_bit pen.op (bit pen.mask (shift + j)) (source_bit s shift j) d

-- m is no bit of pixel (x,y)
abbrev pub Beside : Surface → ℕ → ℕ → ℕ → Type 0
Beside u x y m = (m < place_bit u x y) ⊎ (place_bit u x y + u.bits ≤ m)

-- pixels i .. i + n - 1 that are drawn lie in the surface, no two at one place
pub record Once (u : Surface) (f : Strokes) (i n : ℕ) : Type 0 where
  pub column : (p : ℕ) → i ≤ p → p < i + n → f.on p ≡ true → f.x p < u.width
  pub row : (p : ℕ) → i ≤ p → p < i + n → f.on p ≡ true → f.y p < u.height
  pub once : (p q : ℕ) → i ≤ p → p < i + n → i ≤ q → q < i + n → f.on p ≡ true → f.on q ≡ true → p ≢ q → (f.x p ≢ f.x q) ⊎ (f.y p ≢ f.y q)

once_next : {u : Surface} {f : Strokes} (i n : ℕ) → Once u f i (suc n) → Once u f (suc i) n
once_next i n o = record {
  column = λ p a b. o.column p (omega arith) (omega arith);
  row = λ p a b. o.row p (omega arith) (omega arith);
  once = λ p q a b c d. o.once p q (omega arith) (omega arith) (omega arith) (omega arith);
}

pub changes_keep : (u : Surface) (t : Bool) (c : Change) (cs : List Change) (s : List ℕ) → changes u (keep t c cs) s ≡ changes u cs (cond t (change u c s) s)
unfolding changes
changes_keep u true c cs s = refl
changes_keep u false c cs s = refl

-- no bit of a pixel is a bit of another
pub bit_beside : (u : Surface) (s : List ℕ) → Fits u s → (x y x' y' j : ℕ) → x < u.width → x' < u.width
    → (x ≢ x') ⊎ (y ≢ y') → j < u.bits → Beside u x' y' (place_bit u x y + j)
bit_beside u s f x y x' y' j h h' n l = go (places_apart u s f x y x' y' h h' n)
  where
    go : (place_bit u x y + u.bits ≤ place_bit u x' y') ⊎ (place_bit u x' y' + u.bits ≤ place_bit u x y) → Beside u x' y' (place_bit u x y + j)
    go (inl m) = inl (omega arith)
    go (inr m) = inr (omega arith)

module _ (u : Surface) (pen : Pen) (f : Strokes) where
  run : (i n : ℕ) (s : List ℕ) → List ℕ
  run i n s = changes u (strokes u pen f i n) s

  first : ℕ → List ℕ → List ℕ
  first i s = cond (f.on i) (change u (blending u pen (f.source i) (f.x i) (f.y i)) s) s

  run_step : (i n : ℕ) (s : List ℕ) → run i (suc n) s ≡ run (suc i) n (first i s)
  unfolding run strokes first
  run_step i n s = changes_keep u (f.on i) _ _ s

  first_fits : (i : ℕ) (s : List ℕ) → Fits u s → Fits u (first i s)
  unfolding first
  first_fits i s t = fits_framed u s _ (split (f.on i) (λ e. rw e (change_length u _ s)) (λ e. rw e refl)) t

  first_keeps : (i m : ℕ) (s : List ℕ) → Fits u s
      → (f.on i ≡ true → (f.x i < u.width) × (f.y i < u.height) × Beside u (f.x i) (f.y i) m) → bit_at (first i s) m ≡ bit_at s m
  unfolding first
  first_keeps i m s t o = split (f.on i)
      (λ e. let z = o e in rw e (blending_keeps u pen (f.source i) (f.x i) (f.y i) s t z.0 z.1 m z.2))
      (λ e. rw e refl)

  outside : (n i m : ℕ) (s : List ℕ) → Fits u s → Once u f i n
      → ((p : ℕ) → i ≤ p → p < i + n → f.on p ≡ true → Beside u (f.x p) (f.y p) m) → bit_at (run i n s) m ≡ bit_at s m
  unfolding run strokes changes
  outside zero i m s t o b = refl
  outside (suc n) i m s t o b =
      ap (λ (l : List ℕ). bit_at l m) (run_step i n s)
      ∙ outside n (suc i) m (first i s) (first_fits i s t) (once_next i n o) (λ p c d. b p (omega arith) (omega arith))
      ∙ first_keeps i m s t (λ e. (o.column i (omega arith) (omega arith) e, o.row i (omega arith) (omega arith) e, b i (omega arith) (omega arith) e))

  inside : (n i p j : ℕ) (s : List ℕ) → Fits u s → Once u f i n → i ≤ p → p < i + n → f.on p ≡ true → j < u.bits
      → bit_at (run i n s) (place_bit u (f.x p) (f.y p) + j)
      ≡ inked pen (f.source p) (place_shift u (f.x p)) j (bit_at s (place_bit u (f.x p) (f.y p) + j))
  unfolding first
  inside zero i p j s t o a b e l = absurd (omega arith)
  inside (suc n) i p j s t o a b e l =
      ap (λ (t : List ℕ). bit_at t (place_bit u (f.x p) (f.y p) + j)) (run_step i n s)
      ∙ go (ℕ_discrete p i) (λ d. inside n (suc i) p j (first i s) (first_fits i s t) (once_next i n o) (omega arith) (omega arith) e l)
    where
      far : (q : ℕ) → p ≢ q → i ≤ q → q < i + suc n → f.on q ≡ true → Beside u (f.x q) (f.y q) (place_bit u (f.x p) (f.y p) + j)
      far q d c r g = bit_beside u s t (f.x p) (f.y p) (f.x q) (f.y q) j (o.column p a b e) (o.column q c r g) (o.once p q a b c r e g d) l

      here : List ℕ → Bool
      here t = bit_at t (place_bit u (f.x p) (f.y p) + j)

      ink : Bool → Bool
      ink = inked pen (f.source p) (place_shift u (f.x p)) j

      made : p ≡ i → here (first i s) ≡ ink (here s)
      made z =
          rw z (rw (rw z at e) (blending_bit u pen (f.source i) (f.x i) (f.y i) s t
          (o.column i (omega arith) (omega arith) (rw z at e)) (o.row i (omega arith) (omega arith) (rw z at e)) j l))

      go : Dec (p ≡ i) → (p ≢ i → here (run (suc i) n (first i s)) ≡ ink (here (first i s))) → here (run (suc i) n (first i s)) ≡ ink (here s)
      go (yes z) rest = outside n (suc i) _ (first i s) (first_fits i s t) (once_next i n o) (λ q c d. far q (omega arith) (omega arith) (omega arith)) ∙ made z
      go (no d) rest =
          rest d
          ∙ ap ink (first_keeps i _ s t
          (λ g. (o.column i (omega arith) (omega arith) g, o.row i (omega arith) (omega arith) g, far i d (omega arith) (omega arith) g)))

-- every bit of every pixel that is drawn is inked by the pixel's source, every other bit is kept, the length is kept
pub record Stroked (u : Surface) (pen : Pen) (f : Strokes) (n : ℕ) (old new : List ℕ) : Type 0 where
  pub length : length new ≡ length old
  pub inside : (p j : ℕ) → p < n → f.on p ≡ true → j < u.bits
      → bit_at new (place_bit u (f.x p) (f.y p) + j) ≡ inked pen (f.source p) (place_shift u (f.x p)) j (bit_at old (place_bit u (f.x p) (f.y p) + j))
  pub outside : (m : ℕ) → ((p : ℕ) → p < n → f.on p ≡ true → Beside u (f.x p) (f.y p) m) → bit_at new m ≡ bit_at old m

pub run_stroked : (u : Surface) (pen : Pen) (f : Strokes) (n : ℕ) (s : List ℕ) → Fits u s → Once u f 0 n
    → Stroked u pen f n s (changes u (strokes u pen f 0 n) s)
unfolding run
run_stroked u pen f n s t o = record {
  length = changes_length u _ s;
  inside = λ p j a e l. inside u pen f n 0 p j s t o (omega arith) (omega arith) e l;
  outside = λ m b. outside u pen f n 0 m s t o (λ p c d. b p (omega arith));
}

-- ## The dots of a drawing command are such strokes: the visible ones are drawn

abbrev pub dot_strokes : Surface → Clip → (ℕ → Dot) → Strokes
dot_strokes u clip f = record {
  on = λ k. visible u clip (f k);
  source = λ k. (f k).source;
  x = λ k. index (f k).place.x;
  y = λ k. index (f k).place.y;
}

pub dots_strokes : (u : Surface) (clip : Clip) (pen : Pen) (f : ℕ → Dot) (i n : ℕ)
    → changes_of u clip pen (listed i n f) ≡ strokes u pen (dot_strokes u clip f) i n
unfolding changes_of listed strokes
dots_strokes u clip pen f i zero = refl
dots_strokes u clip pen f i (suc n) = ap (keep (visible u clip (f i)) _) (dots_strokes u clip pen f (suc i) n)
