-- Changes to pixels of a surface: the pixel takes its new value, every other keeps its own, and changes to two pixels may be made in either
-- order. A change inside the surface sets one byte: it replaces a field of it by what its old value gives. Assumes nothing.
use mathlib.Core.Path.{◌≡◌, sym, ap, ◌∙◌}
use mathlib.Core.Logic.{◌≢◌, ◌⊎◌, inl, inr}
use mathlib.Core.Bool.{Bool, true, false, cond, ◌&&◌}
use mathlib.Core.List.{List}
use Prim.Native.Nat.{ℕ, ◌+◌, ◌-◌, ◌/◌, ◌%◌, ◌^◌, ◌≤◌, ◌<◌}
use native.Mathlib.Omega.{arith}
use native.Mathlib.Decide.{ℕ_discrete, dec_lt}
use borrow.Author.Tests.{lt-leb, le-ltb}
use lib.Dec.{leb, ltb}
use lib.ListN.{length, get_or, set}
use lib.Pow.{pow_pos}
use lib.Seq.{get_or-set_same, get_or-set_other, set_out, set-set, set_comm}
use Rattle.model.specs.Words.{bit, num, within, field_at, splice, put_field}
use Rattle.model.specs.Bitmaps.{place_bit, place_shift, inside, pixels, Fits}
use Rattle.model.specs.Pixels.{Change, blend, change}
use Rattle.model.specs.declared.Surface.{Surface}
use Rattle.model.specs.declared.Pen.{Pen}
use Rattle.model.specs.declared.Source.{Source}
use Rattle.model.proofs.BitLaws.{bit_num, num_cong}
use Rattle.model.proofs.Decisions.{split, and_false, cond_true, cond_false}
use Rattle.model.proofs.FieldLaws.{put_keeps, put_field_lem, field_bits}
use Rattle.model.proofs.PlaceLaws.{in_byte, in_rows, apart}
use Rattle.model.proofs.PixelLaws.{inside_true, inside_of, pixels_in}
use Rattle.raster.specs.Operations.{bit_field}
use Rattle.raster.specs.Pixels.{blending}
use Rattle.raster.proofs.BitLaws.{num_lt}

-- ## Fields of one byte

-- the one of two fields of b bits ends where the other begins, or before
abbrev Apart : ℕ → ℕ → ℕ → Type 0
Apart b k k' = (k + b ≤ k') ⊎ (k' + b ≤ k)

below : (k b i : ℕ) → i < k → within k b i ≡ false
below k b i h = ap (λ (x : Bool). x && ltb i (k + b)) (lt-leb k i h)

above : (k b i : ℕ) → k + b ≤ i → within k b i ≡ false
above k b i h = and_false (leb k i) (ltb i (k + b)) (le-ltb i (k + b) h)

-- no bit is in both of two fields that are apart
one_only : (k k' b i : ℕ) → Apart b k k' → (within k b i ≡ false) ⊎ (within k' b i ≡ false)
one_only k k' b i (inl l) = elim (dec_lt i k') [ yes h ↦ inr (below k' b i h) | no h ↦ inl (above k b i (omega arith)) ]
one_only k k' b i (inr l) = elim (dec_lt i k) [ yes h ↦ inl (below k b i h) | no h ↦ inr (above k' b i (omega arith)) ]

splice_bit : (z k b v i : ℕ) → i < 8 → bit (splice z k b v) i ≡ cond (within k b i) (bit v (i - k)) (bit z i)
unfolding splice
splice_bit z k b v i h = bit_num 8 (λ i. cond (within k b i) (bit v (i - k)) (bit z i)) i h

-- a field keeps its value where another is replaced
field_splice : (z k k' b v : ℕ) → k + b ≤ 8 → Apart b k k' → bit_field (splice z k' b v) k b ≡ bit_field z k b
unfolding bit_field
field_splice z k k' b v h a = num_cong b _ _ λ i l.
    splice_bit z k' b v (k + i) (omega arith) ∙ cond_false (bit v (k + i - k')) (bit z (k + i)) (out i l a)
  where
    out : (i : ℕ) → i < b → Apart b k k' → within k' b (k + i) ≡ false
    out i l (inl m) = below k' b (k + i) (omega arith)
    out i l (inr m) = above k' b (k + i) (omega arith)

swap_bit : (w w' x x' z : Bool) → (w ≡ false) ⊎ (w' ≡ false) → cond w x (cond w' x' z) ≡ cond w' x' (cond w x z)
swap_bit w w' x x' z (inl e) = rw e
swap_bit w w' x x' z (inr e) = rw e

splice_comm : (z k k' b v v' : ℕ) → Apart b k k' → splice (splice z k' b v') k b v ≡ splice (splice z k b v) k' b v'
unfolding splice
splice_comm z k k' b v v' a = num_cong 8 _ _ λ i l.
    ap (cond (within k b i) (bit v (i - k))) (splice_bit z k' b v' i l)
    ∙ swap_bit (within k b i) (within k' b i) (bit v (i - k)) (bit v' (i - k')) (bit z i) (one_only k k' b i a)
    ∙ ap (cond (within k' b i) (bit v' (i - k'))) (sym (splice_bit z k b v i l))

-- a byte with one field replaced by what its old value gives
abbrev pub replaced : ℕ → ℕ → (ℕ → ℕ) → ℕ → ℕ
replaced k b new z = splice z k b (new (bit_field z k b))

replaced_comm : (k k' b : ℕ) (f g : ℕ → ℕ) → k + b ≤ 8 → k' + b ≤ 8 → Apart b k k' → (z : ℕ) → replaced k b f (replaced k' b g z)
    ≡ replaced k' b g (replaced k b f z)
replaced_comm k k' b f g h h' a z =
    ap (λ (u : ℕ). splice (replaced k' b g z) k b (f u)) (field_splice z k k' b (g (bit_field z k' b)) h a)
    ∙ splice_comm z k k' b (f (bit_field z k b)) (g (bit_field z k' b)) a
    ∙ ap (λ (u : ℕ). splice (replaced k b f z) k' b (g u)) (sym (field_splice z k' k b (f (bit_field z k b)) h' (flip a)))
  where
    flip : Apart b k k' → Apart b k' k
    flip (inl l) = inr l
    flip (inr l) = inl l

-- ## Bytes of a list

-- a list with one element replaced by what its old value gives
abbrev pub updated : ℕ → (ℕ → ℕ) → List ℕ → List ℕ
updated k f l = set l k (f (get_or l k 0))

updated_other : (l : List ℕ) (k k' : ℕ) (f g : ℕ → ℕ) → k ≢ k' → updated k' g (updated k f l) ≡ updated k f (updated k' g l)
updated_other l k k' f g m =
    ap (λ (x : ℕ). set (updated k f l) k' (g x)) (get_or-set_other l k k' (f (get_or l k 0)) 0 (λ e. m (sym e)))
    ∙ set_comm l k k' (f (get_or l k 0)) (g (get_or l k' 0)) m
    ∙ ap (λ (x : ℕ). set (updated k' g l) k (f x)) (sym (get_or-set_other l k' k (g (get_or l k' 0)) 0 m))

updated_same : (l : List ℕ) (k : ℕ) (f g : ℕ → ℕ) → ((x : ℕ) → g (f x) ≡ f (g x)) → updated k g (updated k f l) ≡ updated k f (updated k g l)
updated_same l k f g s = elim (dec_lt k (length l)) [
  | yes h ↦ twice f g h ∙ ap (set l k) (s (get_or l k 0)) ∙ sym (twice g f h)
  | no h ↦ none f g (omega arith) ∙ sym (none g f (omega arith))
]
  where
    twice : (f g : ℕ → ℕ) → k < length l → updated k g (updated k f l) ≡ set l k (g (f (get_or l k 0)))
    twice f g h = set-set l k (f (get_or l k 0)) _ ∙ ap (λ (x : ℕ). set l k (g x)) (get_or-set_same l k (f (get_or l k 0)) 0 h)

    none : (f g : ℕ → ℕ) → length l ≤ k → updated k g (updated k f l) ≡ l
    none f g h = ap (updated k g) (set_out l k (f (get_or l k 0)) h) ∙ set_out l k (g (get_or l k 0)) h

-- ## Changes

pub change_out : (u : Surface) (c : Change) (s : List ℕ) → inside u c.x c.y ≡ false → change u c s ≡ s
unfolding change
change_out u c s e = cond_false _ _ e

-- the byte and the bit of it at which a change is made
abbrev byte_of : Surface → Change → ℕ
byte_of u c = place_bit u c.x c.y / 8

abbrev bit_of : Surface → Change → ℕ
bit_of u c = place_bit u c.x c.y % 8

pub change_in : (u : Surface) (c : Change) (s : List ℕ) → inside u c.x c.y ≡ true
    → change u c s ≡ updated (byte_of u c) (replaced (bit_of u c) u.bits c.new) s
unfolding change put_field field_at bit_field
change_in u c s e =
    cond_true _ _ e
    ∙ ap (λ (v : ℕ). set s (byte_of u c) (splice (get_or s (byte_of u c) 0) (bit_of u c) u.bits (c.new v))) (pixels_in u s c.x c.y e)

module _ (u : Surface) (s : List ℕ) (f : Fits u s) where
  pub bit_fits : (x y : ℕ) → place_bit u x y % 8 + u.bits ≤ 8
  unfolding place_bit
  bit_fits x y = in_byte u.base u.words u.bits f.depth _ _

  pub byte_fits : (x y : ℕ) → x < u.width → y < u.height → place_bit u x y / 8 < length s
  unfolding place_bit
  byte_fits x y h k =
      let r =
      in_rows u.base u.words u.bits f.depth (u.left + u.width) f.right (u.left + x) (u.top + y) (u.top + u.height)
      (omega arith) (omega arith) in
      omega (arith, f.long)

  pub places_apart : (x y x' y' : ℕ) → x < u.width → x' < u.width → (x ≢ x') ⊎ (y ≢ y')
      → (place_bit u x y + u.bits ≤ place_bit u x' y') ⊎ (place_bit u x' y' + u.bits ≤ place_bit u x y)
  unfolding place_bit
  places_apart x y x' y' h h' n =
      apart u.base u.words u.bits f.depth (u.left + u.width) f.right (u.left + x) (u.top + y) (u.left + x') (u.top + y')
      (omega arith) (omega arith) (shifted n)
    where
      shifted : (x ≢ x') ⊎ (y ≢ y') → (u.left + x ≢ u.left + x') ⊎ (u.top + y ≢ u.top + y')
      shifted (inl n) = inl (omega arith)
      shifted (inr n) = inr (omega arith)

  -- in one byte, the fields of two pixels are apart
  fields_apart : (n m b : ℕ) → n / 8 ≡ m / 8 → (n + b ≤ m) ⊎ (m + b ≤ n) → Apart b (n % 8) (m % 8)
  fields_apart n m b e (inl l) = inl (omega arith)
  fields_apart n m b e (inr l) = inr (omega arith)

  -- changes to two pixels may be made in either order
  pub change_comm : (c d : Change) → (c.x ≢ d.x) ⊎ (c.y ≢ d.y) → change u c (change u d s) ≡ change u d (change u c s)
  change_comm c d n = split (inside u c.x c.y)
      (λ e. split (inside u d.x d.y) (both e) (λ g. ap (change u c) (change_out u d s g) ∙ sym (change_out u d (change u c s) g)))
      (λ e. change_out u c (change u d s) e ∙ sym (ap (change u d) (change_out u c s e)))
    where
      F : ℕ → ℕ
      F = replaced (bit_of u c) u.bits c.new

      G : ℕ → ℕ
      G = replaced (bit_of u d) u.bits d.new

      at : (place_bit u c.x c.y + u.bits ≤ place_bit u d.x d.y) ⊎ (place_bit u d.x d.y + u.bits ≤ place_bit u c.x c.y)
          → Dec (byte_of u d ≡ byte_of u c)
          → updated (byte_of u c) F (updated (byte_of u d) G s) ≡ updated (byte_of u d) G (updated (byte_of u c) F s)
      at far (no m) = updated_other s (byte_of u d) (byte_of u c) G F m
      at far (yes e) =
          let a : Apart u.bits (bit_of u c) (bit_of u d) = fields_apart (place_bit u c.x c.y) (place_bit u d.x d.y) u.bits (sym e) far in
          rw e
          (updated_same s (byte_of u c) G F
          (replaced_comm (bit_of u c) (bit_of u d) u.bits c.new d.new (bit_fits c.x c.y) (bit_fits d.x d.y) a))

      both : inside u c.x c.y ≡ true → inside u d.x d.y ≡ true → change u c (change u d s) ≡ change u d (change u c s)
      both e g =
          let h = inside_true u c.x c.y e in
          let k = inside_true u d.x d.y g in
          change_in u c (change u d s) e ∙ ap (updated (byte_of u c) F) (change_in u d s g)
          ∙ at (places_apart c.x c.y d.x d.y h.0 k.0 n) (ℕ_discrete (byte_of u d) (byte_of u c))
          ∙ sym (change_in u d (change u c s) g ∙ ap (updated (byte_of u d) G) (change_in u c s e))

  -- the pixel takes its new value ..
  pub pixels_changed : (c : Change) → inside u c.x c.y ≡ true → pixels u (change u c s) c.x c.y
      ≡ num u.bits (bit (c.new (pixels u s c.x c.y)))
  unfolding change
  pixels_changed c e =
      let h = inside_true u c.x c.y e in
      pixels_in u (change u c s) c.x c.y e
      ∙ ap (λ (l : List ℕ). field_at l (place_bit u c.x c.y) u.bits) (cond_true _ _ e)
      ∙ put_field_lem s (place_bit u c.x c.y) u.bits _ (byte_fits c.x c.y h.0 h.1) (bit_fits c.x c.y)

  -- .. and every other keeps its own
  pub pixels_kept : (c : Change) (x y : ℕ) → (x ≢ c.x) ⊎ (y ≢ c.y) → pixels u (change u c s) x y ≡ pixels u s x y
  unfolding change pixels
  pixels_kept c x y n = split (inside u x y)
      (λ e. split (inside u c.x c.y) (λ g. made e g) (λ g. ap (λ (l : List ℕ). pixels u l x y) (cond_false _ _ g)))
      (λ e. cond_false _ _ e ∙ sym (cond_false _ _ e))
    where
      side : (j : ℕ) → j < u.bits
          → (place_bit u x y + u.bits ≤ place_bit u c.x c.y) ⊎ (place_bit u c.x c.y + u.bits ≤ place_bit u x y)
          → (place_bit u x y + j < place_bit u c.x c.y) ⊎ (place_bit u c.x c.y + u.bits ≤ place_bit u x y + j)
      side j l (inl m) = inl (omega arith)
      side j l (inr m) = inr (omega arith)

      made : inside u x y ≡ true → inside u c.x c.y ≡ true → pixels u (change u c s) x y ≡ pixels u s x y
      made e g =
          let h = inside_true u x y e in
          let k = inside_true u c.x c.y g in
          let far = places_apart x y c.x c.y h.0 k.0 n in
          let v : ℕ = c.new (pixels u s c.x c.y) in
          let m : List ℕ = put_field s (place_bit u c.x c.y) u.bits v in
          ap (λ (l : List ℕ). pixels u l x y) (cond_true _ _ g)
          ∙ pixels_in u m x y e
          ∙ field_bits m s (place_bit u x y) u.bits (bit_fits x y)
          (λ j l. put_keeps s (place_bit u c.x c.y) u.bits v (place_bit u x y + j) (byte_fits c.x c.y k.0 k.1) (bit_fits c.x c.y)
          (side j l far))
          ∙ sym (pixels_in u s x y e)

-- ## Blends

-- a blended value has the surface's bits
num_blend : (b k : ℕ) (pen : Pen) (source : Source) (old : ℕ) → num b (bit (blend b k pen source old)) ≡ blend b k pen source old
unfolding blend
num_blend b k pen source old = num_cong b _ _ λ i l. bit_num b _ i l

-- a pixel's value has the surface's bits
pub pixels_lt : (u : Surface) (s : List ℕ) (x y : ℕ) → pixels u s x y < 2 ^ u.bits
unfolding pixels field_at
pixels_lt u s x y = split (inside u x y) (λ e. rw e (num_lt u.bits _)) (λ e. rw e (pow_pos u.bits))

-- the pixel becomes the blend of its old value
pub pixels_blended : (u : Surface) (s : List ℕ) → Fits u s → (pen : Pen) (source : Source) (x y : ℕ) → x < u.width → y < u.height
    → pixels u (change u (blending u pen source x y) s) x y ≡ blend u.bits (place_shift u x) pen source (pixels u s x y)
pixels_blended u s f pen source x y h k =
    pixels_changed u s f (blending u pen source x y) (inside_of u x y h k) ∙ num_blend u.bits (place_shift u x) pen source (pixels u s x y)
