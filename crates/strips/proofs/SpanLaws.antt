-- A run of dots under the pen's pattern, cut to the clip: what they make of a row's bits, and how many of them are visible.
use mathlib.Core.Path.{◌≡◌, refl, sym, ap, ◌∙◌}
use mathlib.Core.Bool.{Bool, true, false, cond}
use mathlib.Core.List.{List}
use Prim.Native.Nat.{ℕ, ◌+◌, ◌-◌, ◌*◌, ◌/◌, ◌%◌, ◌≤◌, ◌<◌}
use native.Mathlib.Omega.{arith}
use Rattle.model.specs.Ranges.{listed}
use Rattle.model.specs.Words.{bit}
use Rattle.model.specs.Bitmaps.{place_bit, place_shift, Fits}
use Rattle.model.specs.Pixels.{pen_source, pattern_source, changes}
use Rattle.model.specs.Dots.{Dot, something, visible, hits, changes_of}
use Rattle.model.specs.declared.Clip.{Clip}
use Rattle.model.specs.declared.Surface.{Surface}
use Rattle.model.specs.declared.Pen.{Pen}
use Rattle.model.proofs.Decisions.{split}
use Rattle.strips.specs.Strokes.{shown, pattern_on}
use Rattle.strips.specs.Stretches.{across, Stretched}
use Rattle.strips.specs.Strips.{Reversed}
use Rattle.strips.proofs.StretchLaws.{row_byte, column_at, shift_at}
use Rattle.strips.proofs.DottedLaws.{dotted, source_inked}
use Rattle.strips.proofs.WindowLaws.{Window}
use Rattle.strips.proofs.DotLaws.{Cut, dots_stretched}
use Rattle.strips.proofs.HitLaws.{shown_cong, shown_from, shown_all, window_hits}

-- ## A pattern over the columns, by its index at the row's first

-- rightwards column c + q has index k + q
pub right_phase : (pattern c k phase q : ℕ) → phase ≡ (k + 16 - c % 16) % 16 → pattern_on pattern (phase + (c + q)) ≡ pattern_on pattern (k + q)
right_phase pattern c k phase q e = let z : (phase + (c + q)) % 16 ≡ (k + q) % 16 = omega arith in rw z refl

-- leftwards column c + q of n has index k + n - 1 - q, and the pattern is met from its other end
pub left_phase : (pattern met c k n phase q : ℕ) → Reversed pattern met → phase ≡ (31 - (k + n - 1) % 16 - c % 16) % 16 → q < n
    → pattern_on met (phase + (c + q)) ≡ pattern_on pattern (k + (n - 1 - q))
left_phase pattern met c k n phase q v e l =
    let y : (k + n - 1) % 16 ≡ ((k + (n - 1 - q)) % 16 + q) % 16 = omega arith in
    let z : (phase + (c + q)) % 16 ≡ 15 - (k + (n - 1 - q)) % 16
    = folded c q phase ((k + n - 1) % 16) (omega arith) e ∙ rw y (mirrored ((k + (n - 1 - q)) % 16) q (omega arith)) in
    v (15 - (phase + (c + q)) % 16) (low (phase + (c + q))) ∙ rw z (ap (bit pattern) (thrice ((k + (n - 1 - q)) % 16)))
  where
    low : (m : ℕ) → 15 - m % 16 < 16
    low m = omega arith

    thrice : (m : ℕ) → 15 - (15 - (15 - m)) ≡ 15 - m
    thrice m = omega arith

    folded : (c q p t : ℕ) → t < 16 → p ≡ (31 - t - c % 16) % 16 → (p + (c + q)) % 16 ≡ (31 - t + q) % 16
    folded c q p t h e =
        let w : ℕ = (31 - t - c % 16) / 16 in
        let x : p + (c + q) + 16 * ((31 - t - c % 16) / 16) ≡ 31 - t + q + 16 * (c / 16) = omega arith in
        same (p + (c + q)) ((31 - t - c % 16) / 16) (31 - t + q) (c / 16) x
      where
        same : (a b c d : ℕ) → a + 16 * b ≡ c + 16 * d → a % 16 ≡ c % 16
        same a b c d e = omega arith

    mirrored : (b q : ℕ) → b < 16 → (31 - (b + q) % 16 + q) % 16 ≡ 15 - b
    mirrored b q h = omega arith

-- ## The bits of a row

-- the changes of the dots make one stretch, by the pattern laid over the columns
pub span_stretched : (u : Surface) (clip : Clip) (pen : Pen) (f : ℕ → Dot) (order idx : ℕ → ℕ) (x y i n N : ℕ) (laid : ℕ → Bool) (old : List ℕ)
    → Cut u clip f order x y i n N → Fits u old → x + n ≤ u.width → y < u.height
    → ((k : ℕ) → k < N → (f k).source ≡ pattern_source pen (idx k))
    → ((k : ℕ) → k < n → visible u clip (f (i + k)) ≡ something (f (i + k)).source)
    → ((q : ℕ) → q < n → laid (u.left + x + q) ≡ bit pen.pattern (15 - idx (i + order q) % 16))
    → Stretched (dotted pen laid u.bits (row_byte u y)) (row_byte u y) ((u.left + x) * u.bits) ((u.left + x) * u.bits + n * u.bits) old
    (changes u (changes_of u clip pen (listed 0 N f)) old)
span_stretched u clip pen f order idx x y i n N laid old c t w h sources sights e =
    dots_stretched u clip pen f order x y i n N old (dotted pen laid u.bits (row_byte u y)) c t w h λ q j a k v.
    let o = c.order_lt q a in
    let z : u.left + (x + q) ≡ u.left + x + q = omega arith in
    let b : laid (across (row_byte u y) (place_bit u (x + q) y + j) / u.bits) ≡ bit pen.pattern (15 - idx (i + order q) % 16)
    = rw (column_at u t.depth (x + q) y j k, z) (e q a) in
    rw (sights (order q) o, sources (i + order q) (omega (arith, c.most, o)), b, ← (shift_at u t.depth (x + q) y j k))
    (source_inked pen (bit pen.pattern (15 - idx (i + order q) % 16)) (place_shift u (x + q)) j v)

-- ## How many are visible

source_seen : (pen : Pen) (t on : Bool) → something (pen_source pen t on) ≡ cond t on true
source_seen pen true true = refl
source_seen pen true false = refl
source_seen pen false true = refl
source_seen pen false false = refl

-- of dots whose pattern index is k + their number: the pattern's 1s if transparent, else all
pub pattern_hits : {u : Surface} {clip : Clip} {f : ℕ → Dot} {i n N : ℕ} (pen : Pen) (k : ℕ)
    → Window u clip f i n N
    → ((p : ℕ) → p < N → (f p).source ≡ pattern_source pen (k + p))
    → ((p : ℕ) → p < n → visible u clip (f (i + p)) ≡ something (f (i + p)).source)
    → hits u clip (listed 0 N f) ≡ cond pen.transparent (shown (pattern_on pen.pattern) (k + i) n) n
pattern_hits {u} {clip} {f} {i} {n} {N} pen k c sources sights =
    window_hits c ∙ shown_from (λ p. visible u clip (f p)) n i
    ∙ split pen.transparent
    (λ t. shown_cong (λ q. visible u clip (f (i + q))) (λ q. pattern_on pen.pattern (k + i + q)) n 0 (λ q a b. seen q (omega arith) ∙ rw t refl)
    ∙ sym (shown_from (pattern_on pen.pattern) n (k + i)) ∙ rw t refl)
    (λ t. shown_all (λ q. visible u clip (f (i + q))) n 0 (λ q a b. seen q (omega arith) ∙ rw t refl) ∙ rw t refl)
  where
    seen : (q : ℕ) → q < n → visible u clip (f (i + q)) ≡ cond pen.transparent (pattern_on pen.pattern (k + i + q)) true
    seen q l =
        let e : k + (i + q) ≡ k + i + q = omega arith in
        sights q l ∙ ap something (sources (i + q) (omega (arith, c.most)))
        ∙ rw e (source_seen pen pen.transparent (pattern_on pen.pattern (k + i + q)))
