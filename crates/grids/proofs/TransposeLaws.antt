-- Rows and columns exchanged: where each bit of four rows stood before, from step to step.
use mathlib.Core.Path.{◌≡◌, refl, sym, ap, ap₂, ◌∙◌}
use mathlib.Core.Logic.{inl}
use mathlib.Core.Bool.{Bool, true, false, cond, ◌&&◌}
use mathlib.Core.List.{List}
use Prim.Native.Nat.{ℕ, ◌+◌, ◌-◌, ◌*◌, ◌/◌, ◌%◌, ◌^◌, ◌<◌}
use native.Mathlib.Omega.{arith}
use native.Mathlib.Nat.{mul_comm}
use native.Mathlib.Decide.{dec_lt}
use lib.Bits.{bit_and, bit_xor}
use lib.Pow.{pow_pos}
use lib.ListN.{get_or}
use Rattle.model.specs.Words.{bit}
use Rattle.model.proofs.BitLaws.{bit_shr}
use Rattle.model.proofs.Decisions.{and_false}
use Rattle.raster.proofs.BitLaws.{bit_zero, bit_mod, bit_shl, bit_and_lem, bit_xor_lem, differs, mux_bit}
use Rattle.raster.proofs.Table.{each}
use Rattle.strips.proofs.BitParts.{bit_low, bit_beyond}
use Rattle.grids.specs.Grids.{Transposed, grid_bit, FourRows, WithRows, Exchanged, Turned, in_block, Blockwise}
use Rattle.grids.specs.declared.Pair.{Pair}

-- ## Bits exchanged

-- a shift up leaves no bits below bit k
shl_low : (x k i : ℕ) → i < k → bit (x * 2 ^ k) i ≡ false
shl_low x k i h =
    let e : x * 2 ^ k ≡ 0 + 2 ^ k * x = omega (arith, mul_comm x (2 ^ k)) in
    ap (λ (z : ℕ). bit z i) e ∙ bit_low k 0 x (pow_pos k) i h ∙ bit_zero i

differs_comm : (x y : Bool) → differs x y ≡ differs y x
differs_comm true true = refl
differs_comm true false = refl
differs_comm false true = refl
differs_comm false false = refl

differs_false : (x : Bool) → differs x false ≡ x
differs_false true = refl
differs_false false = refl

module _ (a b k mask : ℕ) where
  -- the bits of a that change
  abbrev changed : ℕ
  changed = bit_and (bit_xor a (b / 2 ^ k)) mask

  changed_bit : (i : ℕ) → bit changed i ≡ (differs (bit a i) (bit b (k + i)) && bit mask i)
  changed_bit i =
      bit_and_lem i (bit_xor a (b / 2 ^ k)) mask
      ∙ ap (λ (z : Bool). z && bit mask i) (bit_xor_lem i a (b / 2 ^ k) ∙ ap (differs (bit a i)) (bit_shr b k i))

  -- .. and those of b
  changed_up : (i : ℕ) → i < 64 → bit (changed * 2 ^ k % 2 ^ 64) i ≡ (differs (bit b i) (bit a (i - k)) && bit (mask * 2 ^ k) i)
  changed_up i h = bit_mod 64 (changed * 2 ^ k) i h ∙ go (dec_lt i k)
    where
      go : Dec (i < k) → bit (changed * 2 ^ k) i ≡ (differs (bit b i) (bit a (i - k)) && bit (mask * 2 ^ k) i)
      go (yes l) = shl_low changed k i l ∙ sym (and_false (differs (bit b i) (bit a (i - k))) (bit (mask * 2 ^ k) i) (shl_low mask k i l))
      go (no l) =
          let e : k + (i - k) ≡ i = omega arith in
          rw e at (bit_shl changed k (i - k) ∙ changed_bit (i - k)
          ∙ ap₂ (λ (x y : Bool). x && y) (differs_comm (bit a (i - k)) (bit b (k + (i - k)))) (sym (bit_shl mask k (i - k))))

  first_bit : (i : ℕ) → bit (bit_xor a changed) i ≡ cond (bit mask i) (bit b (k + i)) (bit a i)
  first_bit i = bit_xor_lem i a changed ∙ ap (differs (bit a i)) (changed_bit i) ∙ mux_bit (bit mask i) (bit a i) (bit b (k + i))

  pub exchanged_is : Exchanged a b k mask (record { first = bit_xor a changed; second = bit_xor b (changed * 2 ^ k % 2 ^ 64) })
  exchanged_is = record {
    first = first_bit;
    second = λ i h. bit_xor_lem i b (changed * 2 ^ k % 2 ^ 64) ∙ ap (differs (bit b i)) (changed_up i h)
        ∙ mux_bit (bit (mask * 2 ^ k) i) (bit b i) (bit a (i - k));
  }

-- no bit is exchanged twice
once : (m n x u d : Bool) → (m && n) ≡ false → differs (cond m u x) (differs x d && n) ≡ cond m u (cond n d x)
once true n x u d e = ap (differs u) (and_false (differs x d) n e) ∙ differs_false u
once false n x u d e = mux_bit n x d

pub turned_is : (q k mask : ℕ) → bit_and mask (mask * 2 ^ k) ≡ 0
    → Turned q k mask (bit_xor (bit_xor q (changed q q k mask)) (changed q q k mask * 2 ^ k % 2 ^ 64))
turned_is q k mask e = record {
  bits = λ i h. bit_xor_lem i (bit_xor q (changed q q k mask)) (changed q q k mask * 2 ^ k % 2 ^ 64)
      ∙ ap₂ differs (first_bit q q k mask i) (changed_up q q k mask i h)
      ∙ once (bit mask i) (bit (mask * 2 ^ k) i) (bit q i) (bit q (k + i)) (bit q (i - k))
      (sym (bit_and_lem i mask (mask * 2 ^ k)) ∙ ap (λ (z : ℕ). bit z i) e ∙ bit_zero i);
}

-- ## Where each bit stood

-- bit i of a number is bit f i of what it is made of
record Shows (from : ℕ → Bool) (f : ℕ → ℕ) (q : ℕ) : Type 0 where
  bits : (i : ℕ) → i < 64 → bit q i ≡ from (f i)

-- where bit i of the first number stood before an exchange, and of the second
abbrev first_from : ℕ → ℕ → (ℕ → ℕ) → (ℕ → ℕ) → ℕ → ℕ
first_from k mask f g i = cond (bit mask i) (g (k + i)) (f i)

abbrev second_from : ℕ → ℕ → (ℕ → ℕ) → (ℕ → ℕ) → ℕ → ℕ
second_from k mask f g i = cond (bit (mask * 2 ^ k) i) (f (i - k)) (g i)

chosen : (from : ℕ → Bool) (m x y : Bool) (s t : ℕ) → x ≡ from s → y ≡ from t → cond m x y ≡ from (cond m s t)
chosen from true x y s t p q = p
chosen from false x y s t p q = q

-- no bit comes from beyond the number
within : (from : ℕ → Bool) (k mask : ℕ) → mask < 2 ^ (64 - k) → (i : ℕ) (x y : Bool) (s t : ℕ) → (k + i < 64 → x ≡ from s) → y ≡ from t
    → cond (bit mask i) x y ≡ from (cond (bit mask i) s t)
within from k mask small i x y s t p q = go (dec_lt (k + i) 64)
  where
    go : Dec (k + i < 64) → cond (bit mask i) x y ≡ from (cond (bit mask i) s t)
    go (yes l) = chosen from (bit mask i) x y s t (p l) q
    go (no l) = rw (bit_beyond (64 - k) mask i small (omega arith)) q

module _ {from : ℕ → Bool} {f g : ℕ → ℕ} {a b k mask : ℕ} {r : Pair} (e : Exchanged a b k mask r) (p : Shows from f a) (q : Shows from g b) where
  first_shows : mask < 2 ^ (64 - k) → Shows from (first_from k mask f g) r.first
  first_shows small = record { bits = λ i h. e.first i ∙ within from k mask small i _ _ (g (k + i)) (f i) (q.bits (k + i)) (p.bits i h) }

  second_shows : Shows from (second_from k mask f g) r.second
  second_shows = record {
    bits = λ i h. e.second i h ∙ chosen from (bit (mask * 2 ^ k) i) _ _ (f (i - k)) (g i) (p.bits (i - k) (omega arith)) (q.bits i h);
  }

turned_shows : {from : ℕ → Bool} {f : ℕ → ℕ} {q k mask r : ℕ} → Turned q k mask r → Shows from f q → mask < 2 ^ (64 - k)
    → Shows from (first_from k mask (second_from k mask f f) f) r
turned_shows {from} {f} {q} {k} {mask} {r} e p small = record {
  bits = λ i h. e.bits i h
      ∙ within from k mask small i _ _ (f (k + i)) (second_from k mask f f i) (p.bits (k + i))
      (chosen from (bit (mask * 2 ^ k) i) _ _ (f (i - k)) (f i) (p.bits (i - k) (omega arith)) (p.bits i h));
}

-- ## Within four rows

-- where bit i of four rows stood before those 2 apart were exchanged, and before neighbours were too
abbrev two_apart : ℕ → ℕ
two_apart i = first_from 34 0x33333333 (second_from 34 0x33333333 (λ i. i) (λ i. i)) (λ i. i) i

abbrev one_apart : ℕ → ℕ
one_apart i = first_from 17 0x0000555500005555 (second_from 17 0x0000555500005555 two_apart two_apart) two_apart i

block : (i : ℕ) → i < 64 → one_apart i ≡ in_block i
unfolding bit
block i h = each 64 one_apart in_block refl i h

pub inner_is : {q s r : ℕ} → Turned q 34 0x33333333 s → Turned s 17 0x0000555500005555 r → Blockwise q r
inner_is {q} {s} {r} e f =
    let p : Shows (bit q) (λ i. i) q = record { bits = λ i h. refl } in
    let t : Shows (bit q) one_apart r = turned_shows f (turned_shows e p (omega arith)) (omega arith) in
    record { bits = λ i h. t.bits i h ∙ ap (bit q) (block i h) }

inner_shows : {from : ℕ → Bool} {f : ℕ → ℕ} {q r : ℕ} → Shows from f q → Blockwise q r → Shows from (λ i. f (in_block i)) r
inner_shows {from} {f} {q} {r} p e = record { bits = λ i h. e.bits i h ∙ p.bits (in_block i) (omega arith) }

-- ## All rows

-- where bit p stood before rows and columns were exchanged
abbrev crossed : ℕ → ℕ
crossed p = 16 * (15 - p % 16) + (15 - p / 16)

-- the first n times four rows are transposed
record RowsCrossed (rows : List ℕ) (n : ℕ) (r : List ℕ) : Type 0 where
  bits : (p : ℕ) → p < 64 * n → grid_bit r p ≡ grid_bit rows (crossed p)

crossed_none : (rows r : List ℕ) → RowsCrossed rows 0 r
crossed_none rows r = record { bits = λ p h. absurd (omega arith) }

-- the next four
crossed_next : (rows : List ℕ) (n : ℕ) (old : List ℕ) (q : ℕ) (new : List ℕ) (f : ℕ → ℕ) → RowsCrossed rows n old → WithRows old n q new
    → Shows (grid_bit rows) f q → ((i : ℕ) → i < 64 → f i ≡ crossed (64 * n + i)) → RowsCrossed rows (n + 1) new
unfolding grid_bit
crossed_next rows n old q new f a w s e = record { bits = λ p h. go p h (dec_lt p (64 * n)) }
  where
    go : (p : ℕ) → p < 64 * (n + 1) → Dec (p < 64 * n) → bit (get_or new (p / 16) 0) (p % 16) ≡ grid_bit rows (crossed p)
    go p h (yes l) = ap (λ (v : ℕ). bit v (p % 16)) (w.outside (p / 16) (inl (omega arith))) ∙ a.bits p l
    go p h (no l) =
        let i : ℕ = p - 64 * n in
        let m : 4 * n + i / 16 ≡ p / 16 = omega arith in
        let b : 16 * (i / 16) + p % 16 ≡ i = omega arith in
        let z : 64 * n + i ≡ p = omega arith in
        ap (λ (v : ℕ). bit v (p % 16)) (rw m at (w.inside (i / 16) (omega arith)))
        ∙ bit_mod 16 (q / 2 ^ (16 * (i / 16))) (p % 16) (omega arith) ∙ bit_shr q (16 * (i / 16)) (p % 16) ∙ ap (bit q) b
        ∙ s.bits i (omega arith) ∙ ap (grid_bit rows) (e i (omega arith) ∙ ap crossed z)

transposed_all : (rows r : List ℕ) → RowsCrossed rows 4 r → Transposed rows r
unfolding grid_bit
transposed_all rows r a = record {
  cells = λ i j h k.
      let p : ℕ = 16 * j + (15 - i) in
      let m : p / 16 ≡ j = omega arith in
      let n : p % 16 ≡ 15 - i = omega arith in
      let u : crossed p / 16 ≡ i = omega arith in
      let v : crossed p % 16 ≡ 15 - j = omega arith in
      rw (u, v, m, n) at (a.bits p (omega arith));
}

-- where bit i of four rows stands in all rows
abbrev rows_from : ℕ → ℕ → ℕ
rows_from w i = 64 * w + i

-- .. and stood before rows 8 apart were exchanged
abbrev upper : ℕ → ℕ → ℕ
upper w i = first_from 8 0x00FF00FF00FF00FF (rows_from w) (rows_from (w + 2)) i

abbrev lower : ℕ → ℕ → ℕ
lower w i = second_from 8 0x00FF00FF00FF00FF (rows_from w) (rows_from (w + 2)) i

-- .. before rows 4 apart were too, and those within four
abbrev ahead : (ℕ → ℕ → ℕ) → ℕ → ℕ
ahead f i = first_from 4 0x0F0F0F0F0F0F0F0F (f 0) (f 1) (in_block i)

abbrev behind : (ℕ → ℕ → ℕ) → ℕ → ℕ
behind f i = second_from 4 0x0F0F0F0F0F0F0F0F (f 0) (f 1) (in_block i)

-- together that is the transposition
rows_0 : (i : ℕ) → i < 64 → ahead upper i ≡ crossed (64 * 0 + i)
unfolding bit
rows_0 = each 64 (ahead upper) (λ i. crossed (64 * 0 + i)) refl

rows_4 : (i : ℕ) → i < 64 → behind upper i ≡ crossed (64 * 1 + i)
unfolding bit
rows_4 = each 64 (behind upper) (λ i. crossed (64 * 1 + i)) refl

rows_8 : (i : ℕ) → i < 64 → ahead lower i ≡ crossed (64 * 2 + i)
unfolding bit
rows_8 = each 64 (ahead lower) (λ i. crossed (64 * 2 + i)) refl

rows_12 : (i : ℕ) → i < 64 → behind lower i ≡ crossed (64 * 3 + i)
unfolding bit
rows_12 = each 64 (behind lower) (λ i. crossed (64 * 3 + i)) refl

rows_shown : {rows : List ℕ} {w q : ℕ} → FourRows rows w q → Shows (grid_bit rows) (rows_from w) q
rows_shown r = record { bits = r.bits }

pub transposed_is : {rows : List ℕ} {q₀ q₁ q₂ q₃ : ℕ} {a b c d : Pair} → FourRows rows 0 q₀ → FourRows rows 1 q₁ → FourRows rows 2 q₂ → FourRows rows 3 q₃
    → Exchanged q₀ q₂ 8 0x00FF00FF00FF00FF a → Exchanged q₁ q₃ 8 0x00FF00FF00FF00FF b
    → Exchanged a.first b.first 4 0x0F0F0F0F0F0F0F0F c → Exchanged a.second b.second 4 0x0F0F0F0F0F0F0F0F d
    → {i₀ i₁ i₂ i₃ : ℕ} → Blockwise c.first i₀ → Blockwise c.second i₁ → Blockwise d.first i₂ → Blockwise d.second i₃
    → {t₀ t₁ t₂ t₃ t₄ : List ℕ} → WithRows t₀ 0 i₀ t₁ → WithRows t₁ 1 i₁ t₂ → WithRows t₂ 2 i₂ t₃ → WithRows t₃ 3 i₃ t₄ → Transposed rows t₄
transposed_is {rows} {a = a} {b = b} f₀ f₁ f₂ f₃ ea eb ec ed b₀ b₁ b₂ b₃ {t₀} w₀ w₁ w₂ w₃ =
    let first : Shows (grid_bit rows) (upper 0) a.first = first_shows ea (rows_shown f₀) (rows_shown f₂) (omega arith) in
    let second : Shows (grid_bit rows) (upper 1) b.first = first_shows eb (rows_shown f₁) (rows_shown f₃) (omega arith) in
    let third : Shows (grid_bit rows) (lower 0) a.second = second_shows ea (rows_shown f₀) (rows_shown f₂) in
    let fourth : Shows (grid_bit rows) (lower 1) b.second = second_shows eb (rows_shown f₁) (rows_shown f₃) in
    transposed_all rows _
    (crossed_next rows 3 _ _ _ (behind lower)
    (crossed_next rows 2 _ _ _ (ahead lower)
    (crossed_next rows 1 _ _ _ (behind upper)
    (crossed_next rows 0 _ _ _ (ahead upper) (crossed_none rows t₀) w₀ (inner_shows (first_shows ec first second (omega arith)) b₀) rows_0)
    w₁ (inner_shows (second_shows ec first second) b₁) rows_4)
    w₂ (inner_shows (first_shows ed third fourth (omega arith)) b₂) rows_8)
    w₃ (inner_shows (second_shows ed third fourth) b₃) rows_12)
