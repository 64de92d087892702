-- Laws of a script cut into its lines, each with the line feed that ends it.
use Rattle.std.proofs.Common.{◌≡◌, ◌≢◌, ℕ, zero, suc, ◌+◌, ◌<◌, ◌≤◌, min, Bool, List, [], ◌∷◌, ◌++◌, length, take, drop, get_or}
use Rattle.std.proofs.Common.{refl, sym, ap, ◌∙◌, inl, inr, arith}
use Rattle.std.proofs.Common.{append-nil, length-append, take_at, take-suc}
use Rattle.std.proofs.lemmas.Bool.{true≢false, eqb-true, eq-eqb, cases_lt}
use Rattle.std.proofs.lemmas.List.{drop_at, get_or_at, nil_from_length}
use Rattle.std.specs.Prelude.{◌==◌}
use Rattle.std.specs.List.{IsFirstMatchOrLen}
use Rattle.script_fields.specs.Fields.{line_feed, lines_of}

abbrev is_feed : ℕ → Bool
is_feed b = b == line_feed

-- an empty script has no lines
pub lines_of_none : (l : List ℕ) → length l ≡ 0 → lines_of l ≡ []
unfolding lines_of
lines_of_none [] h = refl
lines_of_none (b ∷ l) h = absurd (omega arith)

-- the first line ends at the first line feed, or at the end
lines_of_first :
    (l : List ℕ) (i : ℕ) → i < length l → IsFirstMatchOrLen is_feed l i → lines_of l ≡ take i l ∷ lines_of (drop (suc i) l)
unfolding lines_of
lines_of_first [] i h first = absurd (omega arith)
lines_of_first (b ∷ l) zero h first = rw (first.1 h b)
lines_of_first (b ∷ l) (suc i) h first =
    let other = first.0 0 b (omega arith) (omega arith) in
    let rest = lines_of_first l i (omega arith) ((λ k d low high. first.0 (suc k) d (omega arith) (omega arith)), (λ more d. first.1 (omega arith) d)) in
    rw (other, rest)

-- or there is one line
lines_of_one : (l : List ℕ) → 0 < length l → IsFirstMatchOrLen is_feed l (length l) → lines_of l ≡ l ∷ []
unfolding lines_of
lines_of_one [] h first = absurd (omega arith)
lines_of_one (b ∷ []) h first = rw (first.0 0 b (omega arith) (omega arith))
lines_of_one (b ∷ c ∷ l) h first =
    let other = first.0 0 b (omega arith) (omega arith) in
    let rest = lines_of_one (c ∷ l) (omega arith) ((λ k d low high. first.0 (suc k) d (omega arith) (omega arith)), (λ more d. absurd (omega arith))) in
    rw (other, rest)

-- The first line of what is left, with its line feed, is cut off: the text before the feed is the next line.
module _ (rest line after text : List ℕ) (i : ℕ) (cut : rest ≡ line ++ after) (count : length line ≡ min (i + 1) (length rest))
    (first : IsFirstMatchOrLen is_feed rest i)
    (ended : (front : List ℕ) → line ≡ front ++ line_feed ∷ [] → text ≡ front)
    (unended : ((front : List ℕ) → line ≢ front ++ line_feed ∷ []) → text ≡ line) where
  -- where a line feed ends it
  next_ended : i < length rest → lines_of rest ≡ text ∷ lines_of after
  next_ended more =
      let long : length line ≡ suc i = omega arith in
      let feed : get_or rest i 0 ≡ line_feed = eqb-true _ _ (first.1 more 0) in
      let front : line ≡ take i rest ++ line_feed ∷ [] =
      sym (take_at line after (suc i) long) ∙ ap (take (suc i)) (sym cut) ∙ take-suc rest i 0 more ∙ ap (λ b. take i rest ++ b ∷ []) feed in
      let back : drop (suc i) rest ≡ after = ap (drop (suc i)) cut ∙ drop_at line after (suc i) long in
      lines_of_first rest i more first ∙ ap (λ l. take i rest ∷ lines_of l) back ∙ ap (λ l. l ∷ lines_of after) (sym (ended _ front))

  -- where the script ends
  next_last : length rest ≤ i → 0 < length rest → lines_of rest ≡ text ∷ lines_of after
  next_last past some =
      let fewer = ap length cut ∙ length-append line after in
      let none : after ≡ [] = nil_from_length after (omega arith) in
      let whole : line ≡ rest = sym (cut ∙ ap (λ l. line ++ l) none ∙ append-nil line) in
      let within = lines_of_one rest some ((λ k d low high. first.0 k d low (omega arith)), (λ more d. absurd (omega arith))) in
      let kept : text ≡ line = unended (λ front e.
      let long = ap length e ∙ length-append front (line_feed ∷ []) in
      let feed : get_or rest (length front) line_feed ≡ line_feed =
      ap (λ l. get_or l (length front) line_feed) (sym whole ∙ e) ∙ get_or_at front line_feed [] line_feed (length front) refl in
      true≢false (sym (eq-eqb _ _ feed) ∙ first.0 (length front) line_feed (omega arith) (omega arith))) in
      within ∙ ap (λ l. l ∷ []) (sym whole ∙ sym kept) ∙ ap (λ l. text ∷ l) (sym (lines_of_none after (ap length none)))

  pub lines_of_next : 0 < length rest → lines_of rest ≡ text ∷ lines_of after
  lines_of_next some =
      elim (cases_lt i (length rest)) [ inl more ↦ next_ended more | inr past ↦ next_last past some ]
