-- Pixels stamped one after another: from one to the next, and how far a walk has come.
use Rattle.std.proofs.Common.{◌≡◌, ℕ, zero, suc, ◌+◌, ◌-◌, ◌<◌, ◌≤◌, List, length, sym, refl, ap, ◌∙◌, add-one, arith, length-set}
use Rattle.stamps.specs.Stamps.{stamp_byte, stamped}
use Rattle.traces.specs.declared.walks.Spot.{Spot}
use Rattle.traces.specs.declared.walks.Steps.{Steps}
use Rattle.traces.specs.Walks.{next_spot, spot_no, Walkable, walked}

module _ (stamps : List ℕ) (base : ℕ) (from : Spot) (g : Steps) (on : ℕ → ℕ) (old : List ℕ) where
  more_walked : (k : ℕ) → walked stamps base from g on (k + 1) old ≡ stamped stamps base (spot_no from g k).bit (on k) (walked stamps base from g on k old)
  unfolding walked
  more_walked k = ap (λ (m : ℕ). walked stamps base from g on m old) (add-one k)

  more_spots : (k : ℕ) → spot_no from g (k + 1) ≡ next_spot (spot_no from g k) g
  unfolding spot_no
  more_spots k = ap (spot_no from g) (add-one k)

  walked_length : (k : ℕ) → length (walked stamps base from g on k old) ≡ length old
  unfolding walked stamped
  walked_length zero = refl
  walked_length (suc k) = length-set (walked stamps base from g on k old) _ _ ∙ walked_length k

  -- i pixels are stamped, and the spot is that of the last
  pub record Walking (buffer : List ℕ) (spot : Spot) (i : ℕ) : Type 0 where
    pub drawn : buffer ≡ walked stamps base from g on i old
    pub at : spot ≡ spot_no from g (i - 1)

  pub walking_first : {buffer : List ℕ} → buffer ≡ stamped stamps base from.bit (on 0) old → Walking buffer from 1
  unfolding walked spot_no
  walking_first e = record { drawn = e; at = refl }

  module _ {buffer : List ℕ} {spot : Spot} {i : ℕ} (w : Walking buffer spot i) where
    pub walking_length : length buffer ≡ length old
    walking_length = ap length w.drawn ∙ walked_length i

    -- the next spot
    walking_spot : 1 ≤ i → {spot' : Spot} → spot' ≡ next_spot spot g → spot' ≡ spot_no from g i
    walking_spot h e =
        let k : i - 1 + 1 ≡ i = omega arith in
        e ∙ ap (λ (z : Spot). next_spot z g) w.at ∙ sym (more_spots (i - 1)) ∙ ap (spot_no from g) k

    pub walking_next : 1 ≤ i → {spot' : Spot} {buffer' : List ℕ} → spot' ≡ next_spot spot g → buffer' ≡ stamped stamps base spot'.bit (on i) buffer
        → Walking buffer' spot' (i + 1)
    walking_next h e b =
        let a = walking_spot h e in
        let k : i + 1 - 1 ≡ i = omega arith in
        record {
          drawn =
              b ∙ ap (λ (z : Spot). stamped stamps base z.bit (on i) buffer) a
              ∙ ap (stamped stamps base (spot_no from g i).bit (on i)) w.drawn ∙ sym (more_walked i);
          at = rw k a;
        }

    -- the next stamp's byte lies in the buffer
    pub walking_in : {n m : ℕ} → Walkable base from g n m (length old) → 1 ≤ i → i < n → {spot' : Spot} → spot' ≡ next_spot spot g
        → stamp_byte base spot'.bit < length buffer
    walking_in can h k e = rw (walking_length, walking_spot h e) (can.inside i k)
