-- The example holds: all of it is computed, but for the replies in the second run, which the theorem gives.
use mathlib.Core.Path.{◌≡◌, refl, sym, ◌∙◌}
use Prim.Native.Nat.{zero, suc}
use native.Mathlib.Omega.{arith}
use Rattle.model.specs.Words.{bit_at}
use Rattle.model.specs.Calls.{set_up}
use Rattle.model.proofs.Computing.{machine}
use Rattle.isolation.specs.TwoRuns.{after, calls_on, replies_on, Accepted, SamePixels, store_in, TwoRuns, Alike, InNoPixels, InNoStore}
use Rattle.isolation.specs.Example.{six_by_two, row, first, second, first_calls, second_calls, replies, Worked}
use Rattle.isolation.proofs.Theorem.{isolation}

begin_equal : SamePixels six_by_two row first.screen second.screen
unfolding machine SamePixels
begin_equal zero zero h k = refl
begin_equal zero (suc zero) h k = refl
begin_equal (suc zero) zero h k = refl
begin_equal (suc zero) (suc zero) h k = refl
begin_equal zero (suc (suc y)) h k = absurd (omega arith)
begin_equal (suc zero) (suc (suc y)) h k = absurd (omega arith)
begin_equal (suc (suc x)) y h k = absurd (omega arith)

supposed : TwoRuns six_by_two 0 row first second first_calls second_calls
unfolding machine calls_on Accepted store_in
supposed = record {
  accepts_a = refl;
  accepts_b = refl;
  geometry_a = refl;
  geometry_b = refl;
  number_a = omega arith;
  number_b = omega arith;
  row_a = refl;
  row_b = refl;
  pixels = begin_equal;
  store = refl;
  calls = refl;
}

pub alike : Alike six_by_two 0 row first second first_calls second_calls
alike = isolation.two_runs six_by_two 0 row first second first_calls second_calls supposed

first_replies : replies_on 0 (set_up first).state first_calls ≡ replies
unfolding machine replies_on
first_replies = refl

bit_alone : InNoPixels first 12
unfolding machine InNoPixels
bit_alone zero h p = omega (arith, p.x_in, p.from, p.to)
bit_alone (suc zero) h p = omega (arith, p.x_in, p.y_in, p.from, p.to)
bit_alone (suc (suc k)) h p = omega arith

byte_alone : InNoStore first 384
unfolding machine InNoStore
byte_alone zero h p = omega (arith, p.to)
byte_alone (suc zero) h p = omega (arith, p.from)
byte_alone (suc (suc k)) h p = omega arith

pub worked : Worked
unfolding machine after
worked = record {
  supposed = supposed;
  first_replies = first_replies;
  second_replies = sym alike.replies ∙ first_replies;
  first_screen = refl;
  second_screen = refl;
  bit_alone = bit_alone;
  byte_alone = byte_alone;
}

pub bit_kept : bit_at (after (set_up first).state first_calls).screen 12 ≡ bit_at first.screen 12
bit_kept = (isolation.untouched first first_calls supposed.accepts_a).screen 12 bit_alone

pub byte_kept : bit_at (after (set_up first).state first_calls).stores 384 ≡ bit_at first.stores 384
byte_kept = (isolation.untouched first first_calls supposed.accepts_a).stores 384 byte_alone
