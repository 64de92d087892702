-- Demand 3, over whole lists of calls and over exec, the definition that every call's contract cites: "Set-up
-- accepts two consoles of equal screen size and depth. One pane has the same number and table row in both,
-- and its pixels and store begin equal. Each console then takes a list of the calls put, start, run, look,
-- pixel, peek and clear, with any pane numbers, refused calls included. Each call gets the record and buffers
-- that the one before left, the first those that set-up left. For every two such lists with the same calls on
-- that pane, in the same order, whatever the other calls put, drew or read, each call on it gets the same
-- reply in both runs, and after the lists its pixels, store and record are the same. And after every such
-- list on any console that set-up accepted, each bit of both buffers that is in no pane's pixels or store has
-- its first value." Paper 01, "For those who test a delivery", fixes the words; it is quoted where a
-- definition states it. The judge (02, A.2) and the trap switch (A.7) are such calls too: "the two-run guarantee
-- includes both" (A.7).
use Rattle.std.specs.Prelude.{◌≡◌, Bool, true, false, List, [], ◌∷◌, ℕ, ◌+◌, ◌/◌, ◌≤◌, ◌<◌, eqb}
use Rattle.model.specs.declared.Geometry.{Geometry}
use Rattle.model.specs.declared.Row.{Row}
use Rattle.model.specs.Words.{bit_at}
use Rattle.model.specs.Bitmaps.{pane_surface, place_bit, pixels}
use Rattle.model.specs.Replies.{Response, accepted_with}
use Rattle.model.specs.Calls.{State, Request, exec, set_up, row_of, record_of, part}

-- ## Whole lists of calls

-- A Request is one "of the calls put, start, run, look, pixel, peek and clear", or judge or switch, "with any
-- pane numbers, refused calls included"; exec does it or refuses it.

-- "Each call gets the record and buffers that the one before left": what a list of calls leaves, the first of
-- them lent the state s
unfoldable pub after : State → List Request → State
after s [] = s
after s (c ∷ cs) = after (exec s c).state cs

-- x before the others, where the test passes
abbrev pub cons_if {ℓ} : {A : Type ℓ} → Bool → A → List A → List A
cons_if true x xs = x ∷ xs
cons_if false x xs = xs

-- "A call on a pane names its number": the calls on pane k, in order
unfoldable pub calls_on : ℕ → List Request → List Request
calls_on k [] = []
calls_on k (c ∷ cs) = cons_if (eqb c.number k) c (calls_on k cs)

-- "A reply is the refusal, or acceptance with its values": the replies to the calls on pane k, in order
unfoldable pub replies_on : ℕ → State → List Request → List Response
replies_on k s [] = []
replies_on k s (c ∷ cs) = cons_if (eqb c.number k) (exec s c).reply (replies_on k (exec s c).state cs)

unfoldable pub Accepted : State → Type 0
Accepted a = (set_up a).reply ≡ accepted_with []

-- ## Two runs

-- "A pane's pixels are all (x,y) below its width and height": two screens have the same values there
unfoldable pub SamePixels : Geometry → Row → List ℕ → List ℕ → Type 0
SamePixels g r s t =
    (x y : ℕ) → x < r.width → y < r.height → pixels (pane_surface g r) s x y ≡ pixels (pane_surface g r) t x y

-- "its store the bytes from store start over store length"
unfoldable pub store_in : Row → List ℕ → List ℕ
store_in r stores = part stores r.start r.len

-- What the sentence supposes: two consoles a and b as lent to set-up ("Begin and first mean as lent to
-- set-up"), the lists cs and ds that they then take, and one pane, of number k and row r, on screens of
-- geometry g. "The other rows, their number and the buffers' lengths may differ", and so may all other calls:
-- nothing is said of them.
pub record TwoRuns (g : Geometry) (k : ℕ) (r : Row) (a b : State) (cs ds : List Request) : Type 0 where
  -- "Set-up accepts two consoles"
  pub accepts_a : Accepted a
  pub accepts_b : Accepted b
  -- "of equal screen size and depth"
  pub geometry_a : a.console.geometry ≡ g
  pub geometry_b : b.console.geometry ≡ g
  -- "One pane has the same number .. in both": "The panes are the rows of each console's table; a call whose
  -- number has no row there is on no pane"
  pub number_a : k < a.console.count
  pub number_b : k < b.console.count
  -- ".. and table row"
  pub row_a : row_of a k ≡ r
  pub row_b : row_of b k ≡ r
  -- "and its pixels .. begin equal"
  pub pixels : SamePixels g r a.screen b.screen
  -- ".. and store"
  pub store : store_in r a.stores ≡ store_in r b.stores
  -- "the same calls on that pane, in the same order": "calls are the same if kind, values and bytes are"
  pub calls : calls_on k cs ≡ calls_on k ds

-- What it then says, "the first" call of each list lent what "set-up left"
pub record Alike (g : Geometry) (k : ℕ) (r : Row) (a b : State) (cs ds : List Request) : Type 0 where
  -- "each call on it gets the same reply in both runs"
  pub replies : replies_on k (set_up a).state cs ≡ replies_on k (set_up b).state ds
  -- "and after the lists its pixels .. are the same"
  pub pixels : SamePixels g r (after (set_up a).state cs).screen (after (set_up b).state ds).screen
  -- ".. store .."
  pub store : store_in r (after (set_up a).state cs).stores ≡ store_in r (after (set_up b).state ds).stores
  -- ".. and record": "its record the one at its number"
  pub pane : record_of (after (set_up a).state cs) k ≡ record_of (after (set_up b).state ds) k

-- ## Bits in no pane

-- bit n of the screen is in a pixel (x,y) of the pane
pub record InPixels (g : Geometry) (r : Row) (n : ℕ) : Type 0 where
  pub x : ℕ
  pub y : ℕ
  pub x_in : x < r.width
  pub y_in : y < r.height
  pub from : place_bit (pane_surface g r) x y ≤ n
  pub to : n < place_bit (pane_surface g r) x y + g.depth

-- bit n of the stores buffer is in a byte of the pane's store
pub record InStore (r : Row) (n : ℕ) : Type 0 where
  pub from : r.start ≤ n / 8
  pub to : n / 8 < r.start + r.len

unfoldable pub InNoPixels : State → ℕ → Type 0
InNoPixels a n = (k : ℕ) → k < a.console.count → InPixels a.console.geometry (row_of a k) n → ⊥

unfoldable pub InNoStore : State → ℕ → Type 0
InNoStore a n = (k : ℕ) → k < a.console.count → InStore (row_of a k) n → ⊥

-- "each bit of both buffers that is in no pane's pixels or store has its first value"
pub record Untouched (a : State) (cs : List Request) : Type 0 where
  pub screen : (n : ℕ) → InNoPixels a n → bit_at (after (set_up a).state cs).screen n ≡ bit_at a.screen n
  pub stores : (n : ℕ) → InNoStore a n → bit_at (after (set_up a).state cs).stores n ≡ bit_at a.stores n

-- ## The demand

-- For the code: each call of the console answers and leaves, refused or not, what exec says of the record and
-- buffers that it was lent, and set-up what set_up says (the contracts of the calls that
-- crates/console/src/lib.rt names, without a requires). So a list of calls made on the code, each lent what
-- the one before left, goes through the states of `after` and gets the replies of `replies_on`, and this
-- record speaks of it.
pub record Isolation : Type 0 where
  pub two_runs : (g : Geometry) (k : ℕ) (r : Row) (a b : State) (cs ds : List Request) → TwoRuns g k r a b cs ds
      → Alike g k r a b cs ds
  -- "And after every such list on any console that set-up accepted"
  pub untouched : (a : State) (cs : List Request) → Accepted a → Untouched a cs
