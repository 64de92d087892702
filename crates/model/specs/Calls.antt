-- The calls (01, "Calls and their refusals, in order"): one definition, exec, that every call's contract
-- cites.
use Rattle.std.specs.Prelude.{ℕ, ◌+◌, ◌%◌, List, [], ◌∷◌, ◌++◌, false, cond, ◌&&◌, ◌||◌, ltb, leb, eqb, get_or, set, length, take, drop, replicate}
use Rattle.model.specs.Ranges.{or_else}
use Rattle.model.specs.Numbers.{status_running, status_trapped, refuse_pane, refuse_end, refuse_odd, refuse_status}
use Rattle.model.specs.Numbers.{refuse_pixel, refuse_record, refuse_switch}
use Rattle.model.specs.Bitmaps.{Geometry, Row, pane_surface, pixels}
use Rattle.model.specs.Record.{Pane, fresh, no_returns, with_progress, with_returns, with_status, with_trap}
use Rattle.model.specs.Record.{with_switch}
use Rattle.model.specs.Runs.{Finish, runs}
use Rattle.model.specs.Judge.{verdict_of}
use Rattle.model.specs.Setup.{row_at, pane_at, checks, pane_bad}
pub use Rattle.model.specs.declared.Console.{Console}
use Rattle.model.specs.Replies.{Response, refused_with, accepted_with, natural, ran_values, view_values}
use Rattle.model.specs.Replies.{Ran, verdict_values}

-- the console record and the two buffers, as lent to a call and as left by it
pub record State : Type 0 where
  pub console : Console
  pub screen : List ℕ
  pub stores : List ℕ

-- the calls on a pane, with their values: put (address, bytes), start (address), run (budget), look, pixel
-- (x,y), peek (address), clear, judge (address), switch (value)
pub data Call : Type 0 where
  put : ℕ → List ℕ → Call
  start : ℕ → Call
  run : ℕ → Call
  look : Call
  pixel : ℕ → ℕ → Call
  peek : ℕ → Call
  clear : Call
  judge : ℕ → Call
  switch : ℕ → Call

-- "A call on a pane names its number"
pub record Request : Type 0 where
  pub number : ℕ
  pub call : Call

abbrev pub on : ℕ → Call → Request
on n c = record { number = n; call = c }

-- ## A part of a list, and the list with that part replaced

unfoldable pub part : List ℕ → ℕ → ℕ → List ℕ
part l at n = take n (drop at l)

-- in the form that a slice has after its middle part was lent
unfoldable pub in_part : List ℕ → ℕ → ℕ → List ℕ → List ℕ
in_part l at n new = take at l ++ (new ++ drop n (drop at l))

-- ## A call's own refusal; 0 for none

-- "Start (address): 3 odd, 2 not below the length"
abbrev pub start_refusal : Row → ℕ → ℕ
start_refusal r a = cond (eqb (a % 2) 1) refuse_odd (cond (leb r.len a) refuse_end 0)

unfoldable pub own_refusal : Row → Pane → Call → ℕ
-- "Put (address, bytes): 2 if they pass the store's end; nothing at the very end is accepted"
own_refusal r p (put a bytes) = cond (ltb r.len (a + length bytes)) refuse_end 0
own_refusal r p (start a) = start_refusal r a
-- "Run (budget, 32 bits): 4 status isn't 1"; "Refusal 4 then covers statuses 0, 2 and 3" (02, A.7)
own_refusal r p (run budget) =
    cond (eqb p.progress.status status_running || eqb p.progress.status status_trapped) 0 refuse_status
-- "Look: none of its own"
own_refusal r p look = 0
-- "Pixel (x,y from the pane's corner): 5 outside the pane"
own_refusal r p (pixel x y) = cond (ltb x r.width && ltb y r.height) 0 refuse_pixel
-- "Peek (address): 2 not below the length"
own_refusal r p (peek a) = cond (leb r.len a) refuse_end 0
-- "Clear: none"
own_refusal r p clear = 0
-- "The judge .. starts at an address in its store, refused as start refuses it" (02, A.2)
own_refusal r p (judge a) = start_refusal r a
-- "A switch value other than 0 or 1 is refused with 33, after 12" (02, A.7)
own_refusal r p (switch v) = cond (ltb 1 v) refuse_switch 0

-- ## An accepted call on one pane: its record, the screen, and its own part of the stores

pub record Outcome : Type 0 where
  pub reply : Response
  pub pane : Pane
  pub screen : List ℕ
  pub store : List ℕ

abbrev pub outcome : Response → Pane → List ℕ → List ℕ → Outcome
outcome a p screen store = record { reply = a; pane = p; screen = screen; store = store }

-- "pointer at the address, status 1, fault 0, no return addresses, the rest kept"
abbrev pub started : Pane → ℕ → Pane
started p a = with_returns (with_progress p (record { status = status_running; fault = 0; pointer = a })) no_returns

-- "run on status 4 clears the flag, makes the status 1, with budget 0 too, and goes on with the next command"
-- (02, A.7): the record that a run begins with
unfoldable pub released : Pane → Pane
released p = cond (eqb p.progress.status status_trapped) (with_status (with_trap p false) status_running) p

-- "Setting the switch", 0 off and 1 on; "Turning the switch off at status 4 makes the status 1 and keeps the flag"
-- (02, A.7)
unfoldable pub switched : Pane → ℕ → Pane
switched p v =
    with_status (with_switch p (eqb v 1))
    (cond (eqb v 0 && eqb p.progress.status status_trapped) status_running p.progress.status)

-- "else commands done, status, fault"; "Run is to report, besides its commands, the number of pixels drawn in it"
-- (02, A.5)
abbrev pub ran_of : Finish → Ran
ran_of f =
    record {
      commands = f.count;
      status = f.pane.progress.status;
      fault = f.pane.progress.fault;
      pixels = f.paint;
    }

abbrev pub ran : Finish → Outcome
ran f = outcome (accepted_with (ran_values (ran_of f))) f.pane f.screen f.store

-- "status, fault, pointer, position, pick and trap flag"
abbrev pub shown : Pane → Response
shown p =
    accepted_with (view_values (record {
      progress = p.progress;
      position = p.position;
      pick = p.flags.pick;
      trap = p.flags.trap;
    }))

unfoldable pub on_pane : Geometry → Row → Pane → List ℕ → List ℕ → Call → Outcome
-- "else they stand in the store from the address on, all else kept"
on_pane g r p screen store (put a bytes) = outcome (accepted_with []) p screen (in_part store a (length bytes) bytes)
on_pane g r p screen store (start a) = outcome (accepted_with []) (started p a) screen store
on_pane g r p screen store (run budget) = ran (runs g r budget (released p) screen store)
-- "Look, pixel and peek change nothing"
on_pane g r p screen store look = outcome (shown p) p screen store
-- "else its value"
on_pane g r p screen store (pixel x y) =
    outcome (accepted_with (natural (pixels (pane_surface g r) screen x y) ∷ [])) p screen store
-- "else the byte"
on_pane g r p screen store (peek a) = outcome (accepted_with (natural (get_or store a 0) ∷ [])) p screen store
-- "fresh pane record, store and pixels kept"
on_pane g r p screen store clear = outcome (accepted_with []) fresh screen store
-- "starts at an address in its store, .. as from a cleared pane"; "It writes nothing" (02, A.2)
on_pane g r p screen store (judge a) =
    outcome (accepted_with (verdict_values (verdict_of g r store (started fresh a)))) p screen store
on_pane g r p screen store (switch v) = outcome (accepted_with []) (switched p v) screen store

-- ## The console

-- the row, the record and the store of the pane with a number
unfoldable pub row_of : State → ℕ → Row
row_of s k = row_at s.console.rows k

unfoldable pub record_of : State → ℕ → Pane
record_of s k = pane_at s.console.panes k

-- "each call hands on only the named pane's part of it"
unfoldable pub store_of : State → ℕ → List ℕ
store_of s k = part s.stores (row_of s k).start (row_of s k).len

unfoldable pub setup_refusal : State → ℕ
setup_refusal s =
    checks s.console.geometry s.console.count s.console.rows (length s.screen) (length s.stores)

-- "Every call: set-up's checks again on the record lent; 1 no such pane; 12 ..", by the record and the
-- lengths of the two buffers; 0 for none
unfoldable pub call_checks : Console → ℕ → ℕ → ℕ → ℕ
call_checks c screen stores k =
    or_else (checks c.geometry c.count c.rows screen stores)
    (cond (leb c.count k) refuse_pane
    (cond (pane_bad c.geometry (row_at c.rows k) (pane_at c.panes k)) refuse_record 0))

abbrev pub call_refusal : State → ℕ → ℕ
call_refusal s k = call_checks s.console (length s.screen) (length s.stores) k

-- the first refusal that applies; 0 for none
unfoldable pub refusal : State → Request → ℕ
refusal s c = or_else (call_refusal s c.number) (own_refusal (row_of s c.number) (record_of s c.number) c.call)

pub record Answer : Type 0 where
  pub reply : Response
  pub state : State

-- an outcome put in place of what the pane had
unfoldable pub with_pane : State → ℕ → Outcome → Answer
with_pane s k o =
    record {
      reply = o.reply;
      state = record {
        console =
            record {
              geometry = s.console.geometry;
              count = s.console.count;
              rows = s.console.rows;
              panes = set s.console.panes k o.pane;
            };
        screen = o.screen;
        stores = in_part s.stores (row_of s k).start (row_of s k).len o.store;
      };
    }

-- an accepted call, with the pane's own part of everything handed on
unfoldable pub accepted : State → Request → Answer
accepted s c =
    with_pane s c.number
    (on_pane s.console.geometry (row_of s c.number) (record_of s c.number) s.screen (store_of s c.number)
    c.call)

-- "record and buffers keep every bit"
abbrev pub refused : State → ℕ → Answer
refused s n = record { reply = refused_with n; state = s }

-- "The first that applies is replied, alone"
unfoldable pub exec : State → Request → Answer
exec s c = cond (eqb (refusal s c) 0) (accepted s c) (refused s (refusal s c))

-- "Set-up takes a record with geometry and table, ignoring its pane records; accepted, it makes all eight
-- fresh and both buffers keep every bit"
unfoldable pub set_up : State → Answer
set_up s =
    cond (eqb (setup_refusal s) 0)
    (record {
      reply = accepted_with [];
      state = record {
        console =
            record {
              geometry = s.console.geometry;
              count = s.console.count;
              rows = s.console.rows;
              panes = replicate 8 fresh;
            };
        screen = s.screen;
        stores = s.stores;
      };
    })
    (refused s (setup_refusal s))
