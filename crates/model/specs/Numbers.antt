-- The paper's numbers for statuses, faults and refusals, each once.
use Rattle.std.specs.Prelude.{ℕ, Ok, Err}
use Rattle.std.specs.declared.result.Result.{Result}
pub use Rattle.model.specs.declared.Fault.{Fault}
use Rattle.model.specs.declared.Fault.TheVariants as fault
pub use Rattle.model.specs.declared.Refusal.{Refusal}
use Rattle.model.specs.declared.Refusal.TheVariants as refusal

-- ## "Status: 0 parked, 1 running, 2 ended, 3 faulted"

abbrev pub status_parked : ℕ
status_parked = 0

abbrev pub status_running : ℕ
status_running = 1

abbrev pub status_ended : ℕ
status_ended = 2

abbrev pub status_faulted : ℕ
status_faulted = 3

-- "a CHAR that met a T .. leaves status 4" (02, A.7)
abbrev pub status_trapped : ℕ
status_trapped = 4

-- ## Faults

-- "An unknown opcode gives 20"
abbrev pub fault_opcode : ℕ
fault_opcode = 20

-- "A pointer that is odd or whose word is outside the store gives fault 21"; "Parameter words outside the
-- store give 21"
abbrev pub fault_fetch : ℕ
fault_fetch = 21

-- "DEF_BITMAP: 22 rule broken"; "BIT_BLT_M 22"
abbrev pub fault_bitmap : ℕ
fault_bitmap = 22

-- "DEF_CLIP_RECT: 23 no bitmap"; "Drawing commands: 23"
abbrev pub fault_no_bitmap : ℕ
fault_no_bitmap = 23

-- "24 outside it"
abbrev pub fault_clip : ℕ
fault_clip = 24

-- "DEF_CHAR_SET: 25 odd base"; "25 an array, string, offset word or descriptor .."
abbrev pub fault_data : ℕ
fault_data = 25

-- "CALL: 26 eight kept"
abbrev pub fault_call : ℕ
fault_call = 26

-- "RETURN: 27 none kept"
abbrev pub fault_return : ℕ
fault_return = 27

-- "CHAR 28 no font"
abbrev pub fault_no_font : ℕ
fault_no_font = 28

-- "29 a copy's dx or dy negative .."
abbrev pub fault_copy : ℕ
fault_copy = 29

-- "A negative radius is fault 30" (02, A.1)
abbrev pub fault_radius : ℕ
fault_radius = 30

-- what the judge alone names (02, A.2): "LINK, or a DEF_BITMAP whose address isn't 200000 hex, gets 31"
abbrev pub fault_barred : ℕ
fault_barred = 31

-- "anything but an end word after 4,096 commands gets 32"
abbrev pub fault_long : ℕ
fault_long = 32

-- "If an answer is an enum, the promises use a definition that states this paper's number .. for each of its cases"
abbrev pub fault_number : Fault → ℕ
fault_number fault.Opcode = fault_opcode
fault_number fault.Fetch = fault_fetch
fault_number fault.Bitmap = fault_bitmap
fault_number fault.NoBitmap = fault_no_bitmap
fault_number fault.Clip = fault_clip
fault_number fault.Data = fault_data
fault_number fault.Call = fault_call
fault_number fault.Return = fault_return
fault_number fault.NoFont = fault_no_font
fault_number fault.Copy = fault_copy
fault_number fault.Radius = fault_radius
fault_number fault.Barred = fault_barred
fault_number fault.Long = fault_long

-- the number of a check's fault; 0 for none
abbrev pub fault_met : {A : Type 0} → Result A Fault → ℕ
fault_met (Ok a) = 0
fault_met (Err f) = fault_number f

-- ## Refusals

-- "1 no such pane"
abbrev pub refuse_pane : ℕ
refuse_pane = 1

-- "2 if they pass the store's end"; "2 not below the length"
abbrev pub refuse_end : ℕ
refuse_end = 2

-- "3 odd"
abbrev pub refuse_odd : ℕ
refuse_odd = 3

-- "4 status isn't 1"; "Refusal 4 then covers statuses 0, 2 and 3" (02, A.7)
abbrev pub refuse_status : ℕ
refuse_status = 4

-- "5 outside the pane"
abbrev pub refuse_pixel : ℕ
refuse_pixel = 5

-- "6 geometry or row count out of range"
abbrev pub refuse_geometry : ℕ
refuse_geometry = 6

-- "7 screen buffer shorter than its rows"
abbrev pub refuse_screen : ℕ
refuse_screen = 7

-- "8 a rectangle empty or beyond the screen"
abbrev pub refuse_rectangle : ℕ
refuse_rectangle = 8

-- "9 a store of odd length, above 2,097,152 bytes or beyond its buffer"
abbrev pub refuse_store : ℕ
refuse_store = 9

-- "10 two rectangles share a pixel"
abbrev pub refuse_overlap : ℕ
refuse_overlap = 10

-- "11 two stores share a byte"
abbrev pub refuse_shared : ℕ
refuse_shared = 11

-- "12 the pane record has .."
abbrev pub refuse_record : ℕ
refuse_record = 12

-- "A switch value other than 0 or 1 is refused with 33" (02, A.7)
abbrev pub refuse_switch : ℕ
refuse_switch = 33

-- the paper's number for each case of the code's enum
abbrev pub refusal_number : Refusal → ℕ
refusal_number refusal.Pane = refuse_pane
refusal_number refusal.End = refuse_end
refusal_number refusal.Odd = refuse_odd
refusal_number refusal.Status = refuse_status
refusal_number refusal.Pixel = refuse_pixel
refusal_number refusal.Geometry = refuse_geometry
refusal_number refusal.Screen = refuse_screen
refusal_number refusal.Rectangle = refuse_rectangle
refusal_number refusal.Store = refuse_store
refusal_number refusal.Overlap = refuse_overlap
refusal_number refusal.Shared = refuse_shared
refusal_number refusal.Record = refuse_record
refusal_number refusal.Switch = refuse_switch

-- the number of a check's refusal; 0 for none
abbrev pub refused_by : {A : Type 0} → Result A Refusal → ℕ
refused_by (Ok a) = 0
refused_by (Err r) = refusal_number r
