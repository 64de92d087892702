-- Laws of the numbers: none is 0, which stands for no refusal and no fault.
use mathlib.Core.Path.{◌≡◌, refl}
use mathlib.Core.Bool.{false}
use Prim.Native.Nat.{ℕ}
use lib.Dec.{eqb}
use Rattle.model.specs.Numbers.{Fault, Refusal, fault_number, refusal_number}
use Rattle.model.specs.declared.Fault.TheVariants as fault
use Rattle.model.specs.declared.Refusal.TheVariants as refusal

pub refusal_some : (r : Refusal) → eqb (refusal_number r) 0 ≡ false
refusal_some refusal.Pane = refl
refusal_some refusal.End = refl
refusal_some refusal.Odd = refl
refusal_some refusal.Status = refl
refusal_some refusal.Pixel = refl
refusal_some refusal.Geometry = refl
refusal_some refusal.Screen = refl
refusal_some refusal.Rectangle = refl
refusal_some refusal.Store = refl
refusal_some refusal.Overlap = refl
refusal_some refusal.Shared = refl
refusal_some refusal.Record = refl
refusal_some refusal.Switch = refl

pub fault_some : (f : Fault) → eqb (fault_number f) 0 ≡ false
fault_some fault.Opcode = refl
fault_some fault.Fetch = refl
fault_some fault.Bitmap = refl
fault_some fault.NoBitmap = refl
fault_some fault.Clip = refl
fault_some fault.Data = refl
fault_some fault.Call = refl
fault_some fault.Return = refl
fault_some fault.NoFont = refl
fault_some fault.Copy = refl
fault_some fault.Radius = refl
fault_some fault.Barred = refl
fault_some fault.Long = refl
