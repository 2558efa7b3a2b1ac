-- What a caller hands to the calls of a history, in the types that the code has for it, so that demand 3 (Demand3.antt)
-- has no premise on ranges. Where any number does, any number is taken: a change of 64 bits is 16 bits for each of its
-- parts whatever it is, permitted colours are only compared, and push fills in the rest of an edit. Definitions only.
-- Assumes nothing.
use Rattle.std.specs.Prelude.{Bool, List, map, ℕ, T, ℤ, Float}
use Rattle.std.specs.Float.{binary64}
use Rattle.std.specs.Float.Ieee.{fits}
use Rattle.std.specs.Int.{w8}
use Rattle.std.proofs.Common.{Fits}
use Rattle.base.specs.declared.Rgb.{Rgb}
use Rattle.base.specs.declared.Lab.{Lab}
use Rattle.base.specs.declared.Edit.{Edit}
use Rattle.base.specs.declared.Edit.TheVariants.{Pixels, PaletteSet, PaletteAdd, PaletteRemove, PaletteLock}
use Rattle.history_ledger.specs.Calls.{Call}
use Rattle.history_ledger.specs.Calls.Call.{push, undo, redo, mark}
use Rattle.history_model.specs.Document.{Document, document_of}
use Rattle.history_model.specs.Editing.{Given, given_of}

-- a `u8`, an `f64` and an `Rgb`
pub record Byte : Type 0 where
  pub value : ℕ
  pub in-8-bits : Fits w8 value

pub record Double : Type 0 where
  pub value : Float
  pub in-64-bits : T (fits binary64 value)

pub record Colour : Type 0 where
  pub r : Byte
  pub g : Byte
  pub b : Byte

abbrev pub rgb_of : Colour → Rgb
rgb_of c = record { r = c.r.value; g = c.g.value; b = c.b.value }

-- the lent sheet, and its marks
pub record HandedSheet : Type 0 where
  pub w : ℕ
  pub h : ℕ
  pub k : ℕ
  pub palette : List Byte
  pub lab : List Double
  pub indices : List ℤ
  pub locks : List Bool

abbrev pub sheet_by : HandedSheet → Document
sheet_by s =
    document_of s.w s.h s.k (map (λ (b : Byte). b.value) s.palette) (map (λ (d : Double). d.value) s.lab) s.indices s.locks

-- an edit, with the colour that it brings
pub data HandedEdit : Type 0 where
  pixels : ℕ → HandedEdit
  set : ℕ → Rgb → Colour → Lab → HandedEdit
  add : Colour → HandedEdit
  remove : ℕ → Rgb → Lab → HandedEdit
  lock : ℕ → Bool → Bool → HandedEdit

abbrev pub edit_by : HandedEdit → Edit
edit_by (pixels tool) = Pixels tool
edit_by (set i old new lab) = PaletteSet i old (rgb_of new) lab
edit_by (add c) = PaletteAdd (rgb_of c)
edit_by (remove i c lab) = PaletteRemove i c lab
edit_by (lock i old new) = PaletteLock i old new

-- the arguments of a push, and a call with them
pub record HandedPush : Type 0 where
  pub limited : Bool
  pub permitted : List ℕ
  pub edit : HandedEdit
  pub list : List ℕ

abbrev pub given_by : HandedPush → Given
given_by p = given_of p.limited p.permitted (edit_by p.edit) p.list

abbrev pub call_by : Call HandedPush → Call Given
call_by (push p) = push (given_by p)
call_by undo = undo
call_by redo = redo
call_by mark = mark
