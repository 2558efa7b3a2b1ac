-- The layout, part by part, and bytes that only little-endian numbers in this order are. Assumes nothing.
use mathlib.Core.Path.{◌≡◌, refl}
use mathlib.Core.Bool.{true, false}
use mathlib.Core.List.{List, [], ◌∷◌}
use Prim.Native.Nat.{ℕ, ◌+◌, ◌*◌}
use native.Mathlib.Omega.{arith}
use lib.IntN.{pos, negsuc}
use lib.Ieee.{nan}
use lib.ListN.{replicate}
use Rattle.base.specs.Lists.{over}
use Rattle.base.specs.declared.Handle.{Handle}
use Rattle.color_doubles.specs.Finite.{unfit}
use Rattle.journal_record.specs.Bytes.{le, unle, le_at, splice}
use Rattle.history_ledger.specs.Handle.{nowhere}
use Rattle.c_form.specs.Fields.{read_from, write_from}
use Rattle.c_form.specs.Flat.{palette_from, lab_from, indices_from, locks_from, flat_length, index_in, double_over, handle_in, handle_over, numbers_in, list_misfits}

-- "w, h, k in two bytes each, 765 palette bytes, 765 doubles as eight-byte bits, then two bytes an index ..; locks follow, one byte
-- .. for each of 255 entries"
pub palette-follows : palette_from ≡ 2 + 2 + 2
palette-follows = refl

pub lab-follows : lab_from ≡ palette_from + 765
lab-follows = refl

pub indices-follow : indices_from ≡ lab_from + 8 * 765
indices-follow = refl

pub locks-follow : (n : ℕ) → locks_from n ≡ indices_from + 2 * n
locks-follow n = refl

pub locks-last : (n : ℕ) → flat_length n ≡ locks_from n + 255
locks-last n = omega arith

-- "all little-endian"
pub transparent : index_in (255 ∷ 255 ∷ []) ≡ negsuc 0
unfolding unle
transparent = refl

pub low-byte-first : index_in (2 ∷ 1 ∷ []) ≡ pos 258
unfolding unle
low-byte-first = refl

-- "five eight-byte numbers in 01's order, no saved position being all ones": read, and written
abbrev handle : Handle
handle = record { offset = 258; end = 3; position = 4; count = 5; saved = nowhere }

abbrev handle-bytes : List ℕ
handle-bytes =
    2 ∷ 1 ∷ 0 ∷ 0 ∷ 0 ∷ 0 ∷ 0 ∷ 0
    ∷ 3 ∷ 0 ∷ 0 ∷ 0 ∷ 0 ∷ 0 ∷ 0 ∷ 0
    ∷ 4 ∷ 0 ∷ 0 ∷ 0 ∷ 0 ∷ 0 ∷ 0 ∷ 0
    ∷ 5 ∷ 0 ∷ 0 ∷ 0 ∷ 0 ∷ 0 ∷ 0 ∷ 0
    ∷ 255 ∷ 255 ∷ 255 ∷ 255 ∷ 255 ∷ 255 ∷ 255 ∷ 255
    ∷ []

pub handle-read : handle_in handle-bytes ≡ handle
unfolding handle_in le_at unle
handle-read = refl

pub handle-written : handle_over handle (replicate 40 9) ≡ handle-bytes
unfolding handle_over write_from splice over le
handle-written = refl

-- a NaN keeps its bytes, whatever they are
pub nan-kept : (old : List ℕ) → double_over nan old ≡ old
unfolding double_over unfit
nan-kept old = refl

-- "a list's length is not a multiple of eight"
pub seven-bytes : list_misfits (replicate 7 0) ≡ true
seven-bytes = refl

pub eight-bytes : list_misfits (replicate 8 0) ≡ false
eight-bytes = refl

pub one-change : numbers_in (1 ∷ 0 ∷ 0 ∷ 0 ∷ 0 ∷ 0 ∷ 0 ∷ 1 ∷ []) ≡ 72057594037927937 ∷ []
unfolding numbers_in read_from unle
one-change = refl
