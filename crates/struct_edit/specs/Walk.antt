-- What the loops over change structs do with one change, and with the first i of a list. Definitions only. Assumes nothing.
use Rattle.std.specs.Prelude.{ℕ, zero, suc, ◌+◌, ◌*◌, ◌≤◌, ◌<◌, Bool, List, [], ◌∷◌, map, ℤ, pos, get_or, set}
use Rattle.base.specs.Checks.{or_else, first_of}
use Rattle.base.specs.declared.Form.{Form}
use Rattle.sheet.specs.Sheet.{Sheet}
use Rattle.edit.specs.declared.ListKind.{ListKind}
use Rattle.edit.specs.declared.ListKind.TheVariants.{NoList, PixelList, RemapList}
use Rattle.edit.specs.Change as flat
use Rattle.edit.specs.Change.{unpacked, place, filled_in}
use Rattle.edit.specs.List.{painted_list}
use Rattle.edit.specs.Checks.{change_checks}
use Rattle.edit_remap.specs.Marked.{when_none}
use Rattle.journal_record.specs.Bytes.{splice}
use Rattle.journal_record.specs.Record.{stride, change_bytes}
use Rattle.base.specs.declared.Change.{Change}
use Rattle.struct_change.specs.Struct.{packed_of}

-- the change that the core reads of a struct, and those of a list
abbrev pub flat_of : Change → flat.Change
flat_of c = unpacked (packed_of c)

abbrev pub packed_all : List Change → List ℕ
packed_all list = map packed_of list

abbrev pub flat_all : List Change → List flat.Change
flat_all list = map unpacked (packed_all list)

-- what stands for an element past the end
abbrev pub none : Change
none = record { x = 0; y = 0; old = pos 0; new = pos 0 }

-- how many of n changes are written and painted: none where a check refused
abbrev pub walked_of : ℕ → ℕ → ℕ
walked_of number n = when_none number n 0

-- ---- checked: the place of a removal's change is marked where no check applies
unfoldable pub mark_one : ℕ → ListKind → ℕ → flat.Change → List ℕ → List ℕ
mark_one n NoList w c marks = marks
mark_one n PixelList w c marks = marks
mark_one n (RemapList i) w c marks = when_none n (set marks (place w c) 1) marks

-- the first i of a list: the number so far, or the first that applies
abbrev pub check_upto : ℕ → Bool → Sheet → ListKind → List Change → ℕ → ℕ
check_upto n replay s l list zero = n
check_upto n replay s l list (suc i) = or_else (check_upto n replay s l list i) (first_of (change_checks replay s l (flat_of (get_or list i none))))

abbrev pub mark_upto : ℕ → Bool → Sheet → ListKind → List Change → List ℕ → ℕ → List ℕ
mark_upto n replay s l list marks zero = marks
mark_upto n replay s l list marks (suc i) =
    mark_one (check_upto n replay s l list (suc i)) l s.w (flat_of (get_or list i none))
    (mark_upto n replay s l list marks i)

-- ---- written: the bytes of change i, in the record that starts at `offset`. A pixel's old is the picture's index
unfoldable pub put_one : Form → ListKind → ℕ → ℕ → ℕ → List ℤ → flat.Change → List ℕ → List ℕ
put_one f NoList offset i w indices c journal = journal
put_one f PixelList offset i w indices c journal = splice journal (offset + (6 + stride f * i)) (change_bytes f w (filled_in w indices c))
put_one f (RemapList j) offset i w indices c journal = splice journal (offset + (33 + stride f * i)) (change_bytes f w c)

abbrev pub put_upto : Form → ListKind → ℕ → ℕ → List ℤ → List Change → List ℕ → ℕ → List ℕ
put_upto f l offset w indices list journal zero = journal
put_upto f l offset w indices list journal (suc i) = put_one f l offset i w indices (flat_of (get_or list i none)) (put_upto f l offset w indices list journal i)

-- what is asked: the bytes lie in a journal of m, a pixel among n indices
unfoldable pub PutsOne : Form → ListKind → ℕ → ℕ → ℕ → ℕ → ℕ → flat.Change → Type 0
PutsOne f NoList offset m i w n c = Unit {0}
PutsOne f PixelList offset m i w n c = (offset + (6 + stride f * i + stride f) ≤ m) × (place w c < n)
PutsOne f (RemapList j) offset m i w n c = offset + (33 + stride f * i + stride f) ≤ m

-- ---- painted: "paint each new at its place, in list order"
abbrev pub paint_upto : ListKind → ℕ → List Change → List ℤ → ℕ → List ℤ
paint_upto l w list indices zero = indices
paint_upto l w list indices (suc i) = painted_list l w (flat_of (get_or list i none) ∷ []) (paint_upto l w list indices i)
