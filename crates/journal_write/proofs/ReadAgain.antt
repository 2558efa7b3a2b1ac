-- What was written is read, from both ends. By kinds only `contents`, what a record's kind, count and marks say that it holds: bytes at fixed places are
-- found by computing, and the changes by their own law. Assumes nothing.
use Prim.Native.Nat.{ℕ, ◌+◌, ◌-◌, ◌^◌, ◌<◌, ◌≤◌}
use mathlib.Core.Path.{◌≡◌, refl, sym, ap, ap₂, ◌∙◌}
use mathlib.Core.Bool.{Bool, true, false}
use mathlib.Core.List.{List, [], ◌∷◌, ◌++◌, append_assoc, append-nil}
use mathlib.Core.Option.{some}
use native.Mathlib.Nat.{mod-eq_of_lt}
use native.Mathlib.Omega.{arith}
use borrow.Author.Tests.{eq-eqb, le-leb}
use lib.Dec.{T, eqb}
use lib.Ieee.{Float, binary64, to_bits, of_bits, fits}
use lib.Ieee.Bits.{of_bits-to_bits, to_bits-lt}
use lib.ListN.{length, drop, length-append}
use lib.Seq.{drop_at}
use Rattle.base.specs.declared.Form.{Form}
use Rattle.base.specs.declared.Lab.{Lab}
use Rattle.base.specs.declared.Edit.{Edit}
use Rattle.base.specs.declared.Edit.TheVariants.{Pixels, PaletteSet, PaletteAdd, PaletteRemove, PaletteLock}
use Rattle.edit.specs.Change.{Change}
use Rattle.edit.specs.Storage.{bytes_of}
use Rattle.journal_record.specs.Bytes.{le, unle, le_at}
use Rattle.journal_record.specs.Record.{pixels_kind, remove_kind, lab_bytes, list_bytes, mark_byte, is_mark, body_of, record_length, record_of, rgb_in, double_in, lab_in, changes_in, contents, closed, agreed, read_forth, of_length, read_back}
use Rattle.journal_write.specs.Fit.{FitLab, FitEdit, Fit}
use Rattle.journal_record.proofs.LittleEndian.{length-le, unle-le, le_at-of}
use Rattle.journal_record.proofs.ByKind.{kind-pixels, kind-set, kind-add, kind-remove, kind-lock}
use Rattle.journal_record.proofs.Strides.{stride-least}
use Rattle.journal_write.proofs.Changes.{changes-in}
use Rattle.journal_write.proofs.Lengths.{length-body, length-record}

-- a number of four bytes, and a double of eight
count-back : (n : ℕ) → n < 2 ^ 32 → unle (le 4 n) ≡ n
count-back n h = unle-le 4 n ∙ mod-eq_of_lt h

abbrev again : Float → Float
again v = of_bits binary64 (unle (le 8 (to_bits binary64 v)))

double-back : (v : Float) → T (fits binary64 v) → again v ≡ v
double-back v h = ap (of_bits binary64) (unle-le 8 (to_bits binary64 v) ∙ mod-eq_of_lt (to_bits-lt binary64 v h)) ∙ of_bits-to_bits binary64 v h

lab-back : (x : Lab) → FitLab x → record { l = again x.l; a = again x.a; b = again x.b } ≡ x
lab-back x h j = record { l = double-back x.l h.l-fits j; a = double-back x.a h.a-fits j; b = double-back x.b h.b-fits j }

mark-back : (b : Bool) → eqb (mark_byte b) 1 ≡ b
mark-back true = refl
mark-back false = refl

mark-fits : (b : Bool) → is_mark (mark_byte b) ≡ true
mark-fits true = refl
mark-fits false = refl

-- ---- what kind, count and marks say
told_is : (f : Form) (w : ℕ) (e : Edit) (cs : List Change) (rest : List ℕ) → Fit f w e cs → contents f w (body_of f w e cs ++ rest) ≡ some (e, cs)
unfolding contents le_at rgb_in double_in lab_in body_of lab_bytes list_bytes le FitEdit record_length
told_is f w (Pixels tool) cs rest h =
    let bytes : List ℕ = pixels_kind f ∷ tool ∷ list_bytes f w cs ++ rest in
    let count : le_at 4 bytes 2 ≡ length cs = count-back (length cs) (omega (arith, h.whole, stride-least f (length cs))) in
    rw (
      kind-pixels,
      count,
      le-leb 1 (length cs) h.edit,
      changes-in f w cs h.changes h.places bytes (pixels_kind f ∷ tool ∷ le 4 (length cs)) rest 6 refl refl,
    )
told_is f w (PaletteSet i old new lab) cs rest h =
    rw kind-set (ap₂ (λ (x : Lab) (l : List Change). some (PaletteSet i old new x, l)) (lab-back lab h.edit.0) (sym h.edit.1))
told_is f w (PaletteAdd c) cs rest h = rw kind-add (ap (λ (l : List Change). some (PaletteAdd c, l)) (sym h.edit))
told_is f w (PaletteRemove i c lab) cs rest h =
    let front : List ℕ = remove_kind f ∷ i ∷ bytes_of c ++ lab_bytes lab in
    let bytes : List ℕ = front ++ list_bytes f w cs ++ rest in
    let count : le_at 4 bytes 29 ≡ length cs = count-back (length cs) (omega (arith, h.whole, stride-least f (length cs))) in
    rw kind-remove
    (ap₂ (λ (x : Lab) (l : List Change). some (PaletteRemove i c x, l)) (lab-back lab h.edit)
    (ap (changes_in f w bytes 33) count ∙ changes-in f w cs h.changes h.places bytes (front ++ le 4 (length cs)) rest 33 refl refl))
told_is f w (PaletteLock i old new) cs rest h =
    rw (kind-lock, mark-fits old, mark-fits new, mark-back old, mark-back new) (ap (λ (l : List Change). some (PaletteLock i old new, l)) (sym h.edit))

-- ---- the record that starts the bytes
last-four : (f : Form) (w : ℕ) (e : Edit) (cs : List Change) (after : List ℕ) → Fit f w e cs → closed (record_of f w e cs ++ after) (record_length f e (length cs)) ≡ true
unfolding closed record_of
last-four f w e cs after h =
    let n : ℕ = record_length f e (length cs) in
    let bytes : List ℕ = body_of f w e cs ++ le 4 n ++ after in
    let long : n ≤ length bytes = rw (length-append, length-append) (omega (arith, length-le 4 n, length-body f w e cs)) in
    let is : bytes ≡ body_of f w e cs ++ (le 4 n ++ after) = append_assoc (body_of f w e cs) (le 4 n) after in
    let last : le_at 4 bytes (n - 4) ≡ n = le_at-of 4 n bytes (body_of f w e cs) after (n - 4) is (omega (arith, length-body f w e cs)) h.whole in
    rw (le-leb n (length bytes) long, last, eq-eqb n n refl)

told-record : (f : Form) (w : ℕ) (e : Edit) (cs : List Change) (after : List ℕ) → Fit f w e cs → contents f w (record_of f w e cs ++ after) ≡ some (e, cs)
unfolding record_of
told-record f w e cs after h = rw append_assoc (told_is f w e cs (le 4 (record_length f e (length cs)) ++ after) h)

pub read-forth : (f : Form) (w : ℕ) (e : Edit) (cs : List Change) (after : List ℕ) → Fit f w e cs → read_forth f w (record_of f w e cs ++ after) ≡ some (record_length f e (length cs), e, cs)
unfolding read_forth agreed
read-forth f w e cs after h = rw (told-record f w e cs after h, last-four f w e cs after h)

-- ---- the record that ends them
last-of-all : (f : Form) (w : ℕ) (e : Edit) (cs : List Change) (before : List ℕ) → Fit f w e cs → le_at 4 (before ++ record_of f w e cs) (length (before ++ record_of f w e cs) - 4) ≡ record_length f e (length cs)
unfolding record_of
last-of-all f w e cs before h =
    let n : ℕ = record_length f e (length cs) in
    let front : List ℕ = before ++ body_of f w e cs in
    let is : before ++ (body_of f w e cs ++ le 4 n) ≡ front ++ (le 4 n ++ []) = simp (append_assoc, append-nil) in
    let at : length front ≡ length (before ++ (body_of f w e cs ++ le 4 n)) - 4 = simp (length-append, length-le) (omega arith) in
    le_at-of 4 n (before ++ (body_of f w e cs ++ le 4 n)) front [] _ is at h.whole

pub read-back : (f : Form) (w : ℕ) (e : Edit) (cs : List Change) (before : List ℕ) → Fit f w e cs → read_back f w (before ++ record_of f w e cs) ≡ some (record_length f e (length cs), e, cs)
unfolding read_back of_length
read-back f w e cs before h =
    let n : ℕ = record_length f e (length cs) in
    let bytes : List ℕ = before ++ record_of f w e cs in
    let long : length bytes ≡ length before + n = length-append before (record_of f w e cs) ∙ rw length-record in
    let at : drop (length bytes - n) bytes ≡ record_of f w e cs = drop_at before (record_of f w e cs) (length bytes - n) (omega arith) in
    let forth : read_forth f w (record_of f w e cs) ≡ some (n, e, cs) = rw append-nil at (read-forth f w e cs [] h) in
    rw (last-of-all f w e cs before h, le-leb n (length bytes) (omega arith), at, forth, eq-eqb n n refl)
