-- The numbers that a line brings are in the range of their types, whatever the text is: a byte is spelt by two digits. Assumes nothing.
use mathlib.Core.Path.{◌≡◌, refl}
use mathlib.Core.Bool.{Bool, true, false, cond}
use mathlib.Core.List.{List, [], ◌∷◌, map}
use mathlib.Core.Option.{Option, none, some}
use Prim.Native.Nat.{ℕ, zero, suc, ◌+◌, ◌*◌, ◌-◌, ◌%◌, ◌<◌}
use native.Mathlib.Omega.{arith}
use borrow.Author.Tests.{ltb-true}
use lib.Dec.{ltb, eqb}
use lib.ListN.{length, get_or}
use mir.Facts.{sfits_to_z}
use Rattle.base.specs.Lists.{All}
use Rattle.base.specs.Checks.{first_of, refused_or}
use Rattle.base.specs.declared.Form.{Form}
use Rattle.base.proofs.Each.{all_take}
use Rattle.color_curve.specs.Curve.{srgb}
use Rattle.base.specs.Triples.{rgb_at}
use Rattle.edit.specs.Change.{packed}
use Rattle.edit_entries.specs.Unfilled.{no_lab}
use Rattle.palette_model.specs.Removal.{remap_of}
use Rattle.edit.specs.Accepted.{Bytes}
use Rattle.journal_record.specs.Record.{rgb_in}
use Rattle.journal_write.specs.Fit.{FitChange, FitChanges}
use Rattle.history_ledger.specs.Script.{TypedAsk, TypedScript}
use Rattle.history_model.specs.Document.{Shown}
use Rattle.history_model.specs.Editing.{editing_by}
use Rattle.history_model.specs.Handed.{HandedPush, given_by}
use Rattle.history_model.specs.Handed.HandedEdit.{remove}
use Rattle.history_model.proofs.Demand3.{call-typed}
use Rattle.history_ledger.specs.Calls.Call.{push}
use Rattle.panel_hex.specs.Hex.{pair_val, prepend, unhex_of}
use Rattle.panel_frames.specs.Reading.{told, told_of, frame_of, size_of, two, opening_of, pixels_of, class_of, change_at, changes_from, max_digits}
use Rattle.panel_frames.specs.declared.Frame.{Frame}
use Rattle.panel_frames.specs.declared.Frame.TheVariants.{Open, Pixels, Set, Add, Merge, Undo, Redo, Mark, Malformed}
use Rattle.need_model.specs.Asked.{merge_own, ask_of, line_asks, script_of}

-- ---- bytes
abbrev AllBytes : List ℕ → Type 0
AllBytes l = All (λ b. b < 256) l

abbrev Spelt : Option (List ℕ) → Type 0
Spelt none = Unit {0}
Spelt (some bs) = AllBytes bs

spelt-next : (b : ℕ) (o : Option (List ℕ)) → b < 256 → Spelt o → Spelt (prepend (b ∷ []) o)
unfolding prepend All
spelt-next b none h s = tt
spelt-next b (some bs) h s = (h, s)

spelt : (line : List ℕ) → Spelt (unhex_of line)
unfolding unhex_of All
spelt [] = tt
spelt (a ∷ []) = tt
spelt (a ∷ b ∷ s) = go (ltb (pair_val a b) 256) refl (spelt s)
  where
    go : (t : Bool) → ltb (pair_val a b) 256 ≡ t → Spelt (unhex_of s) → Spelt (cond t (prepend (pair_val a b ∷ []) (unhex_of s)) none)
    go true e h = spelt-next (pair_val a b) (unhex_of s) (ltb-true (pair_val a b) 256 e) h
    go false e h = tt

told-bytes : (o : Option (List ℕ)) → Spelt o → AllBytes (told_of o).bytes
unfolding told_of All size_of
told-bytes none s = tt
told-bytes (some bs) s = all_take (λ b. b < 256) (size_of (class_of bs)) bs s

pub frame-bytes : (line : List ℕ) → AllBytes (frame_of line).bytes
unfolding frame_of All size_of
frame-bytes line = go (ltb max_digits (length line))
  where
    go : (t : Bool) → AllBytes (cond t (told Malformed []) (told_of (unhex_of line))).bytes
    go true = tt
    go false = told-bytes (unhex_of line) (spelt line)

byte_at : (bs : List ℕ) → AllBytes bs → (i : ℕ) → get_or bs i 0 < 256
unfolding All
byte_at [] h i = omega arith
byte_at (b ∷ bs) h zero = h.0
byte_at (b ∷ bs) h (suc i) = byte_at bs h.1 i

-- ---- what a frame carries
rgb-bytes : (bs : List ℕ) → AllBytes bs → (i : ℕ) → Bytes (rgb_in bs i)
unfolding rgb_in
rgb-bytes bs h i = record { r-byte = byte_at bs h i; g-byte = byte_at bs h (i + 1); b-byte = byte_at bs h (i + 2) }

change-fits : (bs : List ℕ) → AllBytes bs → (i : ℕ) → FitChange (change_at bs i)
unfolding change_at
change-fits bs h i =
    record {
      x_fits = omega (arith, byte_at bs h i, byte_at bs h (i + 1));
      y-fits = omega (arith, byte_at bs h (i + 2), byte_at bs h (i + 2 + 1));
      old-fits = record { sfits = omega arith };
      new-fits = sfits_to_z {n = two bs (i + 4)} (record { fits = omega (arith, byte_at bs h (i + 4), byte_at bs h (i + 4 + 1)) });
    }

changes-fit : (bs : List ℕ) → AllBytes bs → (i n : ℕ) → FitChanges (changes_from bs i n)
unfolding changes_from FitChanges
changes-fit bs h i zero = tt
changes-fit bs h i (suc n) = (change-fits bs h i, changes-fit bs h (i + 6) n)

none-fit : FitChanges []
unfolding FitChanges
none-fit = tt

-- ---- the frame that bytes are
abbrev Brings : Frame → Type 0
Brings (Open w h k) = Unit {0}
Brings (Pixels tool n) = Unit {0}
Brings (Set i c) = Bytes c
Brings (Add c) = Bytes c
Brings (Merge from into) = Unit {0}
Brings Undo = Unit {0}
Brings Redo = Unit {0}
Brings Mark = Unit {0}
Brings Malformed = Unit {0}

pick : (t : Bool) (a b : Frame) → Brings a → Brings b → Brings (cond t a b)
pick true a b p q = p
pick false a b p q = q

class-brings : (bs : List ℕ) → AllBytes bs → Brings (class_of bs)
unfolding class_of opening_of pixels_of
class-brings bs h =
    pick (eqb (length bs) 0) _ _ tt
    (pick (eqb (get_or bs 0 0) 0) _ _ (pick (ltb (length bs) 6) _ _ tt (pick (eqb (length bs) (6 + 3 * get_or bs 5 0 + two bs 1 * two bs 3)) _ _ tt tt))
    (pick (eqb (get_or bs 0 0) 1) _ _ (pick (ltb (length bs) 2) _ _ tt (pick (eqb ((length bs - 2) % 6) 0) _ _ tt tt))
    (pick (eqb (get_or bs 0 0) 2) _ _ (pick (eqb (length bs) 5) _ _ (rgb-bytes bs h 2) tt)
    (pick (eqb (get_or bs 0 0) 3) _ _ (pick (eqb (length bs) 4) _ _ (rgb-bytes bs h 1) tt)
    (pick (eqb (get_or bs 0 0) 4) _ _ (pick (eqb (length bs) 3) _ _ tt tt)
    (pick (eqb (get_or bs 0 0) 5) _ _ (pick (eqb (length bs) 1) _ _ tt tt)
    (pick (eqb (get_or bs 0 0) 6) _ _ (pick (eqb (length bs) 1) _ _ tt tt)
    (pick (eqb (get_or bs 0 0) 7) _ _ (pick (eqb (length bs) 1) _ _ tt tt) tt))))))))

told-brings : (o : Option (List ℕ)) → Spelt o → Brings (told_of o).frame
unfolding told_of
told-brings none s = tt
told-brings (some bs) s = class-brings bs s

frame-brings : (line : List ℕ) → Brings (frame_of line).frame
unfolding frame_of
frame-brings line = go (ltb max_digits (length line))
  where
    go : (t : Bool) → Brings (cond t (told Malformed []) (told_of (unhex_of line))).frame
    go true = tt
    go false = told-brings (unhex_of line) (spelt line)

-- ---- what a line asks, in any picture
module _ (f : Form) where
  merge-typed : (n : ℕ) (p : HandedPush) → TypedAsk (editing_by f srgb) (refused_or n (λ m. none) (some (push (given_by p))))
  unfolding refused_or
  merge-typed zero p = call-typed (push p)
  merge-typed (suc n) p = tt

  ask-typed : (g : Frame) (bs : List ℕ) → Brings g → AllBytes bs → (p : Shown) → TypedAsk (editing_by f srgb) (ask_of g bs p)
  unfolding ask_of
  ask-typed (Open w high k) bs b h p = tt
  ask-typed (Pixels tool n) bs b h p = record { new-bytes = tt; changes-fit = changes-fit bs h 2 n }
  ask-typed (Set i c) bs b h p = record { new-bytes = b; changes-fit = none-fit }
  ask-typed (Add c) bs b h p = record { new-bytes = b; changes-fit = none-fit }
  ask-typed (Merge from into) bs b h p =
      merge-typed (first_of (merge_own p from into))
      (record { limited = false; permitted = []; edit = remove from (rgb_at p.picture.colours from) no_lab; list = map packed (remap_of p.picture.w p.picture.indices from into) })
  ask-typed Undo bs b h p = tt
  ask-typed Redo bs b h p = tt
  ask-typed Mark bs b h p = tt
  ask-typed Malformed bs b h p = tt

  pub line-typed : (line : List ℕ) (p : Shown) → TypedAsk (editing_by f srgb) (line_asks line p)
  line-typed line = ask-typed (frame_of line).frame (frame_of line).bytes (frame-brings line) (frame-bytes line)

  pub script-typed : (lines : List (List ℕ)) → TypedScript (editing_by f srgb) (script_of lines)
  unfolding script_of
  script-typed [] = tt
  script-typed (line ∷ lines) = (line-typed line, script-typed lines)
