-- A line that is accepted, read and written, is its digits in upper case and one newline. Assumes nothing.
use mathlib.Core.Path.{◌≡◌, refl, sym, ap, ◌∙◌}
use mathlib.Core.Bool.{Bool, true, false, cond}
use mathlib.Core.List.{List, [], ◌∷◌, ◌++◌, map}
use mathlib.Core.Option as option
use mathlib.Core.Option.{Option}
use Prim.Native.Nat.{ℕ, ◌+◌, ◌*◌}
use native.Mathlib.Nat.{mul-le-mul}
use native.Mathlib.Omega.{arith}
use lib.Dec.{ltb, leb}
use lib.IntN.{ℤ}
use lib.Ieee.{Float}
use lib.ListN.{length, take, drop, length-map, length-take, length-drop}
use lib.Seq.{take_all, take_at}
use Rattle.base.specs.Answer.{Size, size}
use Rattle.base.specs.Lists.{some, over}
use Rattle.base.proofs.Nowhere.{nowhere-take, nowhere-drop}
use Rattle.base.proofs.Over.{length_over}
use Rattle.color_lab.specs.Convert.{lab_of}
use Rattle.color_lab.proofs.Bytes.{lab-of-bytes}
use Rattle.sheet.specs.Sheet.{Sheet, sheet_of}
use Rattle.sheet.specs.Checks.{WellFormed}
use Rattle.sheet.specs.Document.{labs_of}
use Rattle.sheet.proofs.LabStorage.{length-labs}
use Rattle.sheet.proofs.FiniteLabs.{labs-fit}
use Rattle.panel_hex.specs.Hex.{unhex_of, hex_of}
use Rattle.panel_frames.specs.declared.Frame.TheVariants.{Open, Malformed}
use Rattle.panel_frames.specs.Opening.{open_bytes, colours_of, open_sheet, sheet_in}
use Rattle.panel_frames.specs.Reading.{told, told_of, max_digits, frame_of, class_of, size_of, index_of, palette_in, indices_in}
use Rattle.panel_spell.specs.Spelling.{open_line, spelt}
use Rattle.panel_read.specs.ReadSheet.{bare, Read, storage_checks, reading, line_read, read_of}
use Rattle.panel_read.proofs.Taking.{colours-in}
use Rattle.panel_spelling.specs.OneSpelling.{Spelled, upper_case, sheet_left, Respells, Canonical}
use Rattle.panel_spelling.proofs.Digits.{spells}
use Rattle.panel_spelling.proofs.Openings.{Opens, no-open, opens, together}
use Rattle.panel_spelling.proofs.Accepted.{opened, Passed, passed, Taken, taken}

-- ---- a line that is an opening frame: its bytes, and its digits in upper case
pub record Opening (line bs : List ℕ) (w h k : ℕ) : Type 0 where
  pub bytes : some (leb 256) bs ≡ false
  pub opens : Opens bs w h k
  pub again : hex_of (open_bytes w h k (palette_in k bs) (indices_in w h k bs)) ≡ map upper_case line

by_bytes : (line bs : List ℕ) (w h k : ℕ) → unhex_of line ≡ option.some bs → class_of bs ≡ Open w h k → Opening line (told (class_of bs) bs).bytes w h k
unfolding size_of
by_bytes line bs w h k u e =
    let r = spells line bs u in
    let o = opens bs w h k e in
    let all : take (size_of (class_of bs)) bs ≡ bs = rw e (take_all (6 + 3 * k + w * h) bs (omega (arith, o.long))) in
    rw all (record { bytes = r.bytes; opens = o; again = rw (together bs w h k r.bytes o) r.written })

by_digits : (line : List ℕ) (w h k : ℕ) (o : Option (List ℕ)) → unhex_of line ≡ o → (told_of o).frame ≡ Open w h k → Opening line (told_of o).bytes w h k
unfolding told_of
by_digits line w h k option.none u e = no-open Malformed refl e
by_digits line w h k (option.some bs) u e = by_bytes line bs w h k u e

pub opening : (line : List ℕ) (w h k : ℕ) → (frame_of line).frame ≡ Open w h k → Opening line (frame_of line).bytes w h k
unfolding frame_of
opening line w h k e = go (ltb max_digits (length line)) e
  where
    go : (t : Bool) → (cond t (told Malformed []) (told_of (unhex_of line))).frame ≡ Open w h k → Opening line (cond t (told Malformed []) (told_of (unhex_of line))).bytes w h k
    go true e = no-open Malformed refl e
    go false e = by_digits line w h k (unhex_of line) refl e

-- ---- the sheet of the frame
module _ (line bs : List ℕ) (s : Sheet) (o : Opening line bs s.w s.h s.k) (is : open_sheet s.w s.h s.k bs ≡ s) where
  colours-are : colours_of s ≡ palette_in s.k bs
  unfolding open_sheet
  colours-are =
      let n = o.opens.long in
      ap (λ (x : Sheet). take (3 * s.k) x.palette) (sym is) ∙ colours-in s.w s.h s.k bs (omega arith)

  indices-are : s.indices ≡ indices_in s.w s.h s.k bs
  unfolding open_sheet
  indices-are = ap (λ (x : Sheet). x.indices) (sym is)

  colours-long : length (colours_of s) ≡ 3 * s.k
  colours-long = let n = o.opens.long in rw colours-are (simp (length-take, length-drop) (omega arith))

  indices-long : length s.indices ≡ s.w * s.h
  indices-long =
      let n = o.opens.long in
      rw indices-are (length-map (take (s.w * s.h) (drop (6 + 3 * s.k) bs)) index_of ∙ simp (length-take, length-drop) (omega arith))

  labs-long : length (labs_of (colours_of s)) ≡ 3 * s.k
  labs-long = length-labs lab_of s.k (colours_of s) colours-long

  colours-bytes : some (leb 256) (colours_of s) ≡ false
  colours-bytes = rw colours-are (nowhere-take (leb 256) (3 * s.k) (drop 6 bs) (nowhere-drop (leb 256) 6 bs o.bytes))

  pub again : spelt s ≡ map upper_case line ++ (10 ∷ [])
  unfolding spelt open_line
  again = rw (colours-are, indices-are, o.again)

  -- ---- in the buffers after it: its parts are those that were read
  module _ (palette : List ℕ) (lab : List Float) (indices : List ℤ) (c : Passed palette lab s) where
    abbrev t : Sheet
    t = sheet_of s.w s.h s.k (over (colours_of s) palette) (over (labs_of (colours_of s)) lab) (take (s.w * s.h) (over s.indices indices))

    pub same-colours : colours_of t ≡ colours_of s
    unfolding over
    same-colours = take_at (colours_of s) _ (3 * s.k) colours-long

    same-labs : take (3 * s.k) t.lab ≡ labs_of (colours_of s)
    unfolding over
    same-labs = take_at (labs_of (colours_of s)) _ (3 * s.k) labs-long

    pub same-indices : t.indices ≡ s.indices
    unfolding over
    same-indices = take_at s.indices _ (s.w * s.h) indices-long

    well-formed : WellFormed t
    well-formed =
        let a = c.narrow in
        let b = c.low in
        let d = c.few in
        let p = c.palette-long in
        let q = c.lab-long in
        record {
          limits =
              record {
                w-small = omega arith;
                h-small = omega arith;
                k-small = d;
                cells = omega (arith, mul-le-mul a b);
                palette-length = length_over (colours_of s) palette (omega (arith, colours-long)) ∙ p;
                lab-length = length_over (labs_of (colours_of s)) lab (omega (arith, labs-long)) ∙ q;
                indices-length = ap length same-indices ∙ indices-long;
              };
          in-range = rw same-indices c.in-range;
          fit = rw same-labs (labs-fit lab_of lab-of-bytes (colours_of s) colours-bytes);
        }

    same_line : spelt t ≡ spelt s
    unfolding spelt
    same_line = rw (same-colours, same-indices)

    spelled : Spelled t
    spelled = record { small = record { fits = well-formed; narrow = c.narrow; low = c.low }; bytes = rw same-colours colours-bytes }

-- ---- the whole reading
module _ (line palette : List ℕ) (lab : List Float) (indices : List ℤ) where
  abbrev l : List ℕ
  l = bare line

  abbrev r : Read
  r = line_read l palette lab indices

  by-taken : (z : Size) → Taken palette lab indices (sheet_in (storage_checks palette lab) (frame_of l).frame (frame_of l).bytes) z → Respells line (sheet_left z.w z.h z.k r)
  unfolding line_read
  by-taken z a =
      let s = a.sheet in
      let o = opened (storage_checks palette lab) (frame_of l).frame (frame_of l).bytes s a.is in
      let g = opening l s.w s.h s.k o.frame in
      let c = passed palette lab s o.checks in
      let bs = (frame_of l).bytes in
      rw (← a.sizes, a.leaves)
      (record { spelled = spelled l bs s g o.sheet palette lab indices c; again = same_line l bs s g o.sheet palette lab indices c ∙ again l bs s g o.sheet })

pub canonical : Canonical
unfolding read_of line_read
canonical line palette lab indices w h k e =
    by-taken line palette lab indices (size w h k)
    (taken palette lab indices (sheet_in (storage_checks palette lab) (frame_of (bare line)).frame (frame_of (bare line)).bytes) (size w h k) e)
