-- A sheet written over a flat buffer of its size reads back: all of it, but for LAB past the entries that are finite. Assumes
-- nothing.
use mathlib.Core.Path.{◌≡◌, refl, sym, ap, subst, ◌∙◌}
use mathlib.Core.Bool.{Bool, true, false, not}
use mathlib.Core.List.{List, [], ◌∷◌, map}
use Prim.Native.Nat.{ℕ, zero, suc, ◌+◌, ◌*◌, ◌<◌}
use native.Mathlib.Nat.{mod-eq_of_lt}
use native.Mathlib.Omega.{arith}
use borrow.Author.Tests.{eq-eqb}
use lib.Dec.{T, ltb, eqb}
use lib.IntN.{ℤ}
use lib.Ieee.{Float, binary64, to_bits, of_bits, fits}
use lib.Ieee.Bits.{of_bits-to_bits, of_bits-fits, to_bits-lt}
use lib.ListN.{length, take, drop, get_or}
use mir.Syntax.{w16}
use mir.Val.{to_z, of_z, SFits}
use mir.Facts as facts
use mir.ValLaws.{of_z_fits}
use Rattle.base.specs.Lists.{some, All}
use Rattle.base.proofs.Scan.{or_left, or_right}
use Rattle.color_doubles.specs.Finite.{unfit}
use Rattle.journal_record.specs.Bytes.{le, unle, le_at}
use Rattle.journal_record.specs.Record.{mark_byte}
use Rattle.journal_record.proofs.LittleEndian.{length-le, unle-le}
use Rattle.c_form.specs.Fields.{read_from, write_from}
use Rattle.c_form.specs.Flat.{byte_in, byte_over, double_from, double_over, index_in, index_over, mark_in, mark_over, pair_over, width_in, height_in, count_in, places_in, palette_in, lab_in, indices_in, locks_in, sheet_misfits}
use Rattle.c_form.proofs.Fields.{length-write, take-write, drop-write}
use Rattle.c_form.proofs.Numbers.{double-sized}
use Rattle.c_form.proofs.Spans.{window, shorter, read-front, read-written, read_whole, AllOver, over-same, over-read, Again, read-over, map_same, all_any}

-- ---- one number, written and read
pair-back : (v : ℕ) → v < 65536 → unle (le 2 v) ≡ v
pair-back v h = unle-le 2 v ∙ mod-eq_of_lt h

index_back : (z : ℤ) → SFits w16 z → to_z w16 (unle (le 2 (of_z w16 z))) ≡ z
index_back z h = ap (to_z w16) (pair-back (of_z w16 z) (of_z_fits w16 z h).fits) ∙ facts.to_z-of_z h

-- a double that is finite
pub record Kept (v : Float) : Type 0 where
  pub finite : unfit v ≡ false
  pub wide : not (fits binary64 v) ≡ false

truth : (b : Bool) → not b ≡ false → T b
truth true e = tt
truth false e = absurd (let z : ◌≡◌ {A = ℕ} 0 1 = cc in omega arith)

double-back : (v : Float) (old : List ℕ) → Kept v → double_from (double_over v old) ≡ v
unfolding double_over
double-back v old k =
    let h : T (fits binary64 v) = truth (fits binary64 v) k.wide in
    rw k.finite (ap (of_bits binary64) (unle-le 8 (to_bits binary64 v) ∙ mod-eq_of_lt (to_bits-lt binary64 v h)) ∙ of_bits-to_bits binary64 v h)

-- and one that was read there: where it is not finite, its bytes keep
holds : (b : Bool) → T b → not b ≡ false
holds true h = refl
holds false h = absurd h

double-again : (old : List ℕ) → double_from (double_over (double_from old) old) ≡ double_from old
unfolding double_over
double-again old = go (unfit (double_from old)) refl
  where
    go : (t : Bool) → unfit (double_from old) ≡ t → double_from (double_over (double_from old) old) ≡ double_from old
    go true e = rw e
    go false e =
        double-back (double_from old) old (record { finite = e; wide = holds (fits binary64 (double_from old)) (of_bits-fits binary64 (unle old)) })

-- the first j finite, the others as they stand in the bytes
abbrev Again-double : Float → List ℕ → Type 0
Again-double = Again 8 double_from double_over double-sized

over-parts : (j at : ℕ) (l l₀ : List Float) (b : List ℕ) → All Kept (take j l) → drop j l ≡ drop j l₀ → l₀ ≡ read_from 8 double_from at (length l) b
    → AllOver 8 Again-double at l b
unfolding AllOver All read_from
over-parts zero at l l₀ b ps e r =
    subst (λ (m : List Float). AllOver 8 Again-double at m b) (sym (e ∙ r)) (over-read 8 Again-double double_from double-again at (length l) b)
over-parts (suc j) at [] l₀ b ps e r = tt
over-parts (suc j) at (v ∷ l) [] b ps e r = let z = ap length r in absurd (omega (arith, z))
over-parts (suc j) at (v ∷ l) (v₀ ∷ l₀) b ps e r = (double-back v _ ps.0, over-parts j (at + 8) l l₀ b ps.1 e (ap (drop 1) r))

mark-back : (m : Bool) → eqb (mark_byte m) 1 ≡ m
mark-back true = refl
mark-back false = refl

mark-one : (locks : List Bool) → some (ltb 1) (map mark_byte locks) ≡ false
unfolding some
mark-one [] = refl
mark-one (true ∷ locks) = mark-one locks
mark-one (false ∷ locks) = mark-one locks

pub all-kept : (j : ℕ) (l : List Float) → some unfit (take j l) ≡ false → some (λ (v : Float). not (fits binary64 v)) l ≡ false → All Kept (take j l)
unfolding some All
all-kept zero l p q = tt
all-kept (suc j) [] p q = tt
all-kept (suc j) (v ∷ l) p q =
    (record { finite = or_left (unfit v) _ p; wide = or_left (not (fits binary64 v)) _ q }, all-kept j l (or_right (unfit v) _ p) (or_right (not (fits binary64 v)) _ q))

-- ---- the parts, one after the other
module _ (k : ℕ) (palette : List ℕ) (lab : List Float) (indices : List ℤ) (locks : List Bool) (b : List ℕ)
    (k-small : k < 65536) (palette-long : length palette ≡ 765) (lab-long : length lab ≡ 765) (locks-long : length locks ≡ 255)
    (suits : length b ≡ 7146 + 2 * length indices) where
  abbrev b₁ : List ℕ
  b₁ = write_from 2 pair_over 4 (k ∷ []) b

  abbrev b₂ : List ℕ
  b₂ = write_from 1 byte_over 6 palette b₁

  abbrev b₃ : List ℕ
  b₃ = write_from 8 double_over 771 lab b₂

  abbrev b₄ : List ℕ
  b₄ = write_from 2 index_over 6891 indices b₃

  abbrev b₅ : List ℕ
  b₅ = write_from 1 mark_over (6891 + 2 * length indices) locks b₄

  l₁ : length b₁ ≡ 7146 + 2 * length indices
  l₁ = length-write 2 pair_over (λ x old e. length-le 2 x) (k ∷ []) 4 b (omega (arith, suits)) ∙ suits

  l₂ : length b₂ ≡ 7146 + 2 * length indices
  l₂ = length-write 1 byte_over (λ x old e. refl) palette 6 b₁ (omega (arith, l₁, palette-long)) ∙ l₁

  l₃ : length b₃ ≡ 7146 + 2 * length indices
  l₃ = length-write 8 double_over double-sized lab 771 b₂ (omega (arith, l₂, lab-long)) ∙ l₂

  l₄ : length b₄ ≡ 7146 + 2 * length indices
  l₄ = length-write 2 index_over (λ x old e. length-le 2 (of_z w16 x)) indices 6891 b₃ (omega (arith, l₃)) ∙ l₃

  l₅ : length b₅ ≡ 7146 + 2 * length indices
  l₅ = length-write 1 mark_over (λ x old e. refl) locks (6891 + 2 * length indices) b₄ (omega (arith, l₄, locks-long)) ∙ l₄

  f₄ : take (6891 + 2 * length indices) b₅ ≡ take (6891 + 2 * length indices) b₄
  f₄ = take-write 1 mark_over (λ x old e. refl) (6891 + 2 * length indices) locks (6891 + 2 * length indices) b₄ (omega (arith, l₄, locks-long)) (omega arith)

  f₃ : take 6891 b₅ ≡ take 6891 b₃
  f₃ =
      shorter 6891 (6891 + 2 * length indices) b₅ b₄ (omega arith) f₄
      ∙ take-write 2 index_over (λ x old e. length-le 2 (of_z w16 x)) 6891 indices 6891 b₃ (omega (arith, l₃)) (omega arith)

  f₂ : take 771 b₅ ≡ take 771 b₂
  f₂ = shorter 771 6891 b₅ b₃ (omega arith) f₃ ∙ take-write 8 double_over double-sized 771 lab 771 b₂ (omega (arith, l₂, lab-long)) (omega arith)

  f₁ : take 6 b₅ ≡ take 6 b₁
  f₁ = shorter 6 771 b₅ b₂ (omega arith) f₂ ∙ take-write 1 byte_over (λ x old e. refl) 6 palette 6 b₁ (omega (arith, l₁, palette-long)) (omega arith)

  f₀ : take 4 b₅ ≡ take 4 b
  f₀ = shorter 4 6 b₅ b₁ (omega arith) f₁ ∙ take-write 2 pair_over (λ x old e. length-le 2 x) 4 (k ∷ []) 4 b (omega (arith, suits)) (omega arith)

  pub same_length : length b₅ ≡ length b
  same_length = l₅ ∙ sym suits

  pub same_width : width_in b₅ ≡ width_in b
  unfolding le_at
  same_width = ap unle (window 2 0 b₅ b (shorter 2 4 b₅ b (omega arith) f₀))

  pub same-height : height_in b₅ ≡ height_in b
  unfolding le_at
  same-height = ap unle (window 2 2 b₅ b f₀)

  pub same_count : count_in b₅ ≡ k
  unfolding le_at read_from All
  same_count =
      ap unle (window 2 4 b₅ b₁ f₁)
      ∙ ap (λ (l : List ℕ). get_or l 0 0)
      (read_whole 2 unle pair_over (λ (x : ℕ). x) (λ (x : ℕ). x < 65536) (λ x old e. length-le 2 x) (λ x old h. pair-back x h) (k ∷ []) 4 b (omega (arith, suits)) (k-small, tt))

  pub same-palette : palette_in b₅ ≡ palette
  same-palette =
      read-front 1 byte_in 6 765 b₅ b₂ f₂
      ∙ ap (λ (m : ℕ). read_from 1 byte_in 6 m b₂) (sym palette-long)
      ∙ read_whole 1 byte_in byte_over (λ (x : ℕ). x) (λ (x : ℕ). Unit {0}) (λ x old e. refl) (λ x old h. refl) palette 6 b₁ (omega (arith, l₁, palette-long)) (all_any palette)
      ∙ map_same palette

  pub lab-back : (j : ℕ) → All Kept (take j lab) → take j (lab_in b₅) ≡ take j lab
  lab-back j h =
      ap (take j) (read-front 8 double_from 771 765 b₅ b₃ f₃ ∙ ap (λ (m : ℕ). read_from 8 double_from 771 m b₃) (sym lab-long))
      ∙ read-written 8 double_from double_over (λ (x : Float). x) Kept double-sized double-back j lab 771 b₂ (omega (arith, l₂, lab-long)) h
      ∙ ap (take j) (map_same lab)

  -- all of it, where LAB past j numbers is the buffer's own
  pub lab-whole : (j : ℕ) → All Kept (take j lab) → drop j lab ≡ drop j (lab_in b) → lab_in b₅ ≡ lab
  lab-whole j h e =
      let same : drop 771 b₂ ≡ drop 771 b =
      drop-write 1 byte_over (λ x old q. refl) 771 palette 6 b₁ (omega (arith, l₁, palette-long)) (omega (arith, palette-long))
      ∙ drop-write 2 pair_over (λ x old q. length-le 2 x) 771 (k ∷ []) 4 b (omega (arith, suits)) (omega arith) in
      let here = over-parts j 771 lab (lab_in b) b h e (ap (λ (m : ℕ). read_from 8 double_from 771 m b) (sym lab-long)) in
      read-front 8 double_from 771 765 b₅ b₃ f₃
      ∙ ap (λ (m : ℕ). read_from 8 double_from 771 m b₃) (sym lab-long)
      ∙ read-over 8 double_from double_over double-sized lab 771 b₂ (omega (arith, l₂, lab-long)) (over-same 8 Again-double lab 771 b b₂ (sym same) here)

  pub same-indices : places_in b ≡ length indices → All (SFits w16) indices → indices_in b₅ ≡ indices
  same-indices size h =
      ap (λ (m : ℕ). read_from 2 index_in 6891 m b₅) (ap (λ (w : ℕ). w * height_in b₅) same_width ∙ ap (λ (x : ℕ). width_in b * x) same-height ∙ size)
      ∙ read-front 2 index_in 6891 (length indices) b₅ b₄ f₄
      ∙ read_whole 2 index_in index_over (λ (x : ℤ). x) (SFits w16) (λ x old e. length-le 2 (of_z w16 x)) (λ x old f. index_back x f) indices 6891 b₃ (omega (arith, l₃)) h
      ∙ map_same indices

  pub same-places : places_in b ≡ length indices → places_in b₅ ≡ length indices
  same-places size = ap (λ (w : ℕ). w * height_in b₅) same_width ∙ ap (λ (x : ℕ). width_in b * x) same-height ∙ size

  pub same-locks : places_in b ≡ length indices → locks_in b₅ ≡ locks
  same-locks size =
      ap (λ (m : ℕ). read_from 1 mark_in (6891 + 2 * m) 255 b₅) (same-places size)
      ∙ ap (λ (m : ℕ). read_from 1 mark_in (6891 + 2 * length indices) m b₅) (sym locks-long)
      ∙ read_whole 1 mark_in mark_over (λ (x : Bool). x) (λ (x : Bool). Unit {0}) (λ x old e. refl) (λ x old h. mark-back x) locks (6891 + 2 * length indices) b₄ (omega (arith, l₄, locks-long)) (all_any locks)
      ∙ map_same locks

  pub still-suits : places_in b ≡ length indices → sheet_misfits b₅ ≡ false
  unfolding sheet_misfits
  still-suits size =
      let marks : read_from 1 byte_in (6891 + 2 * length indices) 255 b₅ ≡ map mark_byte locks =
      ap (λ (m : ℕ). read_from 1 byte_in (6891 + 2 * length indices) m b₅) (sym locks-long)
      ∙ read_whole 1 byte_in mark_over mark_byte (λ (x : Bool). Unit {0}) (λ x old e. refl) (λ x old h. refl) locks (6891 + 2 * length indices) b₄ (omega (arith, l₄, locks-long)) (all_any locks) in
      rw (same-places size, marks, eq-eqb (length b₅) (7146 + 2 * length indices) l₅, mark-one locks)
