-- A scratch in which the places of changes are marked, one by one. Assumes nothing.
use mathlib.Core.Path.{◌≡◌, refl, sym, ◌∙◌}
use mathlib.Core.Bool.{Bool, true, false, ◌||◌, or-true, or-false}
use mathlib.Core.List.{List}
use Prim.Native.Nat.{ℕ, zero, suc, ◌+◌, ◌*◌, ◌<◌, ◌≤◌}
use native.Mathlib.Omega.{arith}
use borrow.Author.Tests.{eqb-true, eqb-false}
use lib.Dec.{eqb}
use lib.ListN.{length, get_or, set, take, replicate, length-set}
use lib.Seq.{get_or-set_same, get_or-set_other, take-set-lt, length-take-le}
use Rattle.base.specs.Checks.{first_of}
use Rattle.base.proofs.First.{past}
use Rattle.base.proofs.Scan.{Flagged, flag-end}
use Rattle.sheet.specs.Sheet.{Sheet}
use Rattle.edit.specs.Change.{Change, place}
use Rattle.edit.specs.Checks.{named, remap_checks}
use Rattle.edit_pixels.specs.Inside.{marked, Marks}
use Rattle.edit_pixels.proofs.Nth.{Nth, nth-flag}
use Rattle.edit_pixels.proofs.Inside.{inside}
use Rattle.edit_remap.specs.Marked.{when_none}

-- whether a change names p
abbrev names : ℕ → ℕ → Change → Bool
names w p c = eqb (place w c) p

-- the marks and what is left say what all the changes say
pub record Marking (w : ℕ) (cs : List Change) (n i : ℕ) (marks : List ℕ) : Type 0 where
  pub long : length marks ≡ n
  says : (p : ℕ) → p < n → Flagged (names w p) cs i (marked marks p)

none-there : (n p : ℕ) → get_or (replicate {A = ℕ} n 0) p 0 ≡ 0
none-there zero p = refl
none-there (suc n) zero = refl
none-there (suc n) (suc p) = none-there n p

pub marking-none : (w : ℕ) (cs : List Change) {marks : List ℕ} (n : ℕ) → marks ≡ replicate n 0 → Marking w cs (length marks) 0 marks
unfolding marked
marking-none w cs n e = record { long = refl; says = λ p h. record { says = rw (e, none-there n p) } }

-- one mark more
more_by : (marks : List ℕ) (q p : ℕ) (t : Bool) → eqb q p ≡ t → q < length marks → marked (set marks q 1) p ≡ marked marks p || t
unfolding marked
more_by marks q p true e h = rw (← eqb-true q p e, get_or-set_same marks q 1 0 h, or-true)
more_by marks q p false e h = rw (get_or-set_other marks q p 1 0 (λ r. eqb-false q p e (sym r)), or-false)

module _ {w : ℕ} {cs : List Change} {n i : ℕ} {marks : List ℕ} (m : Marking w cs n i marks) where
  pub marking-next : {c : Change} → Nth cs i c → place w c < n → Marking w cs n (i + 1) (set marks (place w c) 1)
  marking-next {c} a k =
      let q : ℕ = place w c in
      record {
        long = length-set marks q 1 ∙ m.long;
        says = λ p b. nth-flag a (names w p) (m.says p b) refl (more_by marks q p (eqb q p) refl (rw m.long k));
      }

  pub marking-all : length cs ≤ i → Marks w cs marks
  unfolding named
  marking-all h = record { says = λ p b. flag-end (m.says p (rw m.long at b)) h }

-- ---- the first m of a scratch, which were clear
pub record MarkedTo (w : ℕ) (cs : List Change) (m : ℕ) (start : List ℕ) (i : ℕ) (marks : List ℕ) : Type 0 where
  pub long : length marks ≡ length start
  pub says : take m start ≡ replicate m 0 → Marking w cs m i (take m marks)

module _ (w : ℕ) (cs : List Change) (m : ℕ) (start : List ℕ) where
  pub none-marked : m ≤ length start → MarkedTo w cs m start 0 start
  none-marked h = record { long = refl; says = λ clear. rw (length-take-le m start h) at (marking-none w cs m clear) }

  pub one-marked : {i : ℕ} {marks : List ℕ} {c : Change} → MarkedTo w cs m start i marks → Nth cs i c → place w c < m → MarkedTo w cs m start (i + 1) (set marks (place w c) 1)
  one-marked {marks = marks} {c = c} a b k =
      record {
        long = length-set marks (place w c) 1 ∙ a.long;
        says = λ clear. rw (take-set-lt m marks (place w c) 1 k) (marking-next (a.says clear) b k);
      }

  pub all-marked : {i : ℕ} {marks : List ℕ} → MarkedTo w cs m start i marks → length cs ≤ i → take m start ≡ replicate m 0 → Marks w cs (take m marks)
  all-marked a h clear = marking-all (a.says clear) h

-- ---- one change
-- what a number other than 0 keeps
pub kept : {A : Type 0} (n : ℕ) (a b : A) → (n ≡ 0 → ⊥) → b ≡ when_none n a b
kept zero a b h = absurd (h refl)
kept (suc n) a b h = refl

-- a change of a remap to which no check applies stands in the picture
pub move-inside : (s : Sheet) (i n : ℕ) (c : Change) → n ≡ s.w * s.h → first_of (remap_checks s i c) ≡ 0 → place s.w c < n
unfolding remap_checks
move-inside s i n c q e = inside s.w s.h n q c (past _ _ (omega arith) e).off
