-- The checks of `spell`, in order, and what it answers. Assumes nothing.
use mathlib.Core.Path.{◌≡◌, sym, ◌∙◌}
use mathlib.Core.List.{List, [], ◌∷◌, ◌++◌}
use Prim.Native.Nat.{ℕ, ◌+◌, ◌*◌, ◌≤◌, ◌<◌}
use native.Mathlib.Omega.{arith}
use borrow.Author.Tests.{lt-ltb, le-ltb}
use lib.Dec.{ltb}
use lib.ListN.{length}
use lib.Seq.{length-take-le}
use Rattle.base.specs.Numbers.{no_space}
use Rattle.base.specs.Checks.{Check, ◌when◌, first_of}
use Rattle.base.specs.Answer.{leaving}
use Rattle.base.specs.Answer.Told.{result, alone}
use Rattle.base.specs.Lists.{over}
use Rattle.base.proofs.First.{first-here, refused-first, result-first}
use Rattle.sheet.specs.Sheet.{Sheet}
use Rattle.sheet.specs.Checks.{sheet_checks, WellFormed, Judged}
use Rattle.sheet.proofs.Judging.{past-sheet}
use Rattle.panel_frames.specs.Opening.{colours_of}
use Rattle.panel_spell.specs.Spelling.{spelt, spell_checks, spell_of, Spellable}
use Rattle.panel_spell.proofs.Written.{length-line}

-- the length of a sheet's line
pub length-spelt : (s : Sheet) → WellFormed s → length (spelt s) ≡ 13 + 6 * s.k + 2 * (s.w * s.h)
unfolding spelt
length-spelt s f =
    let few = f.limits.k-small in
    let long : length (colours_of s) ≡ 3 * s.k = length-take-le (3 * s.k) s.palette (omega (arith, f.limits.palette-length)) in
    rw (← f.limits.indices-length) (length-line s.w s.h s.k (colours_of s) s.indices long)

no_one : ◌≡◌ {A = ℕ} 1 0 → ⊥
no_one e = omega arith

no-sixteen : ◌≡◌ {A = ℕ} 16 0 → ⊥
no-sixteen e = omega arith

module _ (s : Sheet) (room : ℕ) where
  -- a number that comes first
  refused : (n : ℕ) → n ≡ first_of (spell_checks s room) → (n ≡ 0 → ⊥) → Spellable s room n
  refused n e h = record { value = e; small = λ z. absurd (h z); fits = λ z. absurd (h z) }

  pub too_wide : 64 < s.w → Spellable s room 1
  unfolding spell_checks first_of
  too_wide a = refused 1 (rw (lt-ltb 64 s.w a)) no_one

  pub too-tall : s.w ≤ 64 → 64 < s.h → Spellable s room 1
  unfolding spell_checks first_of
  too-tall a b = refused 1 (rw (le-ltb 64 s.w a, lt-ltb 64 s.h b)) no_one

  module _ (narrow : s.w ≤ 64) (low : s.h ≤ 64) where
    abbrev last : List Check
    last = no_space when ltb room (length (spelt s)) ∷ []

    past-sides : first_of (spell_checks s room) ≡ first_of (sheet_checks [] s ++ last)
    unfolding spell_checks first_of
    past-sides = rw (le-ltb 64 s.w narrow, le-ltb 64 s.h low)

    pub no-sheet : (n : ℕ) → Judged s n → (n ≡ 0 → ⊥) → Spellable s room n
    no-sheet n j h = refused n (first-here (sheet_checks [] s) last n j.value h ∙ sym past-sides) h

    module _ (f : WellFormed s) where
      by-room : first_of (spell_checks s room) ≡ first_of last
      by-room = past-sides ∙ past-sheet s f last

      pub too_short : room < 13 + 6 * s.k + 2 * (s.w * s.h) → Spellable s room 16
      unfolding first_of
      too_short h = refused 16 (sym (by-room ∙ rw (lt-ltb room (length (spelt s)) (omega (arith, length-spelt s f))))) no-sixteen

      pub spellable : 13 + 6 * s.k + 2 * (s.w * s.h) ≤ room → Spellable s room 0
      unfolding first_of
      spellable h =
          let room-enough : length (spelt s) ≤ room = omega (arith, length-spelt s f) in
          record {
            value = sym (by-room ∙ rw (le-ltb room (length (spelt s)) room-enough));
            small = λ z. record { fits = f; narrow = narrow; low = low };
            fits = λ z. room-enough;
          }

-- ---- the answer
module _ (s : Sheet) (text : List ℕ) where
  pub spell-refused : (n : ℕ) → Spellable s (length text) n → (n ≡ 0 → ⊥) → leaving (alone n) text ≡ spell_of s text
  unfolding spell_of
  spell-refused n j h = refused-first (spell_checks s (length text)) _ _ n j.value h

  pub spell-done : (n : ℕ) → Spellable s (length text) n → n ≡ 0 → (m : ℕ) (text' : List ℕ) → m ≡ length (spelt s) → text' ≡ over (spelt s) text → leaving (result m) text' ≡ spell_of s text
  unfolding spell_of
  spell-done n j z m text' e f = rw (e, f) (result-first (spell_checks s (length text)) _ _ (sym j.value ∙ z))
