-- What a call answered: where it counts n changes, no check refused it, and the first n of its buffer are its list. Assumes nothing.
use Prim.Native.Nat.{ℕ, zero, suc, ◌≤◌}
use mathlib.Core.Path.{◌≡◌, refl, sym, ap, ◌∙◌}
use mathlib.Core.Bool.{true, false}
use mathlib.Core.List.{List, [], ◌∷◌, ◌++◌, map}
use mathlib.Core.Option.{Option}
use native.Mathlib.Omega.{arith}
use lib.Dec.{ltb}
use lib.ListN.{length, take, drop, length-map}
use lib.Seq.{take_at}
use Rattle.base.specs.Checks.{Check, first_of, refused_or, checked}
use Rattle.base.specs.Answer.{Told, Filled, leaving}
use Rattle.base.specs.Answer.Told.{result, alone}
use Rattle.base.proofs.Told.{alone-other, same-result}
use Rattle.base.specs.Lists.{over}
use Rattle.sheet.specs.Sheet.{Sheet}
use Rattle.sheet.specs.Checks.{WellFormed}
use Rattle.selection.specs.declared.Selection.{Selection}
use Rattle.selection.specs.Calls.{Shift, shift}
use Rattle.edit.specs.Change.{Change, packed, unpacked}
use Rattle.change_list.specs.Listed.{handed, listed}
use Rattle.tool_paste_model.specs.Pasting as pasting
use Rattle.tool_paste_model.specs.Pasting.{shifted_of}
use Rattle.tool_shortest.specs.Shortest.{Returned, Returns, Shifts}
use Rattle.tool_shortest.proofs.Such.{packed-trip}

module _ (s : Sheet) where
  -- what is known of a list where no check refuses
  pub record Fine (cs : List Change) : Type 0 where
    pub fits : WellFormed s
    pub returned : Returned s cs

  module _ (cs : List Change) (out : List ℕ) where
    front : Fine cs → (n : ℕ) → length (map packed cs) ≡ n → Returned s (map unpacked (take n (over (map packed cs) out)))
    unfolding over
    front f n e = rw (take_at (map packed cs) (drop (length (map packed cs)) out) n e, packed-trip s f.fits cs f.returned) f.returned

    -- one list of checks, 16 of the result among them
    by_number : (m : ℕ) → (m ≡ 0 → Fine cs) → (k : ℕ) → k ≡ length (map packed cs)
        → Returns s (refused_or m (λ n. leaving (alone n) out) (leaving (result k) (over (map packed cs) out)))
    unfolding refused_or
    by_number zero f k e n q = front (f refl) n (sym e ∙ same-result q)
    by_number (suc m) f k e n q = absurd (alone-other q)

    pub returns-checked : (checks : List Check) → (first_of checks ≡ 0 → Fine cs)
        → Returns s (checked checks (λ n. leaving (alone n) out) (leaving (result (length cs)) (over (map packed cs) out)))
    returns-checked checks f = by_number (first_of checks) f (length cs) (sym (length-map cs packed))

    -- 16 of the result after the others
    by-numbers : (m : ℕ) → (m ≡ 0 → Fine cs) → Returns s (refused_or m (λ n. leaving (alone n) out) (handed (map packed cs) out))
    unfolding refused_or handed
    by-numbers zero f = by_number (first_of _) (λ e. f refl) (length (map packed cs)) refl
    by-numbers (suc m) f = λ n q. absurd (alone-other q)

    pub returns-listed : (checks : List Check) → (first_of checks ≡ 0 → Fine cs) → Returns s (listed checks cs out)
    unfolding listed
    returns-listed checks f = by-numbers (first_of checks) f

    -- with a selection beside it
    shifted-same : (c d : Told (Option Selection)) (r : Told ℕ) (n : ℕ) → shifted_of c r ≡ result (shift n d) → r ≡ result n
    unfolding shifted_of
    shifted-same c d (result m) n e = ap result (ap (λ (x : Shift). x.count) (same-result e))
    shifted-same c d (alone m) n e = absurd (alone-other e)

    pub returns-left : (checks : List Check) (c : Option Selection) → (first_of checks ≡ 0 → Fine cs) → Shifts s (pasting.leaves checks cs c out)
    unfolding pasting.leaves
    returns-left checks c f n d q = returns-listed checks f n (shifted-same (result c) d _ n q)
