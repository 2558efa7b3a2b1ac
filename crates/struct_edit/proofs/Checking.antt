-- A list checked change by change: past the first change that a check applies to, the number and the marks stay. Assumes nothing.
use mathlib.Core.Path.{◌≡◌, refl, sym, ap, ◌∙◌}
use mathlib.Core.Bool.{Bool}
use mathlib.Core.List.{List}
use mathlib.Core.Logic.{◌⊎◌, inl, inr}
use Prim.Native.Nat.{ℕ, zero, suc, ◌≤◌, ◌<◌}
use native.Mathlib.Nat.{eq-or-lt_of_le}
use native.Mathlib.Omega.{arith}
use lib.ListN.{get_or, take}
use lib.Seq.{get_or-take}
use Rattle.base.specs.Checks.{or_else, first_of}
use Rattle.sheet.specs.Sheet.{Sheet}
use Rattle.edit.specs.declared.ListKind.{ListKind}
use Rattle.edit.specs.declared.ListKind.TheVariants.{NoList, PixelList, RemapList}
use Rattle.edit.specs.Change as flat
use Rattle.edit.specs.Checks.{change_checks}
use Rattle.base.specs.declared.Change.{Change}
use Rattle.struct_edit.specs.Walk.{flat_of, none, mark_one, check_upto, mark_upto}

pub or-zero : (a b : ℕ) → or_else a b ≡ 0 → a ≡ 0
or-zero zero b e = refl
or-zero (suc a) b e = absurd (omega arith)

module _ (no : ℕ) (replay : Bool) (s : Sheet) (l : ListKind) (list : List Change) where
  abbrev codes : ℕ → ℕ
  codes i = check_upto no replay s l list i

  -- a number that is 0 after some changes was 0 before them
  pub first-zero : (i : ℕ) → codes i ≡ 0 → no ≡ 0
  first-zero zero z = z
  first-zero (suc i) z = first-zero i (or-zero _ _ z)

  module _ (marks : List ℕ) where
    abbrev marking : ℕ → List ℕ
    marking i = mark_upto no replay s l list marks i

    abbrev Stays : ℕ → ℕ → Type 0
    Stays i n = (codes i ≡ codes n) × (marking i ≡ marking n)

    -- past a change that a check applies to nothing changes
    unmarked : (l : ListKind) (w : ℕ) (c : flat.Change) (n : ℕ) (m : List ℕ) → m ≡ mark_one (suc n) l w c m
    unfolding mark_one
    unmarked NoList w c n m = refl
    unmarked PixelList w c n m = refl
    unmarked (RemapList i) w c n m = refl

    refused : (i n m : ℕ) → codes i ≡ suc m → i ≤ n → Stays i n
    refused i zero m e h = let q : i ≡ 0 = omega (arith, h) in (ap codes q, ap marking q)
    refused i (suc n) m e h = by_end (eq-or-lt_of_le h) (refused i n m e)
      where
        by_end : (i ≡ suc n) ⊎ (i < suc n) → (i ≤ n → Stays i n) → Stays i (suc n)
        by_end (inl q) stays = (ap codes q, ap marking q)
        by_end (inr lt) stays =
            let before : Stays i n = stays (omega (arith, lt)) in
            let c : flat.Change = flat_of (get_or list n none) in
            let number : codes n ≡ suc m = sym before.0 ∙ e in
            let same : suc m ≡ codes (suc n) = sym (ap (λ (a : ℕ). or_else a (first_of (change_checks replay s l c))) number) in
            (e ∙ same, before.1 ∙ unmarked l s.w c m (marking n) ∙ ap (λ (a : ℕ). mark_one a l s.w c (marking n)) same)

    -- the answer is a number that is not 0
    pub stays : (i n : ℕ) → (codes i ≡ 0 → ⊥) → i ≤ n → Stays i n
    stays i n e h = by_number (codes i) refl
      where
        by_number : (a : ℕ) → codes i ≡ a → Stays i n
        by_number zero q = absurd (e q)
        by_number (suc m) q = refused i n m q h

    -- that of the change at i, the first that a check applies to
    pub stays-at : (i n : ℕ) {r : ℕ} {m after : List ℕ} → codes i ≡ 0 → m ≡ marking i → (r ≡ 0 → ⊥) → i < n
        → (let c = flat_of (get_or (take n list) i none) in (r ≡ first_of (change_checks replay s l c)) × (after ≡ mark_one r l s.w c m)) → (r ≡ codes n) × (after ≡ marking n)
    stays-at i n {r} {m} {after} z q e h d =
        let c : flat.Change = flat_of (get_or list i none) in
        let says : (r ≡ first_of (change_checks replay s l c)) × (after ≡ mark_one r l s.w c m) = rw get_or-take at d in
        let number : r ≡ codes (suc i) = says.0 ∙ sym (ap (λ (a : ℕ). or_else a (first_of (change_checks replay s l c))) z) in
        let marks : after ≡ marking (suc i) = says.1 ∙ ap (λ (a : ℕ). mark_one a l s.w c m) number ∙ ap (mark_one (codes (suc i)) l s.w c) q in
        let rest : Stays (suc i) n = stays (suc i) n (λ p. e (number ∙ p)) h in
        (number ∙ rest.0, marks ∙ rest.1)
