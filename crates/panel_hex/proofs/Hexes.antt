-- Digits read two by two: what is left to read, with what was read in front, is what the whole line spells. Assumes nothing.
use Prim.Native.Nat.{ℕ, ◌+◌, ◌*◌, ◌/◌, ◌%◌, ◌≤◌, ◌<◌}
use mathlib.Core.Path.{◌≡◌, refl, sym, ap, ◌∙◌}
use Rattle.std.specs.Prelude.{◌≢◌, Some, None}
use Rattle.std.specs.Bool.{then_some}
use Rattle.std.proofs.lemmas.Option.{none-some}
use mathlib.Core.Bool.{Bool, true, false}
use Rattle.std.proofs.lemmas.List.{nil_from_length}
use mathlib.Core.List.{List, [], ◌∷◌, ◌++◌, append_assoc, append-nil as append-nil'}
use mathlib.Core.Option.{Option, none, some}
use native.Mathlib.Numerals.{add-one}
use native.Mathlib.Omega.{arith}
use borrow.Author.Tests.{lt-ltb, le-ltb, ltb-true, ltb-false}
use lib.Dec.{ltb}
use lib.ListN.{length, take, get_or, set, length-set}
use lib.Seq.{take-suc-set}
use Rattle.panel_hex.specs.Hex.{pair_val, prepend, unhex_of}

pub prepend-nil : (m : Option (List ℕ)) → prepend [] m ≡ m
unfolding prepend
prepend-nil none = refl
prepend-nil (some l) = refl

pub prepend-append : (p q : List ℕ) (m : Option (List ℕ)) → prepend (p ++ q) m ≡ prepend p (prepend q m)
unfolding prepend
prepend-append p q none = refl
prepend-append p q (some l) = ap some (append_assoc p q l)

-- a number that is told where it is below a bound
below-some : (x n v : ℕ) → Some v ≡ then_some (ltb x n) x → (v ≡ x) × (x < n)
below-some x n v e = by (ltb x n) refl
  where
    by : (t : Bool) → ltb x n ≡ t → (v ≡ x) × (x < n)
    by true h = (let q : Some v ≡ Some x = rw h at e in cc, ltb-true x n h)
    by false h = absurd (none-some v (sym (rw h at e)))

below-none : (x n : ℕ) → None ≡ then_some (ltb x n) x → n ≤ x
below-none x n e = by (ltb x n) refl
  where
    by : (t : Bool) → ltb x n ≡ t → n ≤ x
    by true h = absurd (none-some x (rw h at e))
    by false h = ltb-false x n h

-- the first n bytes are read, and `rest` is what is left of the line
pub record Spelling (line out₀ out rest : List ℕ) (n : ℕ) : Type 0 where
  pub low : 2 * n + length rest ≡ length line
  pub long : length out ≡ length out₀
  pub is : prepend (take n out) (unhex_of rest) ≡ unhex_of line

module _ (line out₀ : List ℕ) where
  pub spelling-start : (rest : List ℕ) (n : ℕ) → rest ≡ line → n ≡ 0 → Spelling line out₀ out₀ rest n
  spelling-start rest n e z = rw (e, z) (record { low = omega arith; long = refl; is = prepend-nil (unhex_of line) })

  module _ (out rest : List ℕ) (n : ℕ) (p : Spelling line out₀ out rest n) where
    pub spelling-step : (x more : List ℕ) (v i m : ℕ) → rest ≡ x ++ more → length x ≡ 2 → i ≡ n → m ≡ n + 1 → length line ≤ 2 * length out₀ + 1
        → Some v ≡ then_some (ltb (pair_val (get_or x 0 0) (get_or x 1 0)) 256) (pair_val (get_or x 0 0) (get_or x 1 0)) → Spelling line out₀ (set out i v) more m
    unfolding unhex_of
    spelling-step (a ∷ b ∷ []) more v i m e two at next fits told =
        let (is, small) = below-some (pair_val a b) 256 v told in
        let room : n < length out = omega (arith, ap length e, p.low, p.long) in
        let t : take (n + 1) (set out n v) ≡ take n out ++ (v ∷ []) = rw (add-one n) (take-suc-set out n v room) in
        let d : unhex_of rest ≡ prepend (v ∷ []) (unhex_of more) = rw (e, lt-ltb (pair_val a b) 256 small, is) in
        rw (at, next) (record {
          low = omega (arith, ap length e, p.low);
          long = length-set out n v ∙ p.long;
          is = rw (t, prepend-append (take n out) (v ∷ []), ← d) p.is;
        })
    spelling-step [] more v i m e two at next fits told = absurd (omega (arith, two))
    spelling-step (a ∷ []) more v i m e two at next fits told = absurd (omega (arith, two))
    spelling-step (a ∷ b ∷ c ∷ x) more v i m e two at next fits told = absurd (omega (arith, two))

    pub spelling-bad : (x more : List ℕ) → rest ≡ x ++ more → length x ≡ 2 → None ≡ then_some (ltb (pair_val (get_or x 0 0) (get_or x 1 0)) 256) (pair_val (get_or x 0 0) (get_or x 1 0))
        → none ≡ unhex_of line
    unfolding unhex_of prepend
    spelling-bad (a ∷ b ∷ []) more e two told = let d : unhex_of rest ≡ none = rw (e, le-ltb (pair_val a b) 256 (below-none (pair_val a b) 256 told)) in rw d at p.is
    spelling-bad [] more e two told = absurd (omega (arith, two))
    spelling-bad (a ∷ []) more e two told = absurd (omega (arith, two))
    spelling-bad (a ∷ b ∷ c ∷ x) more e two told = absurd (omega (arith, two))

    pub spelling-end : length line % 2 ≡ 0 → length rest < 2 → some (take (length line / 2) out) ≡ unhex_of line
    unfolding unhex_of prepend
    spelling-end even short =
        let e : rest ≡ [] = nil_from_length rest (omega (arith, p.low)) in
        let h : length line / 2 ≡ n = omega (arith, p.low) in
        rw (h, ← p.is, e) (sym (ap some (append-nil' (take n out))))

-- a line of an odd length spells nothing
pub unhex-odd : (s : List ℕ) → length s % 2 ≢ 0 → none ≡ unhex_of s
unfolding unhex_of prepend
unhex-odd [] h = absurd (omega arith)
unhex-odd (a ∷ []) h = refl
unhex-odd (a ∷ b ∷ s) h = let e : none ≡ unhex_of s = unhex-odd s (omega arith) in rw (← e) (grind arith)
