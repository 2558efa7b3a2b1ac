-- Indices laid out in a scratch as their bits, and painted there. Assumes nothing.
use Prim.Native.Nat.{ℕ, ◌+◌, ◌%◌, ◌≤◌, ◌<◌, ◌^◌}
use mathlib.Core.Path.{◌≡◌, refl, sym, ap, ◌∙◌}
use mathlib.Core.List.{List, [], ◌∷◌, map}
use native.Mathlib.Omega.{arith}
use native.Mathlib.Numerals.{add-one}
use native.Mathlib.Decide.{ℕ_discrete, dec_lt}
use lib.IntN.{ℤ, pos}
use lib.ListN.{length, take, drop, get_or, set, length-take, length-map, get_or-map}
use lib.Signed.{mag}
use mir.Syntax.{w16}
use mir.Val.{SFits, to_z, of_z, hbits}
use mir.ValLaws.{of_z_fits, to_z-of_z}
use Rattle.base.proofs.Back.{by_value}
use lib.Seq.{take-suc, take_all, take_at, length-take-le, take-set-lt, take-set-le, set_out}
use Rattle.base.specs.Lists.{over, All}
use Rattle.base.proofs.Mapped.{map-set}
use Rattle.base.proofs.Each.{all-at}
use Rattle.change_list.specs.Between.{laid_out}
use Rattle.base.proofs.Over.{over_none, over-set}

-- bits that were an index are that index
pub bit-back : (z : ℤ) → SFits w16 z → to_z w16 (of_z w16 z % 2 ^ 16) ≡ z
bit-back z f = let e : of_z w16 z % 2 ^ 16 ≡ of_z w16 z = omega (arith, (of_z_fits w16 z f).fits) in rw e (to_z-of_z w16 z f)

bits_back : (l : List ℤ) → All (SFits w16) l → map (λ v. to_z w16 (v % 2 ^ 16)) (map (of_z w16) l) ≡ l
unfolding All
bits_back [] a = refl
bits_back (z ∷ l) a = rw (bit-back z a.0, bits_back l a.1)

-- ---- indices laid out as their bits, as the code reads them
module _ (l : List ℤ) (o₀ : List ℕ) where
  abbrev bits : List ℕ
  bits = map (of_z w16) l

  pub record Laying (o : List ℕ) (i : ℕ) : Type 0 where
    pub done : o ≡ over (take i bits) o₀
    pub fits : (j : ℕ) → j < i → SFits w16 (get_or l j (pos 0))

  pub laying-start : Laying o₀ 0
  laying-start = record { done = over_none o₀; fits = λ j k. absurd (omega arith) }

  module _ (h : length l ≤ length o₀) {o : List ℕ} {i : ℕ} (c : Laying o i) where
    pub laying-next : {b : ℕ} → i < length l → mag (get_or l i (pos 0)) < 2 ^ hbits w16 → b ≡ of_z w16 (to_z w16 (of_z w16 (get_or l i (pos 0)))) → Laying (set o i b) (i + 1)
    laying-next {b} k m e =
        let here : SFits w16 (get_or l i (pos 0)) = record { sfits = m } in
        let in_bits : i < length bits = omega (arith, length-map l (of_z w16)) in
        let is : b ≡ get_or bits i 0 = by_value (of_z w16) here e ∙ sym (get_or-map (of_z w16) l i (pos 0)) in
        record {
          done = rw (is, add-one, take-suc bits i 0 in_bits)
              (ap (λ (v : List ℕ). set v i (get_or bits i 0)) c.done
              ∙ over-set (take i bits) o₀ i (get_or bits i 0) (length-take-le i bits (omega arith)) (omega arith));
          fits = λ j q. elim (ℕ_discrete j i) [ yes z ↦ rw z here | no z ↦ c.fits j (omega arith) ];
        }

    module _ (k : length l ≤ i) where
      pub laying-end : o ≡ over bits o₀
      laying-end = c.done ∙ ap (λ (v : List ℕ). over v o₀) (take_all i bits (omega (arith, length-map l (of_z w16))))

      -- the scratch holds the picture
      pub laying-laid : laid_out (length l) o ≡ l
      unfolding laid_out over
      laying-laid =
          let front : take (length l) o ≡ bits = ap (take (length l)) laying-end ∙ take_at bits (drop (length bits) o₀) (length l) (length-map l (of_z w16)) in
          rw front (bits_back l (all-at (SFits w16) (pos 0) l (λ j q. c.fits j (omega arith))))

-- ---- an index painted in a picture that is laid out
pub laid-set : (n : ℕ) (s : List ℕ) (p : ℕ) (z : ℤ) → SFits w16 z → laid_out n (set s p (of_z w16 z)) ≡ set (laid_out n s) p z
unfolding laid_out
laid-set n s p z f =
    let v : ℕ = of_z w16 z in
    let index : ℕ → ℤ = λ v. to_z w16 (v % 2 ^ 16) in
    elim (dec_lt p n) [
      | yes h ↦ ap (map index) (take-set-lt n s p v h) ∙ map-set index (take n s) p v ∙ ap (set (map index (take n s)) p) (bit-back z f)
      | no h ↦ ap (map index) (take-set-le n s p v (omega arith)) ∙ sym (set_out (map index (take n s)) p z (omega (arith, length-map (take n s) index, length-take n s)))
    ]
