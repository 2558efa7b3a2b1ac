-- A change and its number. Assumes nothing.
use Prim.Native.Nat.{ℕ, ◌+◌, ◌*◌, ◌/◌, ◌%◌, ◌<◌, ◌^◌}
use mathlib.Core.Path.{◌≡◌, sym, ap, ◌∙◌}
use mathlib.Core.Bool.{not}
use native.Mathlib.Omega.{arith}
use lib.Dec.{eqb}
use lib.Pow.{field}
use mir.Syntax.{w16}
use mir.Val.{Fits, to_z}
use mir.ValLaws.{of_z-to_z, to_z-Fits}
use Rattle.base.proofs.Back.{eq-back}
use Rattle.edit.specs.Change.{packed, unpacked}
use Rattle.base.specs.Ints.{eq_z}
use Rattle.change_normal.specs.Normal.{key_of, joined, changing}
use Rattle.change_normal.specs.Keys.{joined_n}

-- 16 bits compared are indices compared
pub eq_z-bits : (a b : ℕ) → a < 2 ^ 16 → b < 2 ^ 16 → eq_z (to_z w16 a) (to_z w16 b) ≡ eqb a b
eq_z-bits a b h k =
    let f : Fits w16 a = record { fits = h } in
    let g : Fits w16 b = record { fits = k } in
    sym (eq-back (to_z-Fits w16 a f) (to_z-Fits w16 b g)) ∙ rw (of_z-to_z w16 a f, of_z-to_z w16 b g)

pub key-unpacked : (c : ℕ) → key_of (unpacked c) ≡ c % 2 ^ 32
unfolding key_of unpacked
key-unpacked c = let s : c % 2 ^ 32 / 2 ^ 16 ≡ c / 2 ^ 16 % 2 ^ 16 = field c 16 16 in omega arith

low-div : (r k : ℕ) → (r + k * 2 ^ 48) / 2 ^ 16 ≡ r / 2 ^ 16 + k * 2 ^ 32
low-div r k = omega arith

low-mod : (x k : ℕ) → (x + k * 2 ^ 32) % 2 ^ 16 ≡ x % 2 ^ 16
low-mod x k = omega arith

mod-mod : (x : ℕ) → x % 2 ^ 32 % 2 ^ 16 ≡ x % 2 ^ 16
mod-mod x = omega arith

mid-div : (r k : ℕ) → (r + k * 2 ^ 48) / 2 ^ 32 ≡ r / 2 ^ 32 + k * 2 ^ 16
mid-div r k = omega arith

mid-mod : (x k : ℕ) → (x + k * 2 ^ 16) % 2 ^ 16 ≡ x % 2 ^ 16
mid-mod x k = omega arith

mod-mod' : (x : ℕ) → x % 2 ^ 16 % 2 ^ 16 ≡ x % 2 ^ 16
mod-mod' x = omega arith

high-div : (r k : ℕ) → r < 2 ^ 48 → (r + k * 2 ^ 48) / 2 ^ 48 ≡ k
high-div r k h = omega arith

pub joined-unpacked : (e c : ℕ) → c < 2 ^ 64 → unpacked (joined_n e c) ≡ joined (unpacked e) (unpacked c)
unfolding unpacked joined_n joined
joined-unpacked e c h =
    let k : ℕ = c / 2 ^ 48 in
    let n : ℕ = e % 2 ^ 48 + k * 2 ^ 48 in
    let a : n % 2 ^ 16 ≡ e % 2 ^ 16 = omega arith in
    let b : n / 2 ^ 16 % 2 ^ 16 ≡ e / 2 ^ 16 % 2 ^ 16 =
    ap (λ (z : ℕ). z % 2 ^ 16) (low-div (e % 2 ^ 48) k) ∙ low-mod (e % 2 ^ 48 / 2 ^ 16) k
    ∙ ap (λ (z : ℕ). z % 2 ^ 16) (field e 32 16) ∙ mod-mod (e / 2 ^ 16) in
    let d : n / 2 ^ 32 % 2 ^ 16 ≡ e / 2 ^ 32 % 2 ^ 16 =
    ap (λ (z : ℕ). z % 2 ^ 16) (mid-div (e % 2 ^ 48) k) ∙ mid-mod (e % 2 ^ 48 / 2 ^ 32) k
    ∙ ap (λ (z : ℕ). z % 2 ^ 16) (field e 16 32) ∙ mod-mod' (e / 2 ^ 32) in
    let f : n / 2 ^ 48 % 2 ^ 16 ≡ k % 2 ^ 16 = ap (λ (z : ℕ). z % 2 ^ 16) (high-div (e % 2 ^ 48) k (omega arith)) in
    rw (a, b, d, f)

pub changing-unpacked : (c : ℕ) → c < 2 ^ 64 → changing (unpacked c) ≡ not (eqb (c / 2 ^ 32 % 2 ^ 16) (c / 2 ^ 48))
unfolding changing unpacked
changing-unpacked c h =
    let e : c / 2 ^ 48 % 2 ^ 16 ≡ c / 2 ^ 48 = omega arith in
    rw (eq_z-bits (c / 2 ^ 32 % 2 ^ 16) (c / 2 ^ 48 % 2 ^ 16) (omega arith) (omega arith), e)

part_low : (c : ℕ) → c % 2 ^ 16 + c / 2 ^ 16 % 2 ^ 16 * 2 ^ 16 ≡ c % 2 ^ 32
part_low c = let s : c % 2 ^ 32 / 2 ^ 16 ≡ c / 2 ^ 16 % 2 ^ 16 = field c 16 16 in omega arith

part-mid : (c : ℕ) → c % 2 ^ 32 + c / 2 ^ 32 % 2 ^ 16 * 2 ^ 32 ≡ c % 2 ^ 48
part-mid c = let s : c % 2 ^ 48 / 2 ^ 32 ≡ c / 2 ^ 32 % 2 ^ 16 = field c 16 32 in omega arith

part-high : (c : ℕ) → c < 2 ^ 64 → c % 2 ^ 48 + c / 2 ^ 48 % 2 ^ 16 * 2 ^ 48 ≡ c
part-high c h = omega arith

pub packed-unpacked : (c : ℕ) → c < 2 ^ 64 → packed (unpacked c) ≡ c
unfolding packed unpacked
packed-unpacked c h =
    rw (of_z-to_z w16 (c / 2 ^ 32 % 2 ^ 16) (record { fits = omega arith }), of_z-to_z w16 (c / 2 ^ 48 % 2 ^ 16) (record { fits = omega arith }))
    (ap (λ (z : ℕ). z + c / 2 ^ 32 % 2 ^ 16 * 2 ^ 32 + c / 2 ^ 48 % 2 ^ 16 * 2 ^ 48) (part_low c)
    ∙ ap (λ (z : ℕ). z + c / 2 ^ 48 % 2 ^ 16 * 2 ^ 48) (part-mid c) ∙ part-high c h)
