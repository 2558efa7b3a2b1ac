-- The first numbers of a buffer that are a list: how many they are, a buffer of which a part was lent, and one number more. Assumes nothing.
use Prim.Native.Nat.{ℕ, ◌+◌, ◌≤◌, ◌<◌}
use mathlib.Core.Path.{◌≡◌, refl, sym, ap, ◌∙◌}
use mathlib.Core.List.{List, [], ◌∷◌, ◌++◌, append-nil}
use native.Mathlib.Omega.{arith}
use native.Mathlib.Decide.{dec_le}
use native.Mathlib.Numerals.{add-one}
use lib.ListN.{length, take, set}
use lib.Seq.{length-take-le, take-append-le, take_all, take-suc-set, drop-set-lt}
use Rattle.change_list.specs.Fronts.{Front, Put}

pub front_of : {l s : List ℕ} {r : ℕ} → take r s ≡ l → r ≤ length s → Front l s r
front_of {l} {s} {r} e h = record { front = e; count = ap length (sym e) ∙ length-take-le r s h }

module _ {l s : List ℕ} {r : ℕ} (f : Front l s r) where
  -- the buffer has them all
  pub front-within : r ≤ length s
  front-within = elim (dec_le r (length s)) [
    | yes h ↦ h
    | no h ↦ absurd (h (let e : length s ≡ r = ap length (sym (take_all r s (omega arith)) ∙ f.front) ∙ f.count in omega arith))
  ]

  -- `&mut s[..n]`, lent to a callee that left them there
  pub front-lent : (t : List ℕ) → Front l (s ++ t) r
  front-lent t = record { front = take-append-le r s t front-within ∙ f.front; count = f.count }

-- one number put, or none
pub put-one : (l : List ℕ) (m c : ℕ) → m < length l → Put l m (c ∷ []) (m + 1) (set l m c) (m + 1)
put-one l m c h =
    record {
      front = rw add-one (take-suc-set l m c h);
      most = omega arith;
      behind = drop-set-lt (m + 1) l m c (omega arith);
    }

pub put-none : (l : List ℕ) (m : ℕ) → Put l m [] (m + 1) l m
put-none l m = record { front = sym (append-nil (take m l)); most = omega arith; behind = refl }
