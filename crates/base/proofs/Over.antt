-- A result buffer as a loop fills it: `over f l` has f in front and the rest of l. Assumes nothing.
use mathlib.Core.Path.{◌≡◌, refl, sym, ap, ◌∙◌}
use mathlib.Core.List.{List, [], ◌∷◌, ◌++◌, append_assoc, append-nil}
use Prim.Native.Nat.{ℕ, suc, ◌+◌, ◌-◌, ◌<◌, ◌≤◌}
use native.Mathlib.Numerals.{add-one}
use native.Mathlib.Omega.{arith}
use borrow.Rule.Slice.PartMut.{put_mid}
use lib.ListN.{length, take, drop, set, length-append, length-drop, drop_of_length-le}
use lib.Seq.{take_all, drop-cons, drop-drop, append_snoc, set-append_seam, take-append_seam, drop-append_seam}
use Rattle.base.specs.Lists.{over}

module _ {A : Type 0} where
  pub over_none : (l : List A) → l ≡ over [] l
  unfolding over
  over_none l = refl

  -- the result's length, known as n
  pub over-is : (f l : List A) (n : ℕ) → length f ≡ n → f ++ drop n l ≡ over f l
  unfolding over
  over-is f l n e = rw (← e)

  pub length_over : (f l : List A) → length f ≤ length l → length (over f l) ≡ length l
  unfolding over
  length_over f l h = simp (length-append, length-drop) (omega arith)

  -- a store behind the front
  pub over-set : (f l : List A) (n : ℕ) (a : A) → length f ≡ n → n < length l → set (over f l) n a ≡ over (f ++ (a ∷ [])) l
  unfolding over
  over-set f l n a e h =
      let next : length f + 1 ≡ suc (length f) = add-one (length f) in
      rw (← e) (rw (drop-cons l (length f) a (omega arith), set-append_seam, length-append, append_snoc, next))

  -- two stores
  pub over-pair : (f l : List A) (n : ℕ) (a b : A) → length f ≡ n → n + 1 < length l → set (set (over f l) n a) (n + 1) b ≡ over (f ++ (a ∷ b ∷ [])) l
  over-pair f l n a b e h =
      ap (λ s. set s (n + 1) b) (over-set f l n a e (omega arith))
      ∙ over-set (f ++ (a ∷ [])) l (n + 1) b (simp length-append (omega arith)) h
      ∙ ap (λ s. over s l) (append_assoc f (a ∷ []) (b ∷ []))

  -- what is written behind the front
  pub joined : (f g l : List A) (n : ℕ) → length f ≡ n → take n (over f l) ++ over g (drop n (over f l)) ≡ over (f ++ g) l
  unfolding over
  joined f g l n e = rw (← e) (rw (take-append_seam, drop-append_seam, drop-drop, length-append) (sym (append_assoc f g (drop (length f + length g) l))))

  -- `&mut s[n..]`, lent behind the front to a callee that wrote g over it
  pub over-lent : (f g l s part : List A) (n : ℕ) → length f ≡ n → s ≡ over f l → part ≡ over g (take (length s - n) (drop n s)) → put_mid n (length s - n) s part ≡ over (f ++ g) l
  over-lent f g l s part n e q p = rw (p, all-of-it s n, none_after s n, append-nil (over g (drop n s)), q) (joined f g l n e)
    where
      all-of-it : (s : List A) (n : ℕ) → take (length s - n) (drop n s) ≡ drop n s
      all-of-it s n = take_all (length s - n) (drop n s) (simp length-drop (omega arith))

      none_after : (s : List A) (n : ℕ) → drop (length s - n) (drop n s) ≡ []
      none_after s n = drop_of_length-le (drop n s) {i = length s - n} (simp length-drop (omega arith))
