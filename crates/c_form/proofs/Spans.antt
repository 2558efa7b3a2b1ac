-- Numbers read from bytes: what they depend on, and that what was written is read. One law for every width. Assumes nothing.
use mathlib.Core.Path.{◌≡◌, refl, sym, ap, subst, ◌∙◌}
use mathlib.Core.Bool.{Bool, false}
use mathlib.Core.List.{List, [], ◌∷◌, map}
use Prim.Native.Nat.{ℕ, zero, suc, ◌+◌, ◌-◌, ◌*◌, ◌≤◌}
use native.Mathlib.Nat.{mul-suc}
use native.Mathlib.Omega.{arith}
use lib.ListN.{length, take, drop, length-drop, length-map}
use lib.Seq.{take-take, take_all, take-length, length-take-le, drop-drop}
use Rattle.base.specs.Lists.{some, All}
use Rattle.journal_record.specs.Bytes.{splice}
use Rattle.journal_record.proofs.LittleEndian.{drop-take}
use Rattle.c_form.specs.Fields.{read_from, write_from}
use Rattle.c_form.proofs.Fields.{length-read, drop-splice, at-splice, take-write, length-write}

-- a span of bytes is that of any bytes with the same front
pub window : (s at : ℕ) (b b' : List ℕ) → take (at + s) b ≡ take (at + s) b' → take s (drop at b) ≡ take s (drop at b')
window s at b b' e =
    let n : at + s - at ≡ s = omega arith in
    let one : take s (drop at b) ≡ drop at (take (at + s) b) = rw (drop-take at (at + s) b, n) in
    let two : take s (drop at b') ≡ drop at (take (at + s) b') = rw (drop-take at (at + s) b', n) in
    one ∙ ap (drop at) e ∙ sym two

-- a shorter front
pub shorter : (m n : ℕ) (b b' : List ℕ) → m ≤ n → take n b ≡ take n b' → take m b ≡ take m b'
shorter m n b b' h e = sym (take-take m n b h) ∙ ap (take m) e ∙ take-take m n b' h

module _ {A : Type 0} (s : ℕ) (read : List ℕ → A) where
  pub read-front : (at n : ℕ) (b b' : List ℕ) → take (at + s * n) b ≡ take (at + s * n) b' → read_from s read at n b ≡ read_from s read at n b'
  unfolding read_from
  read-front at zero b b' e = refl
  read-front at (suc n) b b' e =
      let more : at + s * suc n ≡ at + s + s * n = rw (mul-suc s n) (omega arith) in
      let head : take s (drop at b) ≡ take s (drop at b') = window s at b b' (shorter (at + s) (at + s * suc n) b b' (omega (arith, more)) e) in
      rw (head, read-front (at + s) n b b' (rw more at e))

  -- where no span reads as one that p holds of
  pub read_none : (p : A → Bool) → ((bytes : List ℕ) → p (read bytes) ≡ false) → (at n : ℕ) (b : List ℕ) → some p (read_from s read at n b) ≡ false
  unfolding read_from some
  read_none p h at zero b = refl
  read_none p h at (suc n) b = rw (h (take s (drop at b)), read_none p h (at + s) n b)

-- what was written is read, as far as P holds
module _ {A B : Type 0} (s : ℕ) (read : List ℕ → B) (write : A → List ℕ → List ℕ) (value : A → B) (P : A → Type 0)
    (sized : (x : A) (old : List ℕ) → length old ≡ s → length (write x old) ≡ s)
    (told : (x : A) (old : List ℕ) → P x → read (write x old) ≡ value x) where
  pub read-written : (j : ℕ) (xs : List A) (at : ℕ) (b : List ℕ) → at + s * length xs ≤ length b → All P (take j xs)
      → take j (read_from s read at (length xs) (write_from s write at xs b)) ≡ take j (map value xs)
  unfolding read_from write_from All
  read-written zero xs at b h ps = refl
  read-written (suc j) [] at b h ps = refl
  read-written (suc j) (x ∷ xs) at b h ps =
      let more : at + s * suc (length xs) ≡ at + s + s * length xs = rw (mul-suc s (length xs)) (omega arith) in
      let old : List ℕ = take s (drop at b) in
      let old-long : length old ≡ s = length-take-le s (drop at b) (rw (length-drop at b) (omega (arith, more, h))) in
      let b' : List ℕ = splice b at (write x old) in
      let long' : length b' ≡ length b = length-write s write sized (x ∷ []) at b (one-fits (length xs) at (length b) h) in
      let z : List ℕ = write_from s write (at + s) xs b' in
      let room : at + s + s * length xs ≤ length b' = rw (long', ← more) h in
      let front : take (at + s) z ≡ take (at + s) b' = take-write s write sized (at + s) xs (at + s) b' room (omega arith) in
      let head : read (take s (drop at z)) ≡ value x =
      ap read (window s at z b' front ∙ at-splice b (write x old) at s (omega (arith, h)) (sized x old old-long)) ∙ told x old ps.0 in
      rw (head, read-written j xs (at + s) b' room ps.1)
    where
      one-fits : (n at m : ℕ) → at + s * suc n ≤ m → at + s * 1 ≤ m
      one-fits n at m h = omega (arith, mul-suc s n, mul-suc s 0, h)

  pub read_whole : (xs : List A) (at : ℕ) (b : List ℕ) → at + s * length xs ≤ length b → All P xs
      → read_from s read at (length xs) (write_from s write at xs b) ≡ map value xs
  read_whole xs at b h ps =
      let n : ℕ = length xs in
      sym (take_all n _ (omega (arith, length-read s read (write_from s write at xs b) at n)))
      ∙ read-written n xs at b h (rw (take-length xs) ps)
      ∙ take_all n (map value xs) (omega (arith, length-map xs value))

-- ---- what holds of each number and the bytes in its place
unfoldable pub AllOver : {A : Type 0} → ℕ → (A → List ℕ → Type 0) → ℕ → List A → List ℕ → Type 0
AllOver s P at [] b = Unit {0}
AllOver s P at (x ∷ xs) b = P x (take s (drop at b)) × AllOver s P (at + s) xs b

module _ {A : Type 0} (s : ℕ) (P : A → List ℕ → Type 0) where
  -- it holds over any bytes with the same end
  pub over-same : (xs : List A) (at : ℕ) (b b' : List ℕ) → drop at b ≡ drop at b' → AllOver s P at xs b → AllOver s P at xs b'
  unfolding AllOver
  over-same [] at b b' e h = tt
  over-same (x ∷ xs) at b b' e h = (
    subst (λ (r : List ℕ). P x (take s r)) e h.0,
    over-same xs (at + s) b b' (sym (drop-drop s at b) ∙ ap (drop s) e ∙ drop-drop s at b') h.1,
  )

  -- of numbers that are read there
  pub over-read : (read : List ℕ → A) → ((old : List ℕ) → P (read old) old) → (at n : ℕ) (b : List ℕ) → AllOver s P at (read_from s read at n b) b
  unfolding AllOver read_from
  over-read read h at zero b = tt
  over-read read h at (suc n) b = (h (take s (drop at b)), over-read read h (at + s) n b)

-- what was written is read, where it is so of each number over the bytes in its place
module _ {A : Type 0} (s : ℕ) (read : List ℕ → A) (write : A → List ℕ → List ℕ)
    (sized : (x : A) (old : List ℕ) → length old ≡ s → length (write x old) ≡ s) where
  abbrev pub Again : A → List ℕ → Type 0
  Again x old = read (write x old) ≡ x

  pub read-over : (xs : List A) (at : ℕ) (b : List ℕ) → at + s * length xs ≤ length b → AllOver s Again at xs b
      → read_from s read at (length xs) (write_from s write at xs b) ≡ xs
  unfolding read_from write_from AllOver
  read-over [] at b h ps = refl
  read-over (x ∷ xs) at b h ps =
      let more : at + s * suc (length xs) ≡ at + s + s * length xs = rw (mul-suc s (length xs)) (omega arith) in
      let old : List ℕ = take s (drop at b) in
      let old-long : length old ≡ s = length-take-le s (drop at b) (rw (length-drop at b) (omega (arith, more, h))) in
      let b' : List ℕ = splice b at (write x old) in
      let long' : length b' ≡ length b = length-write s write sized (x ∷ []) at b (one-fits (length xs) at (length b) h) in
      let z : List ℕ = write_from s write (at + s) xs b' in
      let room : at + s + s * length xs ≤ length b' = rw (long', ← more) h in
      let front : take (at + s) z ≡ take (at + s) b' = take-write s write sized (at + s) xs (at + s) b' room (omega arith) in
      let head : read (take s (drop at z)) ≡ x =
      ap read (window s at z b' front ∙ at-splice b (write x old) at s (omega (arith, h)) (sized x old old-long)) ∙ ps.0 in
      let back : drop (at + s) b ≡ drop (at + s) b' =
      sym (drop-splice b (write x old) at (at + s) (omega (arith, h)) (rw (sized x old old-long) (omega arith))) in
      rw (head, read-over xs (at + s) b' room (over-same s Again xs (at + s) b b' back ps.1))
    where
      one-fits : (n at m : ℕ) → at + s * suc n ≤ m → at + s * 1 ≤ m
      one-fits n at m h = omega (arith, mul-suc s n, mul-suc s 0, h)

pub map_same : {A : Type 0} (xs : List A) → map (λ (x : A). x) xs ≡ xs
map_same [] = refl
map_same {A} (x ∷ xs) = ap (λ (l : List A). x ∷ l) (map_same xs)

pub all_any : {A : Type 0} (xs : List A) → All (λ (x : A). Unit {0}) xs
unfolding All
all_any [] = tt
all_any (x ∷ xs) = (tt, all_any xs)
