-- A call that lists its changes over the front of a buffer, called with the front of the scratch for the buffer. Assumes nothing.
use mathlib.Core.Path.{◌≡◌, refl, sym, ap, ◌∙◌}
use mathlib.Core.List.{List, ◌++◌, append_assoc}
use Prim.Native.Nat.{ℕ, ◌<◌, ◌≤◌, min}
use native.Mathlib.Omega.{arith}
use native.Mathlib.Decide.{ℕ_discrete, dec_lt}
use lib.ListN.{length, take, drop, length-append}
use lib.Seq.{length-take-le, take_at}
use Rattle.base.specs.Lists.{over}
use Rattle.base.proofs.Over.{length_over}
use Rattle.change_list.specs.Listed.{InScratch}
use Rattle.change_list.proofs.InScratch.{scratch-none}

-- the front of what a callee wrote over the front of a buffer
front-is : (ns t : List ℕ) (l : List ℕ) → take (length ns) (over ns l ++ t) ≡ ns
unfolding over
front-is ns t l = ap (take (length ns)) (append_assoc ns (drop (length ns) l) t) ∙ take_at ns _ (length ns) refl

module _ {B Ans : Type 0} (leaves : Ans → List ℕ → B) (ans : B → Ans) (buffer : B → List ℕ) (ans-is : (r : Ans) (f : List ℕ) → ans (leaves r f) ≡ r) (buffer-is : (r : Ans) (f : List ℕ) → buffer (leaves r f) ≡ f)
    (count : Ans → ℕ) (refused : ℕ → Ans) (count_none : (n : ℕ) → count (refused n) ≡ 0) where
  -- n is the number of the first check that applies, or 0; ns are the numbers that are listed
  pub record Lists (call : List ℕ → B) (ns : List ℕ) (n : ℕ) (done : Ans) : Type 0 where
    pub refuses : (n ≡ 0 → ⊥) → (out : List ℕ) → leaves (refused n) out ≡ call out
    pub short : n ≡ 0 → (out : List ℕ) → length out < length ns → leaves (refused 16) out ≡ call out
    pub lists : n ≡ 0 → (out : List ℕ) → length ns ≤ length out → leaves done (over ns out) ≡ call out
    pub counts : count done ≡ length ns

  module _ {call : List ℕ → B} {ns : List ℕ} {n : ℕ} {done : Ans} (c : Lists call ns n done) where
    answers : {r : Ans} {f g : List ℕ} {r' : Ans} {f' : List ℕ} → leaves r f ≡ call g → leaves r' f' ≡ call g → r ≡ r'
    answers {r} {f} {g} {r'} {f'} d e = sym (ans-is r f) ∙ ap ans (d ∙ sym e) ∙ ans-is r' f'

    pub listed_in : (s f : List ℕ) (r : Ans) (m room : ℕ) → m ≡ min room (length s) → (n ≡ 0 → length ns ≤ length s) → leaves r f ≡ call (take m s) → InScratch (count r) room (f ++ drop m s) (leaves r) call
    listed_in s f r m room q h d =
        let within : m ≤ length s = omega arith in
        let size : length (take m s) ≡ m = length-take-le m s within in
        elim (ℕ_discrete n 0) [
          | no z ↦ rw (answers d (c.refuses z (take m s)), count_none n) (scratch-none (λ out k. c.refuses z out))
          | yes z ↦ elim (dec_lt m (length ns)) [
            | yes k ↦
                let e : r ≡ refused 16 = answers d (c.short z (take m s) (omega arith)) in
                rw (e, count_none 16) (scratch-none (λ out j. c.short z out (few z k out j)))
            | no k ↦
                let done-with = c.lists z (take m s) (omega arith) in
                let e : r ≡ done = answers d done-with in
                let w : f ≡ over ns (take m s) = sym (buffer-is r f) ∙ ap buffer (d ∙ sym done-with) ∙ buffer-is done _ in
                let long : length (over ns (take m s)) ≡ m = length_over ns (take m s) (omega arith) ∙ size in
                rw (e, c.counts, w)
                (record {
                  fits = omega arith;
                  held = omega (arith, length-append (over ns (take m s)) (drop m s));
                  value = λ out j. ap (λ (l : List ℕ). leaves done (over l out)) (front-is ns (drop m s) (take m s)) ∙ c.lists z out (omega arith);
                })
          ]
        ]
      where
        few : n ≡ 0 → m < length ns → (out : List ℕ) → length out ≡ room → length out < length ns
        few z k out j = let b = h z in omega arith

    -- with too little scratch: 16, where nothing else refuses the call
    module _ (none : Ans → Ans) (none-refused : (k : ℕ) → none (refused k) ≡ refused k) (none_done : none done ≡ refused 16) where
      sixteen : n ≡ 0 → (out : List ℕ) → none (ans (call out)) ≡ refused 16
      sixteen z out = elim (dec_lt (length out) (length ns)) [
        | yes k ↦ ap none (ap ans (sym (c.short z out k)) ∙ ans-is (refused 16) out) ∙ none-refused 16
        | no k ↦ ap none (ap ans (sym (c.lists z out (omega arith))) ∙ ans-is done _) ∙ none_done
      ]

      pub none-same : {r : Ans} {f g : List ℕ} → leaves r f ≡ call g → (out : List ℕ) → none r ≡ none (ans (call out))
      none-same {r} {f} {g} d out =
          ap none (sym (ans-is r f) ∙ ap ans d) ∙ elim (ℕ_discrete n 0) [
            | yes z ↦ sixteen z g ∙ sym (sixteen z out)
            | no z ↦ ap none (ap ans (sym (c.refuses z g)) ∙ ans-is (refused n) g ∙ sym (ans-is (refused n) out) ∙ ap ans (c.refuses z out))
          ]
