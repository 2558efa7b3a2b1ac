-- The loop of reads: what was read so far is fed, and its text counted. Assumes nothing.
use Prim.Native.Nat.{ℕ, ◌+◌, ◌^◌}
use mathlib.Core.Path.{◌≡◌, refl, sym, ap, ◌∙◌}
use mathlib.Core.Bool.{true, false}
use mathlib.Core.List.{List, [], ◌++◌}
use native.Mathlib.Nat.{mod-add-mod}
use native.Mathlib.Omega.{arith}
use lib.ListN.{length, length-append}
use Rattle.panel_lines.specs.Lines.{Said, Fed, saying, chunkFed, lastFed, finished, Answered, counted, Heard}
use Rattle.panel_lines.proofs.Feeding.{chunk-append}

pub false-true : false ≡ true → ⊥
false-true e = let z : ◌≡◌ {A = ℕ} 0 1 = cc in omega arith

-- a count, and then another
counted-sum : (a b n m : ℕ) → n ≡ counted a → m ≡ b → counted (n + m) ≡ counted (a + b)
counted-sum a b n m e f = rw (e, f) (mod-add-mod a (2 ^ 64) b)

module _ {S : Type 0} (step : S → List ℕ → Said S) where
  -- a read that brought nothing
  pub nothing_read : (s : S) (l : List ℕ) → Answered s l 0 (chunkFed step s l [])
  unfolding chunkFed
  nothing_read s l = record { state-is = refl; line-is = refl; said-is = refl }

  pub heard-none : (s : S) (l : List ℕ) → Heard step s l s l 0 0
  unfolding chunkFed
  heard-none s l = record { input = []; state-is = refl; line-is = refl; heard-is = refl; said-is = refl }

  module _ (s₀ : S) (l₀ : List ℕ) (s : S) (l : List ℕ) (heard said : ℕ) (q : Heard step s₀ l₀ s l heard said) where
    -- a read more
    pub heard-next : (s' : S) (l' bytes : List ℕ) (n m heard' said' : ℕ) → Answered s' l' m (chunkFed step s l bytes) → length bytes ≡ n
        → heard' ≡ counted (heard + n) → said' ≡ counted (said + m) → Heard step s₀ l₀ s' l' heard' said'
    unfolding saying
    heard-next s' l' bytes n m heard' said' a h e f =
        let o : Fed S = chunkFed step s₀ l₀ q.input in
        let again : chunkFed step s l bytes ≡ chunkFed step o.state o.line bytes = rw (q.state-is, q.line-is) in
        let both : chunkFed step s₀ l₀ (q.input ++ bytes) ≡ saying o.text (chunkFed step s l bytes) = rw again (chunk-append step q.input bytes s₀ l₀) in
        record {
          input = q.input ++ bytes;
          state-is = a.state-is ∙ sym (ap (λ (x : Fed S). x.state) both);
          line-is = a.line-is ∙ sym (ap (λ (x : Fed S). x.line) both);
          heard-is = e ∙ counted-sum (length q.input) (length bytes) heard n q.heard-is (sym h) ∙ ap counted (sym (length-append q.input bytes));
          said-is =
              f ∙ counted-sum (length o.text) (length (chunkFed step s l bytes).text) said m q.said-is a.said-is
              ∙ ap counted (sym (length-append o.text (chunkFed step s l bytes).text) ∙ sym (ap (λ (x : Fed S). length x.text) both));
        }

    -- the end of the input: the line that is held
    pub heard_all : (n said' : ℕ) → n ≡ length (lastFed step s l) → said' ≡ counted (said + n) → said' ≡ counted (length (finished step (chunkFed step s₀ l₀ q.input)))
    unfolding finished
    heard_all n said' h e =
        let o : Fed S = chunkFed step s₀ l₀ q.input in
        let last : n ≡ length (lastFed step o.state o.line) = h ∙ rw (q.state-is, q.line-is) in
        e ∙ counted-sum (length o.text) (length (lastFed step o.state o.line)) said n q.said-is last
        ∙ ap counted (sym (length-append o.text (lastFed step o.state o.line)))
