-- The loop over the parts of a chunk. Assumes nothing.
use Prim.Native.Nat.{ℕ, ◌+◌, ◌*◌, ◌≤◌, ◌<◌}
use mathlib.Core.Path.{◌≡◌, refl, sym, ap, ◌∙◌}
use mathlib.Core.List.{List, [], ◌++◌, append-nil}
use native.Mathlib.Omega.{arith}
use lib.ListN.{length, take, drop, drop_of_length-le, length-append, length-take}
use lib.Seq.{length-take-le}
use Rattle.panel_lines.specs.Lines.{Said, Fed, saying, chunkFed, Answered}
use Rattle.panel_lines.proofs.Feeding.{saying-nil, saying-append}

-- a chunk's text is short
pub said-small : (said from at n : ℕ) (out chunk : List ℕ) → n ≤ length (take at out) → length out ≤ 65536 → said ≤ 65536 * from → from ≤ length chunk → length chunk ≤ 4096 → said + n ≤ 268500992
said-small said from at n out chunk a b c d e = omega (arith, simp length-take at a)

module _ {S : Type 0} (step : S → List ℕ → Said S) where
  -- the parts of a chunk before `from` are taken, and their text, of `said` bytes, was written
  pub record Answering (s₀ : S) (l₀ chunk : List ℕ) (s : S) (l : List ℕ) (said from : ℕ) : Type 0 where
    pub high : from ≤ length chunk
    pub text : List ℕ
    pub said-is : said ≡ length text
    pub few : said ≤ 65536 * from
    pub rest : saying text (chunkFed step s l (drop from chunk)) ≡ chunkFed step s₀ l₀ chunk

  module _ (s₀ : S) (l₀ chunk : List ℕ) where
    pub answering-none : Answering s₀ l₀ chunk s₀ l₀ 0 0
    answering-none = record { high = omega arith; text = []; said-is = refl; few = omega arith; rest = saying-nil (chunkFed step s₀ l₀ chunk) }

    module _ (s : S) (l : List ℕ) (said from : ℕ) (q : Answering s₀ l₀ chunk s l said from) where
      -- a part more: its text stands at the front of `out`, and all of it was taken
      pub answering-next : (s' : S) (l' out : List ℕ) (next at n : ℕ) → from < next → next ≤ length chunk → at ≤ 65536
          → saying (take at out) (chunkFed step s' l' (drop next chunk)) ≡ chunkFed step s l (drop from chunk)
          → at ≤ length out → n ≤ length (take at out) → at ≤ n
          → Answering s₀ l₀ chunk s' l' (said + n) next
      answering-next s' l' out next at n onward inside fits e k few all =
          let m : length (take at out) ≡ at = length-take-le at out k in
          record {
            high = inside;
            text = q.text ++ take at out;
            said-is = rw (length-append q.text (take at out)) (omega (arith, q.said-is));
            few = omega (arith, q.few);
            rest = saying-append q.text (take at out) (chunkFed step s' l' (drop next chunk)) ∙ ap (saying q.text) e ∙ q.rest;
          }

      pub answering-all : length chunk ≤ from → Answered s l said (chunkFed step s₀ l₀ chunk)
      unfolding chunkFed saying
      answering-all h =
          let none : drop from chunk ≡ [] = drop_of_length-le chunk {i = from} h in
          let e : saying q.text (chunkFed step s l []) ≡ chunkFed step s₀ l₀ chunk = rw none at q.rest in
          record {
            state-is = ap (λ (x : Fed S). x.state) e;
            line-is = ap (λ (x : Fed S). x.line) e;
            said-is = q.said-is ∙ ap length (sym (append-nil q.text) ∙ ap (λ (x : Fed S). x.text) e);
          }
