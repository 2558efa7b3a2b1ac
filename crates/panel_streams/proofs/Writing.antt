-- The loop over the parts of a chunk: what a writer holds after them. Assumes nothing.
use Rattle.std.proofs.Common.{◌≡◌, ℕ, ◌+◌, ◌≤◌, ◌<◌, List, [], ◌++◌, length, take, drop, refl, sym, ap, ◌∙◌, subst, append-nil, drop_of_length-le, length-append, length-take-le, take_all, arith}
use Rattle.std.specs.Prelude.{Option}
use Rattle.std.proofs.KnownBytes.{Appends-nil, Appends-trans}
use Rattle.std.specs.Io.KnownBytes.{Appends}
use Rattle.panel_lines.specs.Lines.{Said, Fed, saying, chunkFed, Answered}
use Rattle.panel_lines.proofs.Feeding.{saying-nil, saying-append}
use Rattle.panel_lines.proofs.Parts.{Answering, answering-all}

module _ {S : Type 0} (step : S → List ℕ → Said S) where
  -- the parts of a chunk before `from` are taken, and the writer got their text
  pub record Writing (s₀ : S) (l₀ chunk : List ℕ) (s : S) (l : List ℕ) (said from : ℕ) (held₀ held : Option (List ℕ)) : Type 0 where
    pub parts : Answering step s₀ l₀ chunk s l said from
    pub given : Appends held₀ held parts.text

  module _ (s₀ : S) (l₀ chunk : List ℕ) where
    pub writing-none : (held : Option (List ℕ)) → Writing s₀ l₀ chunk s₀ l₀ 0 0 held held
    writing-none held = record { parts = record { high = omega arith; text = []; said-is = refl; few = omega arith; rest = saying-nil (chunkFed step s₀ l₀ chunk) }; given = Appends-nil held }

    module _ (s : S) (l : List ℕ) (said from : ℕ) (held₀ held : Option (List ℕ)) (q : Writing s₀ l₀ chunk s l said from held₀ held) where
      -- a part more: its text stands at the front of `out`, and all of it was taken
      pub writing-next : (s' : S) (l' out : List ℕ) (next at n : ℕ) (held' : Option (List ℕ)) → from < next → next ≤ length chunk → at ≤ 65536
          → saying (take at out) (chunkFed step s' l' (drop next chunk)) ≡ chunkFed step s l (drop from chunk)
          → at ≤ length out → n ≤ length (take at out) → at ≤ n → Appends held held' (take n (take at out))
          → Writing s₀ l₀ chunk s' l' (said + n) next held₀ held'
      writing-next s' l' out next at n held' onward inside fits e k few all more =
          let m : length (take at out) ≡ at = length-take-le at out k in
          let whole : take n (take at out) ≡ take at out = take_all n (take at out) (omega arith) in
          let p = q.parts in
          record {
            parts = record {
              high = inside;
              text = p.text ++ take at out;
              said-is = rw (length-append p.text (take at out)) (omega (arith, p.said-is));
              few = omega (arith, p.few);
              rest = saying-append p.text (take at out) (chunkFed step s' l' (drop next chunk)) ∙ ap (saying p.text) e ∙ p.rest;
            };
            given = Appends-trans held₀ held held' p.text (take at out) q.given (subst (Appends held held') whole more);
          }

      pub writing-answered : length chunk ≤ from → Answered s l said (chunkFed step s₀ l₀ chunk)
      writing-answered h = answering-all step s₀ l₀ chunk s l said from q.parts h

      pub writing-all : length chunk ≤ from → Appends held₀ held (chunkFed step s₀ l₀ chunk).text
      unfolding chunkFed saying
      writing-all h =
          let none : drop from chunk ≡ [] = drop_of_length-le chunk {i = from} h in
          let e : saying q.parts.text (chunkFed step s l []) ≡ chunkFed step s₀ l₀ chunk = rw none at q.parts.rest in
          subst (Appends held₀ held) (sym (append-nil q.parts.text) ∙ ap (λ (x : Fed S). x.text) e) q.given
