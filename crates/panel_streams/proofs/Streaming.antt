-- The loop of reads and writes: what was read so far is fed, and its text is written. Assumes nothing.
use native.Mathlib.Nat.{mod-add-mod}
use Rattle.std.proofs.Common.{◌≡◌, ℕ, ◌+◌, ◌^◌, List, [], ◌++◌, length, refl, sym, ap, ◌∙◌, subst, length-append}
use Rattle.std.specs.Prelude.{Option, IfSome}
use Rattle.std.proofs.KnownBytes.{Appends-nil, Appends-trans, Consumes-nil, Consumes-trans, Consumes-whole}
use Rattle.std.specs.Io.KnownBytes.{Appends, Consumes, IsAtEnd}
use Rattle.panel_lines.specs.Lines.{Said, Fed, saying, chunkFed, lastFed, finished, Answered, counted}
use Rattle.panel_lines.proofs.Feeding.{chunk-append}
use Rattle.panel_streams.specs.Streams.{Streamed}

-- a count, and then another
counted-sum : (a b n m : ℕ) → n ≡ counted a → m ≡ b → counted (n + m) ≡ counted (a + b)
counted-sum a b n m e f = rw (e, f) (mod-add-mod a (2 ^ 64) b)

module _ {S : Type 0} (step : S → List ℕ → Said S) where
  -- a read that brought nothing
  pub nothing_written : (s : S) (l : List ℕ) (held : Option (List ℕ)) → Appends held held (chunkFed step s l []).text
  unfolding chunkFed
  nothing_written s l held = Appends-nil held

  pub streamed_none : (s : S) (l : List ℕ) (left held : Option (List ℕ)) → Streamed step s l s l 0 0 left left held held
  unfolding chunkFed
  streamed_none s l left held = record {
    counts = record { input = []; state-is = refl; line-is = refl; heard-is = refl; said-is = refl };
    taken = Consumes-nil left;
    given = Appends-nil held;
  }

  module _ (s₀ : S) (l₀ : List ℕ) (s : S) (l : List ℕ) (heard said : ℕ) (left₀ left held₀ held : Option (List ℕ)) (q : Streamed step s₀ l₀ s l heard said left₀ left held₀ held) where
    -- a read more
    pub streamed_next : (s' : S) (l' bytes : List ℕ) (n m heard' said' : ℕ) (left' held' : Option (List ℕ)) → Answered s' l' m (chunkFed step s l bytes) → length bytes ≡ n
        → heard' ≡ counted (heard + n) → said' ≡ counted (said + m) → Consumes left left' bytes → Appends held held' (chunkFed step s l bytes).text
        → Streamed step s₀ l₀ s' l' heard' said' left₀ left' held₀ held'
    unfolding saying
    streamed_next s' l' bytes n m heard' said' left' held' a h e f taken given =
        let c = q.counts in
        let o : Fed S = chunkFed step s₀ l₀ c.input in
        let again : chunkFed step s l bytes ≡ chunkFed step o.state o.line bytes = rw (c.state-is, c.line-is) in
        let both : chunkFed step s₀ l₀ (c.input ++ bytes) ≡ saying o.text (chunkFed step s l bytes) = rw again (chunk-append step c.input bytes s₀ l₀) in
        record {
          counts = record {
            input = c.input ++ bytes;
            state-is = a.state-is ∙ sym (ap (λ (x : Fed S). x.state) both);
            line-is = a.line-is ∙ sym (ap (λ (x : Fed S). x.line) both);
            heard-is = e ∙ counted-sum (length c.input) (length bytes) heard n c.heard-is (sym h) ∙ ap counted (sym (length-append c.input bytes));
            said-is =
                f ∙ counted-sum (length o.text) (length (chunkFed step s l bytes).text) said m c.said-is a.said-is
                ∙ ap counted (sym (length-append o.text (chunkFed step s l bytes).text) ∙ sym (ap (λ (x : Fed S). length x.text) both));
          };
          taken = Consumes-trans left₀ left left' c.input bytes q.taken taken;
          given = subst (Appends held₀ held') (sym (ap (λ (x : Fed S). x.text) both)) (Appends-trans held₀ held held' o.text (chunkFed step s l bytes).text q.given given);
        }

    -- the end of the input, and the text of the line that is held
    pub streamed_all : (held' : Option (List ℕ)) → IsAtEnd left → Appends held held' (lastFed step s l) → IfSome left₀ (λ xs. Appends held₀ held' (finished step (chunkFed step s₀ l₀ xs)))
    unfolding finished
    streamed_all held' end last =
        let c = q.counts in
        let o : Fed S = chunkFed step s₀ l₀ c.input in
        let same : lastFed step s l ≡ lastFed step o.state o.line = rw (c.state-is, c.line-is) in
        Consumes-whole left₀ left c.input (λ xs. Appends held₀ held' (finished step (chunkFed step s₀ l₀ xs))) q.taken end
        (Appends-trans held₀ held held' o.text (lastFed step o.state o.line) q.given (subst (Appends held held') same last))
