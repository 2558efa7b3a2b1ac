-- What a loop of reads and writes promises of the bytes themselves, of a reader and a writer that say which bytes they have (`None` claims
-- nothing). Definitions only. Assumes nothing.
use Rattle.std.specs.Prelude.{ℕ, List, Option}
use Rattle.std.specs.Io.KnownBytes.{Appends, Consumes}
use Rattle.panel_lines.specs.Lines.{Said, chunkFed, Heard}

-- from state and held line s₀, l₀ to s, l: what the reads took from the reader was fed, and the writes gave the writer the text of the answers
pub record Streamed {S : Type 0} (step : S → List ℕ → Said S) (s₀ : S) (l₀ : List ℕ) (s : S) (l : List ℕ) (heard said : ℕ) (left₀ left held₀ held : Option (List ℕ)) : Type 0 where
  pub counts : Heard step s₀ l₀ s l heard said
  pub taken : Consumes left₀ left counts.input
  pub given : Appends held₀ held (chunkFed step s₀ l₀ counts.input).text
