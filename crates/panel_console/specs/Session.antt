-- What the loop of reads and writes promises. No contract can say which bytes a file or a terminal gives or takes: what a read brought is what stands in the
-- buffer after it, and of a write it is known how many bytes it took. Of a reader and a writer that say which bytes they have, `run` says more (`printed`).
-- Definitions only. Assumes nothing.
use Rattle.std.specs.Prelude.{◌≡◌, ℕ, ◌≤◌, true, false, List, length}
use Rattle.panel_lines.specs.Lines.{lines_of, joined, counted}
use Rattle.panel_calls.specs.Panel.{panel_of}
use Rattle.panel_console.specs.declared.Got.{Got}
use Rattle.panel_console.specs.declared.Session.{Session}

-- after a read there is more to come only where no stream failed, and where none did, no more only where the read brought nothing
pub record Reads (r : Got) : Type 0 where
  pub few : r.n ≤ 4096
  pub goes_on : r.more ≡ true → r.sound ≡ true
  pub ends : r.more ≡ false → r.sound ≡ true → r.n ≡ 0

-- the loop ends after a read that brought nothing, where a stream failed, or after 2^64 - 1 reads
pub record Closed (r : Session) : Type 0 where
  pub ends : r.more ≡ false → r.sound ≡ true → r.last ≡ 0
  pub bound : r.more ≡ true → r.reads ≡ 18446744073709551615

-- of an input the bytes that were read, and as many written as document 01 prints for its lines
pub record Printed (heard said : ℕ) : Type 0 where
  pub input : List ℕ
  pub heard-is : heard ≡ counted (length input)
  pub said-is : said ≡ counted (length (joined (panel_of (lines_of input))))

-- a whole session
pub record Whole (r : Session) : Type 0 where
  pub closed : Closed r
  pub printed : r.sound ≡ true → Printed r.heard r.said
