-- What the loop of reads and writes promises, as that of `panel` does (panel_console: Session). Definitions only. Assumes nothing.
use Rattle.std.specs.Prelude.{◌≡◌, ℕ, ◌≤◌, true, false, List, length}
use Rattle.panel_lines.specs.Lines.{lines_of, joined, counted}
use Rattle.panel_spelling.specs.Library.{library_of}
use Rattle.panel_library.specs.declared.Got.{Got}
use Rattle.panel_library.specs.declared.Run.{Run}

-- after a read there is more to come only where no stream failed, and where none did, no more only where the read brought nothing
pub record Reads (r : Got) : Type 0 where
  pub held : r.len ≤ 16385
  pub few : r.n ≤ 4096
  pub goes_on : r.more ≡ true → r.sound ≡ true
  pub ends : r.more ≡ false → r.sound ≡ true → r.n ≡ 0

-- the loop ends after a read that brought nothing, where a stream failed, or after 2^64 - 1 reads
pub record Closed (r : Run) : Type 0 where
  pub held : r.len ≤ 16385
  pub ends : r.more ≡ false → r.sound ≡ true → r.last ≡ 0
  pub bound : r.more ≡ true → r.reads ≡ 18446744073709551615

-- of an input the bytes that were read, and as many written as its lines have in their spelling, or their numbers
pub record Printed (heard said : ℕ) : Type 0 where
  pub input : List ℕ
  pub heard-is : heard ≡ counted (length input)
  pub said-is : said ≡ counted (length (joined (library_of (lines_of input))))

-- a whole run
pub record Whole (r : Run) : Type 0 where
  pub closed : Closed r
  pub printed : r.sound ≡ true → Printed r.heard r.said
