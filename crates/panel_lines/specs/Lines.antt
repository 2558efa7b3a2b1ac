-- The lines of an input, and what a program prints that answers line by line: `step` is what one line does to a state. Definitions only. Assumes nothing.
use Rattle.std.specs.Prelude.{◌≡◌, ℕ, ◌%◌, ◌^◌, cond, List, [], ◌∷◌, ◌++◌, ltb, eqb, length}

-- ---- as document 01 has it: "one frame a line", "the last newline may lack"

-- after the last newline there is a line only where there is text
unfoldable pub last_line : List ℕ → List (List ℕ)
last_line [] = []
last_line (a ∷ l) = (a ∷ l) ∷ []

-- the lines of an input, the first of which has begun with l
unfoldable pub lines_from : List ℕ → List ℕ → List (List ℕ)
lines_from l [] = last_line l
lines_from l (b ∷ bs) = cond (eqb b 10) (l ∷ lines_from [] bs) (lines_from (l ++ (b ∷ [])) bs)

unfoldable pub lines_of : List ℕ → List (List ℕ)
lines_of input = lines_from [] input

-- a state, and the text that was said on the way to it
pub record Said (S : Type 0) : Type 0 where
  pub state : S
  pub text : List ℕ

abbrev pub said : {S : Type 0} → S → List ℕ → Said S
said s t = record { state = s; text = t }

unfoldable pub joined : List (List ℕ) → List ℕ
joined [] = []
joined (t ∷ ts) = t ++ joined ts

module _ {S : Type 0} (step : S → List ℕ → Said S) where
  -- what is said to each line
  unfoldable pub answers : S → List (List ℕ) → List (List ℕ)
  answers s [] = []
  answers s (l ∷ ls) = (step s l).text ∷ answers (step s l).state ls

  -- what is printed for a whole input
  unfoldable pub printed : S → List ℕ → List ℕ
  printed s input = joined (answers s (lines_of input))

-- ---- byte by byte: of a line 16,385 bytes are held, one more than is read

-- a state, the line so far, and the text that was said
pub record Fed (S : Type 0) : Type 0 where
  pub state : S
  pub line : List ℕ
  pub text : List ℕ

abbrev pub fed : {S : Type 0} → S → List ℕ → List ℕ → Fed S
fed s l t = record { state = s; line = l; text = t }

abbrev pub held : ℕ
held = 16385

-- one byte more, where the line is not too long already
unfoldable pub grown : List ℕ → ℕ → List ℕ
grown l b = cond (ltb (length l) held) (l ++ (b ∷ [])) l

-- with text that was said before
unfoldable pub saying : {S : Type 0} → List ℕ → Fed S → Fed S
saying t o = fed o.state o.line (t ++ o.text)

module _ {S : Type 0} (step : S → List ℕ → Said S) where
  unfoldable pub byteFed : S → List ℕ → ℕ → Fed S
  byteFed s l b = cond (eqb b 10) (fed (step s l).state [] (step s l).text) (fed s (grown l b) [])

  unfoldable pub chunkFed : S → List ℕ → List ℕ → Fed S
  chunkFed s l [] = fed s l []
  chunkFed s l (b ∷ bs) = saying (byteFed s l b).text (chunkFed (byteFed s l b).state (byteFed s l b).line bs)

  -- the line that no newline ended
  unfoldable pub lastFed : S → List ℕ → List ℕ
  lastFed s [] = []
  lastFed s (a ∷ l) = (step s (a ∷ l)).text

  -- all that is printed, where the input ends
  unfoldable pub finished : Fed S → List ℕ
  finished o = o.text ++ lastFed o.state o.line

-- ---- in a loop of reads and writes. No contract can say which bytes a call of C reads or writes: what a read brought is what stands in the buffer
-- after it, and of a write it is known how many bytes it took

-- state and held line are those that a chunk leaves, and as many bytes were written as its text has
pub record Answered {S : Type 0} (s : S) (line : List ℕ) (said : ℕ) (o : Fed S) : Type 0 where
  pub state-is : s ≡ o.state
  pub line-is : line ≡ o.line
  pub said-is : said ≡ length o.text

-- a count as 64 bits show it
abbrev pub counted : ℕ → ℕ
counted n = n % 2 ^ 64

-- from state and held line s₀, l₀ to s, l: the reads brought the bytes `input`, which were fed, and as many bytes were written as the answers have
pub record Heard {S : Type 0} (step : S → List ℕ → Said S) (s₀ : S) (l₀ : List ℕ) (s : S) (l : List ℕ) (heard said : ℕ) : Type 0 where
  pub input : List ℕ
  pub state-is : s ≡ (chunkFed step s₀ l₀ input).state
  pub line-is : l ≡ (chunkFed step s₀ l₀ input).line
  pub heard-is : heard ≡ counted (length input)
  pub said-is : said ≡ counted (length (chunkFed step s₀ l₀ input).text)
