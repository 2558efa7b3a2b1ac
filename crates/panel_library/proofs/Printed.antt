-- The whole run: what was read is answered, the last line, too. Assumes nothing.
use Rattle.std.proofs.Common.{◌≡◌, ℕ, ◌+◌, ◌≤◌, true, eqb, List, [], ◌∷◌, length, take, sym, refl, ap, ◌∙◌, length-take-le, eqb-true, take_all, subst, arith}
use Rattle.std.specs.Prelude.{Option, None, Some, IfSome}
use Rattle.std.specs.Io.KnownBytes.{Appends, IsAtEnd}
use Rattle.panel_streams.specs.Streams.{Streamed}
use Rattle.panel_streams.proofs.Streaming.{streamed_all}
use Rattle.panel_frames.specs.Reading.{Told}
use Rattle.panel_frames.specs.Opening.{sheet_in}
use Rattle.panel_frames.proofs.Sizes.{frame-clip}
use Rattle.panel_lines.specs.Lines.{said, lines_of, answers, joined, printed, chunkFed, finished, lastFed, held, counted, Heard}
use Rattle.panel_lines.proofs.Feeding.{fed-printed}
use Rattle.panel_lines.proofs.Hearing.{heard_all}
use Rattle.panel_spelling.specs.Library.{spelt_as, respelt, library_of}
use Rattle.panel_library.specs.Texts.{step_of, Front}
use Rattle.panel_library.specs.Runs.{Printed}

-- of a line that is too long only its first 16,385 bytes matter
respelt-clip : (l : List ℕ) → respelt (take held l) ≡ respelt l
unfolding respelt
respelt-clip l = ap (λ (t : Told). spelt_as (sheet_in [] t.frame t.bytes)) (frame-clip l)

step-clip : (u : Unit {0}) (l : List ℕ) → step_of u (take held l) ≡ step_of u l
step-clip u l = ap (λ (t : List ℕ). said u t) (respelt-clip l)

each-respelt : (u : Unit {0}) (lines : List (List ℕ)) → answers step_of u lines ≡ library_of lines
unfolding answers library_of
each-respelt u [] = refl
each-respelt u (l ∷ lines) = rw (each-respelt u lines)

all-printed : (input : List ℕ) → finished step_of (chunkFed step_of tt [] input) ≡ joined (library_of (lines_of input))
unfolding printed
all-printed input = fed-printed step_of step-clip tt input ∙ ap joined (each-respelt tt (lines_of input))

-- the last text was taken, too
pub run-printed : (l text : List ℕ) (heard said₀ n taken said₁ : ℕ) → Heard step_of tt [] tt l heard said₀ → Front n text (lastFed step_of tt l) → n ≤ length text → eqb taken n ≡ true
    → said₁ ≡ counted (said₀ + taken) → Printed heard said₁
run-printed l text heard said₀ n taken said₁ q h k all e =
    let m : taken ≡ length (lastFed step_of tt l) = eqb-true taken n all ∙ sym (length-take-le n text k) ∙ ap length h.is in
    record { input = q.input; heard-is = q.heard-is; said-is = heard_all step_of tt [] tt l heard said₀ q taken said₁ m e ∙ ap (λ (x : List ℕ). counted (length x)) (all-printed q.input) }

-- ---- the bytes themselves, where they are known
as_lines : (held₀ held left : Option (List ℕ)) → IfSome left (λ xs. Appends held₀ held (finished step_of (chunkFed step_of tt [] xs))) → IfSome left (λ xs. Appends held₀ held (joined (library_of (lines_of xs))))
as_lines held₀ held None p = tt
as_lines held₀ held (Some xs) p = subst (Appends held₀ held) (all-printed xs) p

-- the reader was read to its end, and the writer got the lines of what it had left in their spelling, or their numbers
pub run-written : (l text : List ℕ) (heard said₀ n taken : ℕ) (left₀ left held₀ held held' : Option (List ℕ)) → Streamed step_of tt [] tt l heard said₀ left₀ left held₀ held → IsAtEnd left
    → Front n text (lastFed step_of tt l) → n ≤ length text → eqb taken n ≡ true → Appends held held' (take taken (take n text))
    → IfSome left₀ (λ xs. Appends held₀ held' (joined (library_of (lines_of xs))))
run-written l text heard said₀ n taken left₀ left held₀ held held' q end h k all given =
    let same : taken ≡ n = eqb-true taken n all in
    let m : length (take n text) ≡ n = length-take-le n text k in
    let whole : take taken (take n text) ≡ lastFed step_of tt l = take_all taken (take n text) (omega arith) ∙ h.is in
    as_lines held₀ held' left₀ (streamed_all step_of tt [] tt l heard said₀ left₀ left held₀ held q held' end (subst (Appends held held') whole given))
