-- The whole session: what was read is answered, the last line, too. Assumes nothing.
use Rattle.std.proofs.Common.{◌≡◌, ℕ, ◌+◌, ◌≤◌, Bool, true, eqb, List, [], length, take, ℤ, sym, ap, ◌∙◌, subst, length-take-le, take_all, eqb-true, arith}
use Rattle.std.proofs.Math.Option.{none}
use Rattle.std.specs.Prelude.{Option, None, Some, IfSome, Float}
use Rattle.std.specs.Io.KnownBytes.{Appends, IsAtEnd}
use Rattle.panel_lines.specs.Lines.{lines_of, joined, lastFed, finished, chunkFed, counted, Heard}
use Rattle.panel_lines.proofs.Hearing.{heard_all}
use Rattle.panel_calls.specs.Panel.{Panel, step_of, panel_of}
use Rattle.panel_open.specs.Memory.{panel_in}
use Rattle.panel_input.specs.declared.Turn.{Turn}
use Rattle.panel_input.proofs.Printed.{all-printed}
use Rattle.panel_ends.specs.Ends.{Begins, Ends}
use Rattle.panel_streams.specs.Streams.{Streamed}
use Rattle.panel_streams.proofs.Streaming.{streamed_all}
use Rattle.panel_console.specs.Session.{Printed}

-- from the beginning
begun : (t : Turn) (palette : List ℕ) (lab : List Float) (indices : List ℤ) (locks : List Bool) (journal line : List ℕ) (p : Panel) (l : List ℕ) (heard said : ℕ) → Begins t
    → Heard step_of (panel_in t.core palette lab indices locks journal) (take t.len line) p l heard said → Heard step_of none [] p l heard said
begun t palette lab indices locks journal line p l heard said b q = rw (b.unopened palette lab indices locks journal, b.nothing-held) at q

-- the whole session, where the last text was taken, too
pub session-printed : (t : Turn) (palette : List ℕ) (lab : List Float) (indices : List ℤ) (locks : List Bool) (journal line : List ℕ) (p : Panel) (l out : List ℕ) (heard said at n said' : ℕ) → Begins t
    → Heard step_of (panel_in t.core palette lab indices locks journal) (take t.len line) p l heard said → Ends at out (lastFed step_of p l) → at ≤ length out → eqb n at ≡ true
    → said' ≡ counted (said + n) → Printed heard said'
session-printed t palette lab indices locks journal line p l out heard said at n said' b q h k all e =
    let m : n ≡ length (lastFed step_of p l) = eqb-true n at all ∙ sym (length-take-le at out k) ∙ ap length h.text-is in
    let g = begun t palette lab indices locks journal line p l heard said b q in
    record { input = g.input; heard-is = g.heard-is; said-is = heard_all step_of none [] p l heard said g n said' m e ∙ ap (λ (x : List ℕ). counted (length x)) (all-printed g.input) }

-- ---- the bytes themselves, where they are known
begun-streamed : (t : Turn) (palette : List ℕ) (lab : List Float) (indices : List ℤ) (locks : List Bool) (journal line : List ℕ) (p : Panel) (l : List ℕ) (heard said : ℕ)
    (left₀ left held₀ held : Option (List ℕ)) → Begins t
    → Streamed step_of (panel_in t.core palette lab indices locks journal) (take t.len line) p l heard said left₀ left held₀ held → Streamed step_of none [] p l heard said left₀ left held₀ held
begun-streamed t palette lab indices locks journal line p l heard said left₀ left held₀ held b q = rw (b.unopened palette lab indices locks journal, b.nothing-held) at q

as_lines : (held₀ held left : Option (List ℕ)) → IfSome left (λ xs. Appends held₀ held (finished step_of (chunkFed step_of none [] xs))) → IfSome left (λ xs. Appends held₀ held (joined (panel_of (lines_of xs))))
as_lines held₀ held None p = tt
as_lines held₀ held (Some xs) p = subst (Appends held₀ held) (all-printed xs) p

-- the reader was read to its end, and the writer got what document 01 prints for the lines of what it had left
pub session-written : (t : Turn) (palette : List ℕ) (lab : List Float) (indices : List ℤ) (locks : List Bool) (journal line : List ℕ) (p : Panel) (l out : List ℕ) (heard said at n : ℕ)
    (left₀ left held₀ held held' : Option (List ℕ)) → Begins t
    → Streamed step_of (panel_in t.core palette lab indices locks journal) (take t.len line) p l heard said left₀ left held₀ held → IsAtEnd left → Ends at out (lastFed step_of p l) → at ≤ length out
    → eqb n at ≡ true → Appends held held' (take n (take at out)) → IfSome left₀ (λ xs. Appends held₀ held' (joined (panel_of (lines_of xs))))
session-written t palette lab indices locks journal line p l out heard said at n left₀ left held₀ held held' b q end h k all given =
    let same : n ≡ at = eqb-true n at all in
    let m : length (take at out) ≡ at = length-take-le at out k in
    let text : take n (take at out) ≡ lastFed step_of p l = take_all n (take at out) (omega arith) ∙ h.text-is in
    let g = begun-streamed t palette lab indices locks journal line p l heard said left₀ left held₀ held b q in
    as_lines held₀ held' left₀ (streamed_all step_of none [] p l heard said left₀ left held₀ held g held' end (subst (Appends held held') text given))
