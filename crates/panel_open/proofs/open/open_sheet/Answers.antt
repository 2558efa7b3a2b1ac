-- `open_sheet`: the sides, the buffers, `new`. Assumes nothing.
use Rattle.panel_open.proofs.Opening.{open-wide, open-tall, open-many, open-failed, open_done, lab-made, locks-made, open-state, open-text, new_is}
use Rattle.panel_open.proofs.Texts.{told-steps, told-failed}
use Rattle.panel_calls.specs.Panel.{Panel}
use Rattle.panel_lines.specs.Lines.{Said}
use native.Mathlib.Omega.{arith}
use native.Mathlib.Nat.{mul-le-mul}
use mathlib.Core.Path.{sym, ap, ◌∙◌}
use borrow.Author.Rules.{rules}
use lib.Ieee.{round, of_bits}
use mathlib.Core.Path.{◌≡◌}
use lib.ListN.{length, replicate}
use Rattle.panel_calls.specs.Panel.{journal_bytes}
use mathlib.Core.Bool.{false}
use Rattle.base.specs.Limits.{max_entries, storage}
use Rattle.color_doubles.specs.Arithmetic.{decimal}
use Rattle.panel_open.proofs.open.open_sheet.Goals as goal
use Rattle.panel_open.proofs.open.open_sheet.Goals.{After-fill-3}

-- what the buffers hold before `new`
zeros : (c : After-fill-3) → c.fill.new.self ≡ replicate storage (decimal 0 1)
unfolding decimal round of_bits
zeros c =
    let e : c.fill.new.self ≡ replicate (length c.args.lab.now) (decimal 0 1) = search rules in
    rw c.requires.fits.lab-length at e

free : (c : After-fill-3) → c.fill-2.new.self ≡ replicate max_entries false
free c =
    let e : c.fill-2.new.self ≡ replicate (length c.args.locks.now) false = search rules in
    rw c.requires.fits.locks-length at e

empty : (c : After-fill-3) → c.fill-3.new.self ≡ replicate journal_bytes 0
empty c =
    let e : c.fill-3.new.self ≡ replicate (length c.args.journal.now) 0 = search rules in
    rw c.requires.fits.journal-length at e

pub returns-then-w-gt-MAX_OPEN : goal.returns-then-w-gt-MAX_OPEN
returns-then-w-gt-MAX_OPEN c =
    let a = c.args in
    told-failed _ _ _ _ _ _ _ _ _ _ _ _ c.number.ensures c.requires.opened_value (open-wide a.w a.h a.k a.bytes.now c.if-w-gt-MAX_OPEN.true) c.requires.fits.small

pub returns-then-h-gt-MAX_OPEN : goal.returns-then-h-gt-MAX_OPEN
returns-then-h-gt-MAX_OPEN c =
    let a = c.args in
    told-failed _ _ _ _ _ _ _ _ _ _ _ _ c.number-then-h-gt-MAX_OPEN.ensures c.requires.opened_value (open-tall a.w a.h a.k a.bytes.now c.if-w-gt-MAX_OPEN.false c.if-h-gt-MAX_OPEN.true) c.requires.fits.small

pub returns-then-k-gt-MAX_ENTRIES : goal.returns-then-k-gt-MAX_ENTRIES
returns-then-k-gt-MAX_ENTRIES c =
    let a = c.args in
    told-failed _ _ _ _ _ _ _ _ _ _ _ _ c.number-then-k-gt-MAX_ENTRIES.ensures c.requires.opened_value (open-many a.w a.h a.k a.bytes.now c.if-w-gt-MAX_OPEN.false c.if-h-gt-MAX_OPEN.false c.if-k-gt-MAX_ENTRIES.true) c.requires.fits.small

pub returns-then-no-ne0 : goal.returns-then-no-ne0
returns-then-no-ne0 c =
    let a = c.args in
    let before = (goal.at.returns-then-no-ne0 c).After-fill-3 in
    let f = c.requires.fits in
    told-failed _ _ _ _ _ _ _ _ _ _ _ _ c.number-then-no-ne0.ensures c.requires.opened_value (open-failed a.w a.h a.k a.bytes.now c.if-w-gt-MAX_OPEN.false c.if-h-gt-MAX_OPEN.false c.new-answer.result _ _ (new_is a.w a.h a.k a.bytes.now _ _ _ _ _ _ c.new-answer.result c.open_palette.ensures (zeros before) c.open_indices.ensures (free before) c.new-answer.ensures) _ c.number-no.ensures c.if-no-ne0.true) f.small

pub returns : goal.returns
returns c =
    let a = c.args in
    let before = (goal.at.returns c).After-fill-3 in
    let f = c.requires.fits in
    let made = new_is a.w a.h a.k a.bytes.now _ _ _ _ _ _ c.new-answer.result c.open_palette.ensures (zeros before) c.open_indices.ensures (free before) c.new-answer.ensures in
    let zero = sym c.number-no.ensures ∙ c.if-no-ne0.false in
    let done = open_done a.w a.h a.k a.bytes.now c.if-w-gt-MAX_OPEN.false c.if-h-gt-MAX_OPEN.false c.new-answer.result _ _ made zero in
    let lab = lab-made a.w a.h a.k a.bytes.now c.if-w-gt-MAX_OPEN.false c.if-h-gt-MAX_OPEN.false c.new-answer.result _ _ made zero in
    let locks = locks-made a.w a.h a.k a.bytes.now c.if-w-gt-MAX_OPEN.false c.if-h-gt-MAX_OPEN.false c.new-answer.result _ _ made zero c.if-k-gt-MAX_ENTRIES.false in
    let journal = empty before in
    told-steps _ _ _ _ _ _ _ _ _ _ _ _ c.whole.ensures (open-text a.w a.h a.k a.bytes.now _ _ _ _ _ _ c.open_palette.ensures lab c.open_indices.ensures locks journal c.fresh-handle.ensures _ c.if-no-ne0.false ∙ sym (ap (λ (x : Said Panel). x.text) done)) (open-state a.w a.h a.k a.bytes.now _ _ _ _ _ _ c.open_palette.ensures lab c.open_indices.ensures locks journal c.fresh-handle.ensures ∙ sym (ap (λ (x : Said Panel). x.state) done)) (omega (arith, mul-le-mul c.if-w-gt-MAX_OPEN.false c.if-h-gt-MAX_OPEN.false))
