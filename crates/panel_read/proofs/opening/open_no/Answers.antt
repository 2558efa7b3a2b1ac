-- `open_no`: the sides, the entries, the storage, then the indices. Assumes nothing.
use mathlib.Core.Path.{refl, ◌∙◌}
use Prim.Native.Nat.{◌+◌, ◌*◌, ◌-◌}
use native.Mathlib.Omega.{arith}
use Rattle.panel_read.proofs.Judging.{judged-indices, too_wide, too-tall, too_many, bad-palette, bad-lab, stray-opening, openable}
use Rattle.panel_read.proofs.opening.open_no.Goals as goal

pub returns-then-w-gt-MAX_OPEN : goal.returns-then-w-gt-MAX_OPEN
returns-then-w-gt-MAX_OPEN c = too_wide _ _ _ _ _ _ c.if-w-gt-MAX_OPEN.true

pub returns-then-h-gt-MAX_OPEN : goal.returns-then-h-gt-MAX_OPEN
returns-then-h-gt-MAX_OPEN c = too-tall _ _ _ _ _ _ c.if-w-gt-MAX_OPEN.false c.if-h-gt-MAX_OPEN.true

pub returns-then-k-gt-MAX_ENTRIES : goal.returns-then-k-gt-MAX_ENTRIES
returns-then-k-gt-MAX_ENTRIES c = too_many _ _ _ _ _ _ c.if-w-gt-MAX_OPEN.false c.if-h-gt-MAX_OPEN.false c.if-k-gt-MAX_ENTRIES.true

pub returns-then-palette-ne-STORAGE : goal.returns-then-palette-ne-STORAGE
returns-then-palette-ne-STORAGE c =
    bad-palette _ _ _ _ _ _ c.if-w-gt-MAX_OPEN.false c.if-h-gt-MAX_OPEN.false c.if-k-gt-MAX_ENTRIES.false c.requires c.if-palette-ne-STORAGE.true

pub returns-then-lab-ne-STORAGE : goal.returns-then-lab-ne-STORAGE
returns-then-lab-ne-STORAGE c =
    bad-lab _ _ _ _ _ _ c.if-w-gt-MAX_OPEN.false c.if-h-gt-MAX_OPEN.false c.if-k-gt-MAX_ENTRIES.false c.requires c.if-palette-ne-STORAGE.false c.if-lab-ne-STORAGE.true

pub returns-then-any_stray : goal.returns-then-any_stray
returns-then-any_stray c =
    let a = c.args in
    stray-opening _ _ _ _ _ _ c.if-w-gt-MAX_OPEN.false c.if-h-gt-MAX_OPEN.false c.if-k-gt-MAX_ENTRIES.false c.requires c.if-palette-ne-STORAGE.false c.if-lab-ne-STORAGE.false
    (judged-indices a.w a.h a.k a.bytes.now (6 + 3 * a.k + a.w * a.h - (6 + 3 * a.k)) (6 + 3 * a.k) _ (omega arith) refl c.any_stray.ensures ∙ c.if-any_stray.true)

pub returns : goal.returns
returns c =
    let a = c.args in
    openable _ _ _ _ _ _ c.if-w-gt-MAX_OPEN.false c.if-h-gt-MAX_OPEN.false c.if-k-gt-MAX_ENTRIES.false c.requires c.if-palette-ne-STORAGE.false c.if-lab-ne-STORAGE.false
    (judged-indices a.w a.h a.k a.bytes.now (6 + 3 * a.k + a.w * a.h - (6 + 3 * a.k)) (6 + 3 * a.k) _ (omega arith) refl c.any_stray.ensures ∙ c.if-any_stray.false)
