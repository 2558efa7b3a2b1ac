-- `respell`: the sheet read and written, or its number. Assumes nothing.
use Rattle.std.proofs.Common.{◌*◌, ◌≤◌, refl, sym, arith, length-take-le}
use Rattle.panel_library.proofs.Texts.{few, cells, front-sheet, front-number}
use Rattle.panel_library.proofs.line.respell.Goals as goal

pub overflow_mul-n : goal.overflow_mul-n
overflow_mul-n c =
    let r = c.read_line-answer in
    let small : c.in-Sheet.w * c.in-Sheet.h ≤ 4096 = cells _ _ _ _ refl refl (omega arith) r.result _ _ _ r.ensures _ _ _ c.in-Sheet.is in
    omega arith

pub slice_bounds-indices-end : goal.slice_bounds-indices-end
slice_bounds-indices-end c =
    let r = c.read_line-answer in
    let small : c.in-Sheet.w * c.in-Sheet.h ≤ 4096 = cells _ _ _ _ refl refl (omega arith) r.result _ _ _ r.ensures _ _ _ c.in-Sheet.is in
    omega arith

pub slice_bounds-put_sheet-end-in-Sheet : goal.slice_bounds-put_sheet-end-in-Sheet
slice_bounds-put_sheet-end-in-Sheet c =
    let r = c.read_line-answer in
    let small : c.in-Sheet.w * c.in-Sheet.h ≤ 4096 = cells _ _ _ _ refl refl (omega arith) r.result _ _ _ r.ensures _ _ _ c.in-Sheet.is in
    sym (length-take-le _ _ (omega arith))

pub put_sheet-requires-clause-k_bound : goal.put_sheet-requires-clause-k_bound
put_sheet-requires-clause-k_bound c =
    let r = c.read_line-answer in
    let small : c.in-Sheet.k ≤ 255 = few _ _ _ _ refl refl (omega arith) r.result _ _ _ r.ensures _ _ _ c.in-Sheet.is in
    (small, omega arith)

pub put_sheet-requires-clause-indices_in_bounds : goal.put_sheet-requires-clause-indices_in_bounds
put_sheet-requires-clause-indices_in_bounds c =
    let r = c.read_line-answer in
    let small : c.in-Sheet.w * c.in-Sheet.h ≤ 4096 = cells _ _ _ _ refl refl (omega arith) r.result _ _ _ r.ensures _ _ _ c.in-Sheet.is in
    let narrow : c.in-Sheet.k ≤ 255 = few _ _ _ _ refl refl (omega arith) r.result _ _ _ r.ensures _ _ _ c.in-Sheet.is in
    let long = length-take-le (c.in-Sheet.w * c.in-Sheet.h) r.new.indices (omega arith) in
    omega (arith, long)

pub returns-in-Sheet : goal.returns-in-Sheet
returns-in-Sheet c =
    let r = c.read_line-answer in
    front-sheet _ _ _ _ refl refl (omega arith) r.result _ _ _ r.ensures _ _ _ c.in-Sheet.is (omega arith) (omega arith) _ _ _ c.put_sheet.ensures.0 c.put_sheet.ensures.1

pub returns-in-Refused : goal.returns-in-Refused
returns-in-Refused c =
    let r = c.read_line-answer in
    front-number _ _ _ _ refl refl (omega arith) r.result _ _ _ r.ensures _ c.in-Refused.is _ _ _ c.put_number.ensures.out_after c.put_number.ensures.value
