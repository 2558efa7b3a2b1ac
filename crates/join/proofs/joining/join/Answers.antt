-- `join`: what was judged, then both outcomes. Assumes nothing.
use Rattle.join_model.proofs.Judging.{listed_below, listed-length, join-refused, join-done}
use mathlib.Core.Path.{refl, sym, ◌∙◌}
use borrow.Author.Rules.{rules}
use Rattle.join.proofs.joining.join.Goals as goal

pub returns-then-no-ne0 : goal.returns-then-no-ne0
returns-then-no-ne0 c = join-refused _ _ _ _ _ _ c.joinable-found.ensures c.if-no-ne0.true

pub put_entries-requires : goal.put_entries-requires
put_entries-requires c =
    let j = c.joinable-found.ensures.fine c.if-no-ne0.false in
    let f = j.first.formed.limits in
    let s = j.second.formed.limits in (
      j.short,
      listed-length _ _ _ _ j.first j.second j.news refl,
      listed_below _ _ _ _ j.first j.second j.news,
      f.palette-length,
      f.lab-length,
      j.first.marks,
      s.palette-length,
      s.lab-length,
      j.second.marks,
      j.lent.palette-length,
      j.lent.lab-length,
      j.lent.locks-length,
    )

pub put_entries-requires-2 : goal.put_entries-requires-2
put_entries-requires-2 c =
    let j = c.joinable-found.ensures.fine c.if-no-ne0.false in
    let f = j.first.formed.limits in
    let s = j.second.formed.limits in (
      j.short,
      listed-length _ _ _ _ j.first j.second j.news refl,
      listed_below _ _ _ _ j.first j.second j.news,
      f.palette-length,
      f.lab-length,
      j.first.marks,
      s.palette-length,
      s.lab-length,
      j.second.marks,
      j.lent2.palette-length,
      j.lent2.lab-length,
      j.lent2.locks-length,
    )

pub returns : goal.returns
returns c =
    join-done _ _ _ _ _ _ c.joinable-found.ensures c.if-no-ne0.false c.put_entries.ensures c.put_entries-2.ensures _ _ _ _ c.fresh.ensures c.fresh-2.ensures
    c.copy.ensures c.send_indices.ensures
