-- `lay_places`: the slots, and their words. Assumes nothing.
use Prim.Native.Nat.{◌+◌}
use native.Mathlib.Omega.{arith}
use borrow.Author.Rules.{rules}
use Rattle.layer_slot.proofs.Words.{slots-none, slot_small, places-words}
use Rattle.layer_slot.proofs.lay_places.Goals as goal

pub slot_places-requires : goal.slot_places-requires
slot_places-requires c =
    let p = c.requires in
    (p.0, p.1, p.2, p.3, p.4, p.5, slots-none _ _ _ _ p.4)

pub put_words-requires : goal.put_words-requires
put_words-requires c =
    let p = c.requires in
    let found = c.slot_places.ensures in (
      p.6,
      found.long,
      p.4,
      search rules,
      λ j k. rw (found.slot j k) (omega (arith, p.1, slot_small _ _ _ p.2 p.3 (c.args.at + j) (omega (arith, p.5)) c.args.count (omega arith))),
    )

pub returns : goal.returns
returns c = places-words _ _ _ _ _ _ _ _ _ c.slot_places.ensures c.put_words.ensures
