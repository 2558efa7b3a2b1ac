-- `put_indices`: the digits of the first i indices stand. Assumes nothing.
use Prim.Native.Nat.{ℕ}
use mathlib.Core.Path.{◌≡◌, sym, ◌∙◌}
use mathlib.Core.List.{List, map}
use borrow.Author.Rules.{rules}
use lib.IntN.{ℤ, pos}
use lib.ListN.{get_or, get_or-map, length-map}
use mir.Facts.{to_z-of_z}
use Rattle.panel_hex.proofs.Digits.{hexing-none, hexing-next}
use Rattle.panel_hex.specs.Hex.{byte_of}
use Rattle.panel_hex.proofs.put_indices.Goals as goal

byte-at : (is : List ℤ) (i v : ℕ) → v ≡ byte_of (get_or is i (pos 0)) → v ≡ get_or (map byte_of is) i 0
unfolding byte_of
byte-at is i v e = e ∙ sym (get_or-map byte_of is i (pos 0))

pub loop-i-init : goal.loop-i-init
loop-i-init c = hexing-none _ _ _

pub loop-i-preserved : goal.loop-i-preserved
loop-i-preserved c =
    let is = c.args.indices.now in
    hexing-next _ _ _ (rw (length-map is byte_of) c.requires) _ c.loop-i.i c.loop-i.invariant _ c.index_byte.result (rw (length-map is byte_of) c.loop-i-test.true)
    (byte-at is c.loop-i.i c.index_byte.result (search (rules, to_z-of_z))) c.put_byte.ensures
