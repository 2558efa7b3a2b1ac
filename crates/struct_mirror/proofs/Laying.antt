-- The call on a packed list: where it is refused, and where it passes its checks; and the list of structs that is read for it. Assumes nothing.
use Prim.Native.Nat.{ℕ, ◌≤◌, min}
use mathlib.Core.Path.{◌≡◌, refl, sym, ap, ◌∙◌}
use mathlib.Core.Bool.{Bool, true, false}
use mathlib.Core.List.{List, map}
use native.Mathlib.Omega.{arith}
use lib.ListN.{length, take}
use lib.Seq.{take_all, length-take-le}
use Rattle.base.specs.Limits.{max_changes}
use Rattle.base.specs.Answer.{Told, Filled, leaving}
use Rattle.base.specs.declared.Counted.{Counted}
use Rattle.base.specs.Answer.Told.{alone}
use Rattle.base.specs.Lists.{over, some}
use Rattle.selection.specs.declared.Selection.{Selection}
use Rattle.selection.specs.declared.Area.{Area}
use Rattle.sheet.specs.Sheet.{Sheet}
use Rattle.sheet.specs.Checks.{WellFormed}
use Rattle.edit.specs.Change.{outside, unpacked}
use Rattle.change_list.specs.Listed.{handed}
use Rattle.struct_change.specs.Scratch.{needing}
use Rattle.struct_change.proofs.Packing.{packed-front}
use Rattle.struct_mirror_list.specs.Laid.{read_of, made_of, kept_of, Laid}
use Rattle.struct_mirror_list.proofs.Laying.{needs-refused, needs-same, made_by, kept_by, laid-refused, laid_then}
use Rattle.tile_copies.specs.Mirror.{Mirrorable}
use Rattle.tile_mirror_checks.specs.declared.Stage.TheVariants as stage
use Rattle.tile_mirror_checks.specs.Calls.{touching, straying, stage_of, mirror_list, mirror_call}
use Rattle.tile_mirror_checks.proofs.Touching.{mirrorable, touched-then}
use Rattle.tile_mirror_checks.proofs.Staging.{Passed, call-refused, call-done}
use Rattle.struct_mirror.specs.Lent.{mirror_lent}

-- ---- the call
module _ (s : Sheet) (a : Area) (on : Bool) (t : ℕ) (touched : Bool) (n : ℕ) (is : touched ≡ touching on n t s.w s.h) (off : Bool) where
  -- what a touched list in the buffer is
  module _ (f : WellFormed s) (few : n ≤ max_changes) (held : off ≡ false) (flat : List ℕ) where
    pub packed-mirrorable : (touched ≡ true → n ≤ length flat → off ≡ some (outside s.w s.h) (map unpacked (take n flat))) → touched ≡ true → n ≤ length flat → Mirrorable s.w s.h t s.indices (take n flat)
    packed-mirrorable j y h =
        let l : length (take n flat) ≡ n = length-take-le n flat h in
        mirrorable s f on t (take n flat) touched (rw l is) (rw l few) (sym (touched-then s.w s.h (take n flat) touched off y (j y h)) ∙ held) y

  module _ (list flat : List ℕ) (e : length list ≡ n) (j : off ≡ straying (touching on n t s.w s.h) s.w s.h list) (room places : ℕ) (scratch : List ℕ) where
    abbrev calls : List ℕ → Filled ℕ
    calls = mirror_call s a on t list room

    abbrev Meant : Told ℕ → Type 0
    Meant r = Laid (made_by (touching on n t s.w s.h) r) (kept_by (touching on n t s.w s.h) r) places scratch list (leaving r) (mirror_lent s a on t list (length flat) room)

    lent_is : (out : List ℕ) → needing (length flat) (read_of touched n) calls out ≡ mirror_lent s a on t list (length flat) room out
    unfolding mirror_lent
    lent_is out = rw (e, is)

    pub packed-refused : (m : ℕ) → stage.Refused m ≡ stage_of s a n off room → Meant (alone m)
    packed-refused m q =
        laid-refused (touching on n t s.w s.h) m
        (λ out k. needs-refused (length flat) (read_of touched n) calls m out (call-refused s a touched list off room on t out (rw e is) (rw is j) m (rw e q)) ∙ lent_is out)

    pub packed-done : (region : Selection) {r : Told ℕ} → Passed s a n off room region
        → Laid (made_by touched r) (kept_by touched r) places scratch list (leaving r) (needing (length flat) (read_of touched n) (handed (mirror_list touched s.w s.h t s.indices region list))) → Meant r
    packed-done region p d =
        rw (← is)
        (laid_then d
        (λ out. needs-same (length flat) (read_of touched n) (handed (mirror_list touched s.w s.h t s.indices region list)) calls out
        (call-done s a touched list off room on t out (rw e is) (rw is j) region (rw e p) refl) ∙ lent_is out))

-- ---- a list of structs that is read where it is touched, and packed as far as the buffer has places
module _ (w h t : ℕ) (on : Bool) (n : ℕ) (touched : Bool) (read : ℕ) (is : touched ≡ touching on n t w h) (reads : read ≡ read_of touched n) where
  read_all : touching on n t w h ≡ true → read ≡ n
  read_all y = reads ∙ ap (λ (b : Bool). read_of b n) (is ∙ y)

  module _ (list : List ℕ) (e : length list ≡ n) where
    pub read-front : (flat zs : List ℕ) (m : ℕ) → m ≡ min read (length flat) → length zs ≡ length flat → zs ≡ over (take m list) flat → touching on n t w h ≡ true → n ≤ length zs → take n zs ≡ list
    read-front flat zs m q l d y enough = packed-front list flat zs n m e (q ∙ ap (λ (k : ℕ). min k (length flat)) (read_all y)) l d ∙ take_all (length zs) list (omega arith)

    module _ (off : Bool) (j : off ≡ some (outside w h) (map unpacked (take read list))) where
      pub read_off : off ≡ straying (touching on n t w h) w h list
      unfolding straying some
      read_off = either (touching on n t w h) refl
        where
          either : (b : Bool) → touching on n t w h ≡ b → off ≡ straying b w h list
          either true y = j ∙ ap (λ (l : List ℕ). some (outside w h) (map unpacked l)) (ap (λ (k : ℕ). take k list) (read_all y) ∙ take_all n list (omega arith))
          either false y = j ∙ ap (λ (k : ℕ). some (outside w h) (map unpacked (take k list))) (reads ∙ ap (λ (b : Bool). read_of b n) (is ∙ y))

      pub read-judged : (flat zs : List ℕ) (m : ℕ) → m ≡ min read (length flat) → length zs ≡ length flat → zs ≡ over (take m list) flat → touching on n t w h ≡ true → n ≤ length zs → off ≡ some (outside w h) (map unpacked (take n zs))
      read-judged flat zs m q l d y enough =
          j ∙ ap (λ (m' : List ℕ). some (outside w h) (map unpacked m')) (ap (λ (k : ℕ). take k list) (read_all y) ∙ take_all n list (omega arith) ∙ sym (read-front flat zs m q l d y enough))

-- ---- what is laid, over one buffer after the other
module _ (touched now : Bool) (is : touched ≡ now) (r : Counted) {places : ℕ} {scratch list : List ℕ} {leaves call : List ℕ → Filled ℕ} (d : Laid (made_of now r) (kept_of now r) places scratch list leaves call) where
  pub unpack-fits : (made : ℕ) → made ≡ made_of touched r → (made ≤ length scratch) × (made ≤ places)
  unpack-fits made q = rw (q, is) (d.made_held, d.made-fits)

  pub copy-fits : (kept : ℕ) → kept ≡ kept_of touched r → (kept ≤ length list) × (kept ≤ places)
  copy-fits kept q = rw (q, is) (d.kept-held, d.kept-fits)

  pub laid-all : (made kept : ℕ) → made ≡ made_of touched r → kept ≡ kept_of touched r → (before between after : List ℕ) → length before ≡ places
      → between ≡ over (take made scratch) before → after ≡ over (take kept list) between → leaves after ≡ call before
  laid-all made kept p q before between after e u v = rw (v, u, p, q, is) (d.value before e)
