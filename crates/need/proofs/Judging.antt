-- What the play came to is what `journal_need` answers, and a working sheet that is a copy is played as the opening one. Assumes nothing.
use mathlib.Core.Path.{◌≡◌, subst}
use mathlib.Core.Bool.{Bool, true, false}
use mathlib.Core.List.{List}
use Prim.Native.Nat.{ℕ}
use lib.IntN.{ℤ}
use lib.Ieee.{Float}
use Rattle.base.specs.Answer.Told.{result, alone}
use Rattle.base.specs.declared.Form.{Form}
use Rattle.sheet_lent.specs.Lent.{Lent}
use Rattle.history_model.specs.Document.{Document, Shown, document_of}
use Rattle.need_model.specs.Need.{needed, need_call}
use Rattle.need_model.specs.Judged.{NeedJudged}
use Rattle.need_model.proofs.Judging.{need-short, need-met}
use Rattle.need_play.specs.Session.{Counted}

module _ (d : Document) (text : List ℕ) (x : Lent) (journal list scratch : ℕ) (f : Form) (j : NeedJudged d text x journal list scratch 0) {full : Bool} {n : ℕ} {p : Shown}
    (c : Counted f d text journal full n p) where
  pub need-full : full ≡ true → alone 14 ≡ need_call f d text x journal list scratch
  need-full t = need-short d text x journal list scratch f j (c.stopped t)

  pub need-told : full ≡ false → result (needed n p) ≡ need_call f d text x journal list scratch
  need-told t = rw (c.counts t, c.shows t) (need-met d text x journal list scratch f j (c.enough t))

-- the working sheet, once it is a copy
module _ {w h k : ℕ} {p p' : List ℕ} {l l' : List Float} {i i' : List ℤ} {m m' : List Bool} (same : (p' ≡ p) × (l' ≡ l) × (i' ≡ i) × (m' ≡ m)) where
  abbrev whole : document_of w h k p' l' i' m' ≡ document_of w h k p l i m
  whole = λ z. document_of w h k (same.0 z) (same.1 z) (same.2 z) (same.3 z)

  pub copied : {f : Form} {text : List ℕ} {journal : ℕ} {full : Bool} {need : ℕ} {picture : Shown}
      → Counted f (document_of w h k p' l' i' m') text journal full need picture → Counted f (document_of w h k p l i m) text journal full need picture
  copied {f} {text} {journal} {full} {need} {picture} c = subst (λ (d : Document). Counted f d text journal full need picture) whole c
