-- What a record tells but for its changes (its length, its edit, how many changes) does not depend on the width of the sheet, and so does not what is shown
-- of it. Assumes nothing.
use Prim.Native.Nat.{ℕ, ◌+◌, ◌-◌, ◌*◌}
use mathlib.Core.Path.{◌≡◌, refl, sym, ap, ◌∙◌}
use mathlib.Core.Bool.{Bool, true, false, not, cond}
use mathlib.Core.List.{List, [], ◌∷◌}
use mathlib.Core.Option.{Option, none, some, some-injective}
use native.Mathlib.Omega.{arith}
use lib.Dec.{leb, eqb}
use lib.ListN.{length, drop}
use Rattle.base.specs.Numbers.{journal_damaged}
use Rattle.base.specs.Checks.{◌when◌, checked, first_of, refused_or}
use Rattle.base.specs.Answer.{Told, Shown}
use Rattle.base.specs.Answer.Told.{alone}
use Rattle.base.specs.declared.Form.{Form}
use Rattle.base.specs.declared.Edit.{Edit}
use Rattle.edit.specs.Change.{Change}
use Rattle.journal_record.specs.Bytes.{le_at}
use Rattle.journal_record.specs.Record.{stride, record_length, Reading, by_kind, contents, closed, agreed, read_forth, of_length, read_back}
use Rattle.journal_record.proofs.Finding.{length-in}
use Rattle.base.specs.declared.Handle.{Handle}
use Rattle.history_ledger.specs.Handle.{sound}
use Rattle.history_ledger.specs.Journal.{unsound}
use Rattle.history_queries.specs.Looks.{shows, shown, step_shown}

-- the changes counted
abbrev counted : Option (Edit × List Change) → Option (Edit × ℕ)
counted none = none
counted (some held) = some (held.0, length held.1)

abbrev pub tells : Reading → Option (ℕ × Edit × ℕ)
tells none = none
tells (some r) = some (r.0, r.1, length r.2)

counted_if : (b : Bool) (o p : Option (Edit × List Change)) → counted (cond b o p) ≡ cond b (counted o) (counted p)
counted_if true o p = refl
counted_if false o p = refl

contents-tell : (f : Form) (v w : ℕ) (bytes : List ℕ) → counted (contents f v bytes) ≡ counted (contents f w bytes)
unfolding contents by_kind
contents-tell f v w bytes = simp (counted_if, length-in)

-- a record is closed by its length
abbrev agreed_counted : Form → List ℕ → Option (Edit × ℕ) → Option (ℕ × Edit × ℕ)
agreed_counted f bytes none = none
agreed_counted f bytes (some held) =
    let n = record_length f held.0 held.1 in
    cond (closed bytes n) (some (n, held.0, held.1)) none

tells-if : (b : Bool) (r s : Reading) → tells (cond b r s) ≡ cond b (tells r) (tells s)
tells-if true r s = refl
tells-if false r s = refl

agreed-tells : (f : Form) (bytes : List ℕ) (o : Option (Edit × List Change)) → tells (agreed f bytes o) ≡ agreed_counted f bytes (counted o)
unfolding agreed
agreed-tells f bytes none = refl
agreed-tells f bytes (some held) = rw tells-if

pub forth-tells : (f : Form) (v w : ℕ) (bytes : List ℕ) → tells (read_forth f v bytes) ≡ tells (read_forth f w bytes)
unfolding read_forth
forth-tells f v w bytes =
    agreed-tells f bytes (contents f v bytes) ∙ ap (agreed_counted f bytes) (contents-tell f v w bytes) ∙ sym (agreed-tells f bytes (contents f w bytes))

-- ---- and read from its end
abbrev whole_counted : ℕ → Option (ℕ × Edit × ℕ) → Option (ℕ × Edit × ℕ)
whole_counted n none = none
whole_counted n (some r) = cond (eqb r.0 n) (some r) none

whole_tells : (n : ℕ) (r : Reading) → tells (of_length n r) ≡ whole_counted n (tells r)
unfolding of_length
whole_tells n none = refl
whole_tells n (some r) = rw tells-if

pub back-tells : (f : Form) (v w : ℕ) (bytes : List ℕ) → tells (read_back f v bytes) ≡ tells (read_back f w bytes)
unfolding read_back
back-tells f v w bytes =
    let n : ℕ = le_at 4 bytes (length bytes - 4) in
    let at : List ℕ = drop (length bytes - n) bytes in
    let same : tells (of_length n (read_forth f v at)) ≡ tells (of_length n (read_forth f w at)) =
    whole_tells n (read_forth f v at) ∙ ap (whole_counted n) (forth-tells f v w at) ∙ sym (whole_tells n (read_forth f w at)) in
    tells-if (leb n (length bytes)) (of_length n (read_forth f v at)) none ∙ ap (λ (t : Option (ℕ × Edit × ℕ)). cond (leb n (length bytes)) t none) same ∙ sym (tells-if (leb n (length bytes)) (of_length n (read_forth f w at)) none)

-- ---- what is shown
module _ (f : Form) (size : ℕ) (h : Handle) (from : ℕ → ℕ) (inside : ℕ → Bool) (stepped : ℕ → Handle → Handle) where
  abbrev step : Reading → Told (Option Shown)
  step r = step_shown f size h r from inside stepped

  pub same-shown : (r s : Reading) → tells r ≡ tells s → step r ≡ step s
  unfolding step_shown shown
  same-shown none none p = refl
  same-shown none (some s) p = absurd (let z : ◌≡◌ {A = ℕ} 0 1 = cc in omega arith)
  same-shown (some r) none p = absurd (let z : ◌≡◌ {A = ℕ} 0 1 = cc in omega arith)
  same-shown (some r) (some s) p =
      ap
      (λ (t : ℕ × Edit × ℕ).
      checked (journal_damaged when not (inside t.0) ∷ unsound size (stepped t.0 h) ∷ []) alone
      (shows t.1 (from t.0) t.0 (from t.0 + t.0 - 4 - stride f * t.2) t.2))
      (some-injective _ _ p)

  pub step-some : (t : ℕ × Edit × List Change) → inside t.0 ≡ true → sound size (stepped t.0 h) ≡ true → step (some t) ≡ shown f (from t.0) t
  unfolding step_shown first_of refused_or
  step-some t i e = rw (i, e)
