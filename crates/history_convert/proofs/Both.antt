-- Both parts measured are the whole measured. Assumes nothing.
use mathlib.Core.Path.{◌≡◌, refl, ◌∙◌}
use mathlib.Core.Bool.{Bool, true, false, cond, ◌||◌}
use mathlib.Core.List.{List}
use mathlib.Core.Option.{Option, none, some}
use Prim.Native.Nat.{ℕ, ◌-◌}
use native.Mathlib.Nat.{sub-zero}
use lib.ListN.{length, take, drop}
use Rattle.base.specs.declared.Form.{Form}
use Rattle.base.specs.declared.Handle.{Handle}
use Rattle.journal_raw.specs.Raw.{Raw, raws_bytes, raws_in, any_stray}
use Rattle.std.specs.Prelude.{Some, None}
use Rattle.std.specs.Prelude as rust
use Rattle.history_convert.specs.declared.Sizes.{Sizes}
use Rattle.history_convert.specs.Convert.{both_read, used_in}
use Rattle.history_convert.specs.Sizes.{size_of, both_of, sizes_of}

module _ (g : Form) (w h : ℕ) where
  second_none : (x : rust.Option ℕ) → both_of x None ≡ None
  unfolding both_of
  second_none None = refl
  second_none (Some n) = refl

  pub both-measured : (a b : Option (List Raw)) → both_of (size_of g w h a) (size_of g w h b) ≡ sizes_of g w h (both_read a b)
  unfolding both_of size_of sizes_of both_read
  both-measured none b = refl
  both-measured (some past) none = second_none (size_of g w h (some past))
  both-measured (some past) (some future) = by (any_stray w h past) (any_stray w h future)
    where
      m : ℕ
      m = length (raws_bytes g w past)

      n : ℕ
      n = length (raws_bytes g w future)

      by : (s t : Bool) → both_of (cond s None (Some m)) (cond t None (Some n)) ≡ cond (s || t) None (Some (record { past = m; future = n }))
      by true t = refl
      by false true = refl
      by false false = refl

pub used-measured : (f g : Form) (w h : ℕ) (journal : List ℕ) (handle : Handle) (p q : rust.Option ℕ) (r : rust.Option Sizes)
    → p ≡ size_of g w h (raws_in f w handle.position (take (handle.offset - 0) journal))
    → q ≡ size_of g w h (raws_in f w (handle.count - handle.position) (take (handle.end - handle.offset) (drop handle.offset journal)))
    → r ≡ both_of p q → r ≡ sizes_of g w h (used_in f w journal handle)
unfolding used_in
used-measured f g w h journal handle p q r a b c = c ∙ rw (a, b, sub-zero handle.offset) (both-measured g w h _ _)
