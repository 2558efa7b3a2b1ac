-- Scratch for a removal, whose flat form takes none. Definitions only. Assumes nothing.
use Rattle.std.specs.Prelude.{ℕ, cond, List, ltb}
use Rattle.base.specs.Numbers.{no_space}
use Rattle.base.specs.declared.Removal.{Removal}
use Rattle.base.specs.declared.Removed.{Removed}
use Rattle.base.specs.Answer.{Told, op_count, removal_told, replacement_count, removed_told}
use Rattle.base.specs.Answer.Told.{result, alone}
use Rattle.palette_model.specs.Removal.{WithList, remapping}

-- how many changes it has, none where it is a refusal
abbrev pub removal_count : Removal → ℕ
removal_count answer = op_count (removal_told answer)

abbrev pub removed_count : Removed → ℕ
removed_count answer = replacement_count (removed_told answer)

-- "scratch under w × h places": 16, where nothing else refuses the call
unfoldable pub no_removal : {R : Type 0} → Told R → Told R
no_removal (result values) = alone no_space
no_removal (alone n) = alone n

-- a call with scratch of `room` places on a sheet of `pixels`
unfoldable pub needing_remap : {R : Type 0} → ℕ → ℕ → (List ℕ → WithList R) → List ℕ → WithList R
needing_remap room pixels call out = cond (ltb room pixels) (remapping (no_removal (call out).answer) out) (call out)
