-- A buffer that a call over structs asks for beyond its flat form. Definitions only. Assumes nothing.
use Rattle.std.specs.Prelude.{ℕ, cond, List, ltb}
use Rattle.base.specs.Numbers.{no_space}
use Rattle.base.specs.Answer.{Told, Filled, leaving}
use Rattle.base.specs.Answer.Told.{result, alone}

-- "no space": 16, where nothing else refuses the call
unfoldable pub no_room : Told ℕ → Told ℕ
no_room (result n) = alone no_space
no_room (alone n) = alone n

-- a call whose further buffer has `room` places and needs so many: with fewer its 16 stands after every other check
unfoldable pub needing : ℕ → ℕ → (List ℕ → Filled ℕ) → List ℕ → Filled ℕ
needing room needed call out = cond (ltb room needed) (leaving (no_room (call out).answer) out) (call out)
