-- `counted`: by the test. Assumes nothing.
use native.Mathlib.Omega.{arith}
use Rattle.change_list.proofs.Handing.{handed-full, handed-done}
use Rattle.change_list.proofs.InScratch.{scratch-none}
use mathlib.Core.Path.{refl}
use Rattle.change_list.proofs.copy.counted.Goals as goal

pub returns-then-room-n : goal.returns-then-room-n
returns-then-room-n c s h = let k = c.if-room-n.true in scratch-none (λ out e. handed-full s out _ h (omega arith))

pub returns : goal.returns
returns c s h = let k = c.if-room-n.false in record { fits = k; held = h; value = λ out e. handed-done s out _ h (omega arith) refl }
