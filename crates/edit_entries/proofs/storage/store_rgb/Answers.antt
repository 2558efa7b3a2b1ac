-- `store_rgb`: three stores. Assumes nothing.
use native.Mathlib.Omega.{arith}
use Rattle.edit_entries.proofs.Entries.{stored_is}
use Rattle.edit_entries.proofs.storage.store_rgb.Goals as goal

pub returns : goal.returns
returns c = stored_is _ _ _ _ _ (omega arith)
