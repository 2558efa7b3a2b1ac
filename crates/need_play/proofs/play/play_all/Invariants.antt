-- `play_all`: what was played so far, and what is left, give what the whole session gives. Assumes nothing.
use Prim.Native.Nat.{◌-◌}
use lib.ListN.{length}
use Rattle.history_model.specs.Document.{document_of}
use Rattle.history_model.specs.Calls.{state_of}
use Rattle.need_play.proofs.Session.{Going}
use Rattle.need_play.proofs.play.play_all.Given as goal

abbrev pub invariant-loop-at : goal.invariant-loop-at
invariant-loop-at l =
    Going l.form (document_of l.w l.h l.k l.initial.palette l.initial.lab l.initial.indices l.initial.locks) l.text l.initial.journal (length l.initial.scratch) l.at l.need (state_of (document_of l.w l.h l.count l.palette l.lab l.indices l.locks) l.journal l.handle)

abbrev pub decreases-loop-at : goal.decreases-loop-at
decreases-loop-at l = length l.text - l.at
