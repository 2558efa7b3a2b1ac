-- `claim_places`: what is behind is claimed and judged. Assumes nothing.
use Rattle.journal_olds.proofs.Claims.{Claiming}
use Rattle.journal_record.specs.Record.{changes_in}
use Rattle.journal_olds.proofs.olds.claim_places.Given as goal

abbrev pub invariant-loop-i : goal.invariant-loop-i
invariant-loop-i l = Claiming l.w l.k (changes_in l.form l.w l.journal l.at l.n) l.initial.indices l.i l.indices l.bad
