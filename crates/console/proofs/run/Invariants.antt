-- `run` meets its contract, which says nothing: the turns are counted down.
-- Assumes nothing.
use Rattle.std.specs.Prelude.{⊤}
use Rattle.console.proofs.run.Given as goal

abbrev pub invariant-loop-turns : goal.invariant-loop-turns
invariant-loop-turns g l = ⊤

abbrev pub decreases-loop-turns : goal.decreases-loop-turns
decreases-loop-turns g l = l.turns
