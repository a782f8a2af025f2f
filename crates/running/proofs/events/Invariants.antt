-- `events` meets its contract: each turn leaves the same run.
-- Assumes nothing.
use Rattle.running.proofs.Turns.{Turned}
use Rattle.running.specs.Run.{under_way}
use lib.ListN.{length}
use Prim.Native.Nat.{◌-◌}
use Rattle.running.proofs.events.Given as goal

abbrev pub invariant-loop-event : goal.invariant-loop-event
invariant-loop-event l = Turned l.s (under_way l.fn.run l.initial.memory l.initial.out) (under_way l.run l.memory l.out)

abbrev pub decreases-loop-event : goal.decreases-loop-event
decreases-loop-event l = length l.s - l.run.place
