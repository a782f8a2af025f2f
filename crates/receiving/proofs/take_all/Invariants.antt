-- `take_all` meets its contract: after each round the rest is left, and at the end nothing.
-- Assumes nothing.
use Prim.Native.Nat.{◌%◌}
use Rattle.receiving.specs.Receive.{all_taken, received}
use Rattle.driver.specs.Registers.{whole}
use Rattle.receiving.proofs.Rounds.{Rest}
use Rattle.receiving.proofs.take_all.Given as goal

abbrev pub invariant-loop-shown : goal.invariant-loop-shown
invariant-loop-shown l =
    Rest (all_taken (l.fn.seen.status % 16) (whole l.fn.seen.chip l.memory)) (whole l.c l.memory) l.packet l.got l.shown

abbrev pub decreases-loop-shown : goal.decreases-loop-shown
decreases-loop-shown l = received l.c
