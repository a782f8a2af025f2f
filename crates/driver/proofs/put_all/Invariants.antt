-- `put_all` meets its contract: what is left to write, written on the state as it is now, gives the whole.
-- Assumes nothing.
use mathlib.Core.Path.{◌≡◌}
use Rattle.driver.specs.Registers.{whole, written_all}
use lib.ListN.{drop}
use Rattle.driver.proofs.put_all.Given as goal

abbrev pub invariant-loop-b : goal.invariant-loop-b
invariant-loop-b l =
    written_all 0x29 (drop l.b-index l.s) (whole l.c l.memory) ≡ written_all 0x29 l.s (whole l.initial.c l.initial.memory)
