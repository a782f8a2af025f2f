-- `take` meets its contract: what is left to take, taken from the state as it is now, gives the whole.
-- Assumes nothing.
use mathlib.Core.Path.{◌≡◌}
use Rattle.receiving.specs.Receive.{taken}
use Rattle.driver.specs.Registers.{whole}
use Prim.Native.Nat.{ℕ, ◌-◌}
use lib.ListN.{length}
use lib.Seq.{sets}
use Rattle.receiving.proofs.take.Given as goal

abbrev pub invariant-loop-place : goal.invariant-loop-place
invariant-loop-place l =
    let n : ℕ = length l.initial.places in
    (sets l.places l.place-index (taken (n - l.place-index) (whole l.c l.memory)).bytes ≡ sets l.initial.places 0 (taken n (whole l.initial.c l.memory)).bytes)
    × ((taken (n - l.place-index) (whole l.c l.memory)).model ≡ (taken n (whole l.initial.c l.memory)).model)
