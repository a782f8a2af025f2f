-- Every window lies in the 392 bytes.
-- Assumes nothing.
use Prim.Native.Nat.{ℕ, ◌+◌, ◌≤◌}
use native.Mathlib.Omega.{arith}
use Rattle.choice.proofs.ByTest.{by_test}
use Rattle.window.specs.declared.FifoNumber.{FifoNumber}
use Rattle.window.specs.declared.Kind.{Kind}
use Rattle.window.specs.declared.Kind.TheVariants.{Control, Transmit, Receive}
use Rattle.window.specs.Window.{size_of, index_of, start_of}

-- a FIFO's index
pub index_small : (n : FifoNumber) → index_of n ≤ 2
unfolding index_of
index_small n =
    by_test (λ (i : ℕ). i ≤ 2) _ (λ _. omega arith) (λ _.
    by_test (λ (i : ℕ). i ≤ 2) _ (λ _. omega arith) (λ _. omega arith))

-- every window lies in the 392 bytes
pub window_inside : (k : Kind) (n : FifoNumber) → start_of k n + size_of k ≤ 392
window_inside Control n = omega arith
window_inside Transmit n = omega (arith, index_small n)
window_inside Receive n = omega (arith, index_small n)
