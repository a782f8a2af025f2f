-- `decimal` meets its contract: the digits that are left, written into the buffer as it is now, give the whole.
-- Assumes nothing.
use Prim.Native.Nat.{◌+◌}
use mathlib.Core.Path.{◌≡◌}
use lib.ListN.{length}
use Rattle.digits.specs.Text.{overlay, last_digits, decimal}
use Rattle.digits.proofs.decimal.Given as goal

abbrev pub invariant-loop-k : goal.invariant-loop-k
invariant-loop-k l =
    (length l.out ≡ length l.initial.out)
    × (length (last_digits l.k l.rest) ≡ l.k)
    × (overlay l.from (last_digits l.k l.rest) l.out ≡ overlay (l.at + l.i) (decimal l.n) l.initial.out)
