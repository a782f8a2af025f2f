-- `text` meets its contract: what is left to write, written into the buffer as it is now, gives the whole.
-- Assumes nothing.
use Prim.Native.Nat.{◌+◌}
use mathlib.Core.Path.{◌≡◌}
use lib.ListN.{length, drop}
use Rattle.digits.specs.Text.{overlay}
use Rattle.digits.proofs.text.Given as goal

abbrev pub invariant-loop-k : goal.invariant-loop-k
invariant-loop-k l =
    (length l.out ≡ length l.initial.out)
    × (overlay (l.from + l.k) (drop l.k l.s) l.out ≡ overlay (l.at + l.i) l.s l.initial.out)
