-- `value` meets its contract: two texts one after the other.
-- Assumes nothing.
use native.Mathlib.Nat.{add-zero}
use mathlib.Core.Path.{refl}
use Rattle.lines.specs.Line.{value_text}
use Rattle.lines.proofs.Joined.{and_then}
use Rattle.lines.proofs.value.Goals as goal

pub returns : goal.returns
unfolding value_text
returns c =
    record { count = refl; bytes = rw add-zero at (and_then _ 0 5 _ _ _ c.text.ensures c.hex.ensures refl) }
