-- Buffers that have room for a line.
-- Assumes nothing.
use Prim.Native.Nat.{ℕ, ◌≤◌}
use mathlib.Core.List.{List, [], ◌∷◌}
use lib.ListN.{length}
use Rattle.lines.specs.Line.{longest}

-- every buffer has room for a line
pub data Rooms : List (List ℕ) → Type 0 where
  none : Rooms []
  more : {out : List ℕ} {outs : List (List ℕ)} → longest ≤ length out → Rooms outs → Rooms (out ∷ outs)
