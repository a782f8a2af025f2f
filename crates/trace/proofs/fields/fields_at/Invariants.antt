-- `fields_at` meets its contract: what is read, in front of what is still to be read, stays the same fields.
-- Assumes nothing.
use Rattle.std.proofs.Common.{◌≡◌, take, drop, length}
use Rattle.trace.specs.Record.{fields_at}
use Rattle.trace.proofs.Join.{prepend}
use Rattle.trace.proofs.fields.fields_at.Given as goal

abbrev pub invariant-loop-i : goal.invariant-loop-i
invariant-loop-i g l = (prepend (take l.i l.values) (fields_at l.s l.place (drop l.i l.fn.most)) ≡ fields_at l.s l.at l.fn.most) × (length l.values ≡ l.i-end)
