-- `line` meets its contract: the texts one after the other.
-- Assumes nothing.
use native.Mathlib.Nat.{add-zero}
use native.Mathlib.Omega.{arith}
use mathlib.Core.List.{append_assoc}
use Rattle.lines.specs.Line.{line_text}
use Rattle.lines.proofs.Joined.{and_then}
use Rattle.lines.proofs.Lengths.{line_length}
use Rattle.lines.proofs.line.Goals as goal

pub returns : goal.returns
unfolding line_text
returns c =
    let a = c.args in
    record {
      count = omega (arith, line_length a.number a.answer a.memory.now a.raised, c.decimal-n.ensures.width, c.answered-k.ensures.0.count);
      bytes =
          simp append_assoc
          (rw add-zero at
          (and_then _ 0 _ _ _ _ c.decimal-n.ensures.bytes
          (and_then _ _ _ _ _ _ c.put.ensures
          (and_then _ _ _ _ _ _ c.answered-k.ensures.0.bytes (rw c.level.ensures at c.text.ensures)
          (omega (arith, c.answered-k.ensures.0.count)))
          (omega arith))
          (omega (arith, c.decimal-n.ensures.width))));
    }
