-- `refusal` meets its contract: the texts one after the other.
-- Assumes nothing.
use native.Mathlib.Nat.{add-zero}
use native.Mathlib.Omega.{arith}
use mathlib.Core.Path.{ap}
use mathlib.Core.List.{append_assoc}
use lib.ListN.{length}
use Rattle.refusal.specs.Refusal.{number_of}
use Rattle.lines.specs.Line.{refusal_text}
use Rattle.lines.proofs.Joined.{and_then}
use Rattle.lines.proofs.Lengths.{refusal_length, one_digit}
use Rattle.lines.proofs.refusal.Goals as goal

pub returns : goal.returns
unfolding refusal_text
returns c =
    let a = c.args in
    let one = one_digit a.r in
    record {
      count = omega (arith, refusal_length a.number (number_of a.r) a.place, ap length one, c.decimal-n.ensures.width, c.decimal-p.ensures.width);
      bytes =
          rw one
          (simp append_assoc
          (rw add-zero at
          (and_then _ 0 _ _ _ _ c.decimal-n.ensures.bytes
          (and_then _ _ _ _ _ _ c.text.ensures
          (and_then _ _ _ _ _ _ (rw c.number.ensures at c.text-2.ensures)
          (and_then _ _ _ _ _ _ c.decimal-p.ensures.bytes c.put.ensures
          (omega (arith, c.decimal-p.ensures.width))) (omega arith))
          (omega arith))
          (omega (arith, c.decimal-n.ensures.width)))));
    }
