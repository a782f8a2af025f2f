-- One line is as long as a line can be.
-- Assumes nothing.
use Prim.Native.Nat.{ℕ}
use native.Mathlib.Omega.{arith}
use mathlib.Core.Path.{◌≡◌}
use mathlib.Core.Bool.{Bool}
use mathlib.Core.List.{List}
use lib.ListN.{length}
use Rattle.answer.specs.declared.Answer.TheVariants.{Data0}
use Rattle.printed.proofs.Decimal.{decimal_length, decimal_reaches}
use Rattle.lines.specs.Line.{line_text, longest}
use Rattle.lines.proofs.Lengths.{line_length}
use Rattle.longest.proofs.Longest.{all64, whole_answer}

-- The last event of all, with all 64 bytes of a FIFO, takes a line of 158 bytes, whatever they are.
pub longest_met : (m : List ℕ) (line : Bool) → length (line_text 18446744073709551615 (Data0 all64) m line) ≡ longest
longest_met m line =
    omega (
      arith,
      line_length 18446744073709551615 (Data0 all64) m line,
      decimal_length 18446744073709551615 (omega arith),
      decimal_reaches 19 18446744073709551615 (omega arith),
      whole_answer m,
    )
