-- No line is longer than 158 bytes.
-- Assumes nothing.
use Prim.Native.Nat.{ℕ, ◌≤◌, ◌<◌}
use native.Mathlib.Omega.{arith}
use mathlib.Core.Path.{◌≡◌, refl}
use mathlib.Core.Bool.{Bool}
use mathlib.Core.List.{List}
use lib.ListN.{length}
use Rattle.window.specs.declared.Kind.TheVariants.{Transmit}
use Rattle.ring.specs.Ring.{bytes_from}
use Rattle.answer.specs.declared.Packet.{Packet}
use Rattle.answer.specs.declared.Answer.{Answer}
use Rattle.answer.specs.declared.Answer.TheVariants.{Data0}
use Rattle.printed.proofs.Decimal.{decimal_length, decimal_length_5}
use Rattle.packet.specs.Packet.{packet_bytes, hex_bytes}
use Rattle.lines.specs.Line.{payload_text, answer_text, line_text, refusal_text, longest}
use Rattle.lines.proofs.Lengths.{answer_length, line_length, refusal_length}

pub line_longest : (n : ℕ) (a : Answer) (m : List ℕ) (line : Bool) → n < 18446744073709551616 → length (line_text n a m line) ≤ longest
line_longest n a m line h = omega (arith, line_length n a m line, decimal_length n h, answer_length a m)

-- A refusal's number is 8 at most, and its place 65,536.
pub refusal_longest : (n k p : ℕ) → n < 18446744073709551616 → k ≤ 8 → p ≤ 65536 → length (refusal_text n k p) ≤ longest
refusal_longest n k p h small near =
    omega (arith, refusal_length n k p, decimal_length n h, decimal_length_5 k (omega arith), decimal_length_5 p (omega arith))

-- all 64 bytes of TXFIFO1
abbrev pub all64 : Packet
all64 = record { window = record { kind = Transmit; number = record { 0 = 1 } }; from = 0; count = 64 }

pub whole_answer : (m : List ℕ) → length (answer_text (Data0 all64) m) ≡ 134
unfolding answer_text payload_text packet_bytes hex_bytes bytes_from
whole_answer m = refl
