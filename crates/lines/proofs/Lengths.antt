-- How long the texts are.
-- Assumes nothing.
use Prim.Native.Nat.{ℕ, ◌+◌, ◌≤◌}
use native.Mathlib.Omega.{arith}
use mathlib.Core.Path.{◌≡◌, refl}
use mathlib.Core.Bool.{Bool}
use mathlib.Core.List.{List, [], ◌∷◌}
use lib.ListN.{length, length-append}
use Rattle.digits.specs.Text.{digit, decimal}
use Rattle.digits.proofs.Figures.{decimal_one}
use Rattle.refusal.specs.declared.Refusal.{Refusal}
use Rattle.refusal.specs.declared.Refusal.TheVariants.{Cut, NotShortest, NoKind, OutOfRange, NotWellFormed, OfferTooLong, PacketHeld, InputTooLong}
use Rattle.refusal.specs.Refusal.{number_of}
use Rattle.answer.specs.declared.Answer.{Answer}
use Rattle.answer.specs.declared.Answer.TheVariants.{Silence, Value, Data0, Data1, Broken, Ack, Nak, Stall}
use Rattle.packet.specs.Packet.{packet_bytes, hex_bytes}
use Rattle.packet.proofs.Turns.{packet_most, hex_bytes_length}
use Rattle.lines.specs.Line.{payload_text, value_text, answer_text, line_text, refusal_text}

-- "(`-` if empty)"
pub payload_none : (bytes : List ℕ) → length bytes ≡ 0 → payload_text bytes ≡ 0x2D ∷ []
unfolding payload_text
payload_none [] e = refl
payload_none (b ∷ bytes) e = absurd {0} (omega arith)

pub payload_some : (bytes : List ℕ) → (length bytes ≡ 0 → ⊥) → payload_text bytes ≡ hex_bytes bytes
unfolding payload_text
payload_some [] h = absurd {0} (h refl)
payload_some (b ∷ bytes) h = refl

pub payload_length : (bytes : List ℕ) → length bytes ≤ 64 → length (payload_text bytes) ≤ 128
unfolding payload_text
payload_length [] h = omega arith
payload_length (b ∷ bytes) h = omega (arith, hex_bytes_length (b ∷ bytes))

-- `data0 ` and 64 bytes in hex are the longest answer.
pub answer_length : (a : Answer) (m : List ℕ) → length (answer_text a m) ≤ 134
unfolding answer_text value_text
answer_length Silence m = omega arith
answer_length (Value v) m = omega arith
answer_length (Data0 p) m = omega (arith, payload_length (packet_bytes p m) (packet_most p m))
answer_length (Data1 p) m = omega (arith, payload_length (packet_bytes p m) (packet_most p m))
answer_length Broken m = omega arith
answer_length Ack m = omega arith
answer_length Nak m = omega arith
answer_length Stall m = omega arith

pub line_length : (n : ℕ) (a : Answer) (m : List ℕ) (line : Bool)
    → length (line_text n a m line) ≡ length (decimal n) + 1 + length (answer_text a m) + 3
unfolding line_text
line_length n a m line = simp length-append (omega arith)

pub refusal_length : (n k p : ℕ) → length (refusal_text n k p) ≡ length (decimal n) + 12 + length (decimal k) + length (decimal p) + 1
unfolding refusal_text
refusal_length n k p = simp length-append (omega arith)

-- The refusals' numbers have one digit.
pub number_small : (r : Refusal) → number_of r ≤ 8
number_small Cut = omega arith
number_small NotShortest = omega arith
number_small NoKind = omega arith
number_small OutOfRange = omega arith
number_small NotWellFormed = omega arith
number_small OfferTooLong = omega arith
number_small PacketHeld = omega arith
number_small InputTooLong = omega arith

pub one_digit : (r : Refusal) → decimal (number_of r) ≡ digit (number_of r) ∷ []
one_digit r = decimal_one (number_of r) (omega (arith, number_small r))
