-- A line ends with one LF, and every byte before it is a space or above.
-- Assumes nothing.
use Prim.Native.Nat.{ℕ, zero, suc, ◌/◌, ◌%◌, ◌≤◌, ◌<◌}
use native.Mathlib.Omega.{arith}
use mathlib.Core.Path.{◌≡◌, refl}
use mathlib.Core.Bool.{Bool, true, false}
use mathlib.Core.List.{List, [], ◌∷◌, ◌++◌, append_assoc}
use lib.ListN.{length, take, drop, get_or}
use lib.Dec.{leb, ltb}
use borrow.Author.Tests.{leb-true}
use Rattle.choice.specs.Choice.{pick}
use Rattle.choice.proofs.ByTest.{by_test}
use Rattle.epc.specs.Bits.{bit_of}
use Rattle.answer.specs.declared.Answer.{Answer}
use Rattle.answer.specs.declared.Answer.TheVariants.{Silence, Value, Data0, Data1, Broken, Ack, Nak, Stall}
use Rattle.digits.specs.Text.{digit, decimal, hex_digit}
use Rattle.printed.proofs.Decimal.{decimal_digits}
use Rattle.packet.specs.Packet.{packet_bytes, hex_bytes}
use Rattle.lines.specs.Line.{payload_text, value_text, answer_text, line_text, refusal_text}

-- every byte is a space or above
pub data Shown : List ℕ → Type 0 where
  none : Shown []
  more : {b : ℕ} {text : List ℕ} → 0x20 ≤ b → Shown text → Shown (b ∷ text)

-- shown bytes, and one LF behind them
pub record OneLine (text : List ℕ) : Type 0 where
  pub body : List ℕ
  pub shown : Shown body
  pub ends : text ≡ body ++ (0x0A ∷ [])

append : {a b : List ℕ} → Shown a → Shown b → Shown (a ++ b)
append none second = second
append (more h rest) second = more h (append rest second)

each : (text : List ℕ) → ((i : ℕ) → i < length text → 0x20 ≤ get_or text i 0) → Shown text
each [] h = none
each (b ∷ text) h = more (h zero (omega arith)) (each text (λ i lt. h (suc i) (omega arith)))

-- the same as a test, for the bytes of a text that are written out
test : List ℕ → Bool
test [] = true
test (b ∷ text) = pick (leb 0x20 b) (test text) false

both : (x y : Bool) → pick x y false ≡ true → (x ≡ true) × (y ≡ true)
unfolding pick
both true y e = (refl, e)
both false y e = (e, cc)

opening : (n : ℕ) (text : List ℕ) → test (take n text) ≡ true → Shown (drop n text) → Shown text
unfolding test
opening zero text e rest = rest
opening (suc n) [] e rest = none
opening (suc n) (b ∷ text) e rest =
    let h : (leb 0x20 b ≡ true) × (test (take n text) ≡ true) = both (leb 0x20 b) (test (take n text)) e in
    more (leb-true _ _ h.0) (opening n text h.1 rest)

shown_decimal : (n : ℕ) → Shown (decimal n)
shown_decimal n = each _ (λ i lt. omega (arith, decimal_digits n i lt))

shown_hex_digit : (d : ℕ) → 0x20 ≤ hex_digit d
shown_hex_digit d = by_test (λ (c : ℕ). 0x20 ≤ c) (ltb d 10) (λ _. omega arith) (λ _. omega arith)

shown_hex : (bytes : List ℕ) → Shown (hex_bytes bytes)
unfolding hex_bytes
shown_hex [] = none
shown_hex (b ∷ bytes) = more (shown_hex_digit (b / 16)) (more (shown_hex_digit (b % 16)) (shown_hex bytes))

shown_payload : (bytes : List ℕ) → Shown (payload_text bytes)
unfolding payload_text test pick
shown_payload [] = opening 1 _ refl none
shown_payload (b ∷ bytes) = shown_hex (b ∷ bytes)

shown_answer : (a : Answer) (m : List ℕ) → Shown (answer_text a m)
unfolding answer_text value_text test pick
shown_answer Silence m = opening 1 _ refl none
shown_answer (Value v) m = opening 5 _ refl (more (shown_hex_digit (v / 16)) (more (shown_hex_digit (v % 16)) none))
shown_answer (Data0 p) m = opening 6 _ refl (shown_payload (packet_bytes p m))
shown_answer (Data1 p) m = opening 6 _ refl (shown_payload (packet_bytes p m))
shown_answer Broken m = opening 6 _ refl none
shown_answer Ack m = opening 3 _ refl none
shown_answer Nak m = opening 3 _ refl none
shown_answer Stall m = opening 5 _ refl none

shown_line : (line : Bool) → Shown (0x20 ∷ digit (bit_of line) ∷ [])
unfolding test pick
shown_line true = opening 2 _ refl none
shown_line false = opening 2 _ refl none

pub line_one_lf : (n : ℕ) (a : Answer) (m : List ℕ) (line : Bool) → OneLine (line_text n a m line)
unfolding line_text test pick
line_one_lf n a m line = record {
  body = decimal n ++ (0x20 ∷ []) ++ answer_text a m ++ (0x20 ∷ digit (bit_of line) ∷ []);
  shown = append (append (append (shown_decimal n) (opening 1 _ refl none)) (shown_answer a m)) (shown_line line);
  ends = simp append_assoc;
}

pub refusal_one_lf : (n k p : ℕ) → OneLine (refusal_text n k p)
unfolding refusal_text test pick
refusal_one_lf n k p = record {
  body = _;
  shown = append (append (append (append (shown_decimal n) (opening 8 _ refl none)) (shown_decimal k)) (opening 4 _ refl none)) (shown_decimal p);
  ends = refl;
}
