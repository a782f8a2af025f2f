-- The text of one event.
-- 01: "A line is: event number from 0, answer, line 0 or 1."
use Rattle.std.specs.Prelude.{ℕ, ◌≡◌, Bool, List, [], ◌∷◌, ◌++◌, length}
use Rattle.epc.specs.Bits.{bit_of}
use Rattle.digits.specs.Text.{overlay, digit, decimal, hex_byte}
use Rattle.answer.specs.declared.Answer.{Answer}
use Rattle.answer.specs.declared.Answer.TheVariants.{Silence, Value, Data0, Data1, Broken, Ack, Nak, Stall}
use Rattle.packet.specs.Packet.{packet_bytes, hex_bytes}

-- "data0 or data1 with payload hex (`-` if empty)"
unfoldable pub payload_text : List ℕ → List ℕ
payload_text [] = 0x2D ∷ []
payload_text (b ∷ bytes) = hex_bytes (b ∷ bytes)

-- "`read HH`"
unfoldable pub value_text : ℕ → List ℕ
value_text v = (0x72 ∷ 0x65 ∷ 0x61 ∷ 0x64 ∷ 0x20 ∷ []) ++ hex_byte v

-- "Answers: `-`, `read HH`, `data0` or `data1` with payload hex .., `broken`, `ack`, `nak`, `stall`.", in ASCII
unfoldable pub answer_text : Answer → List ℕ → List ℕ
answer_text Silence memory = 0x2D ∷ []
answer_text (Value v) memory = value_text v
answer_text (Data0 p) memory = (0x64 ∷ 0x61 ∷ 0x74 ∷ 0x61 ∷ 0x30 ∷ 0x20 ∷ []) ++ payload_text (packet_bytes p memory)
answer_text (Data1 p) memory = (0x64 ∷ 0x61 ∷ 0x74 ∷ 0x61 ∷ 0x31 ∷ 0x20 ∷ []) ++ payload_text (packet_bytes p memory)
answer_text Broken memory = 0x62 ∷ 0x72 ∷ 0x6F ∷ 0x6B ∷ 0x65 ∷ 0x6E ∷ []
answer_text Ack memory = 0x61 ∷ 0x63 ∷ 0x6B ∷ []
answer_text Nak memory = 0x6E ∷ 0x61 ∷ 0x6B ∷ []
answer_text Stall memory = 0x73 ∷ 0x74 ∷ 0x61 ∷ 0x6C ∷ 0x6C ∷ []

-- number, answer, line, each after a space, and one LF
unfoldable pub line_text : ℕ → Answer → List ℕ → Bool → List ℕ
line_text n a memory line = decimal n ++ (0x20 ∷ []) ++ answer_text a memory ++ (0x20 ∷ digit (bit_of line) ∷ 0x0A ∷ [])

-- "`n refuse k at p`"
unfoldable pub refusal_text : ℕ → ℕ → ℕ → List ℕ
refusal_text n k p =
    decimal n ++ (0x20 ∷ 0x72 ∷ 0x65 ∷ 0x66 ∷ 0x75 ∷ 0x73 ∷ 0x65 ∷ 0x20 ∷ []) ++ decimal k ++ (0x20 ∷ 0x61 ∷ 0x74 ∷ 0x20 ∷ [])
    ++ decimal p ++ (0x0A ∷ [])

-- a text written from a place on: how long it is, and the buffer
pub record Printed (at : ℕ) (text out : List ℕ) (r : ℕ) (out' : List ℕ) : Type 0 where
  pub count : r ≡ length text
  pub bytes : out' ≡ overlay at text out

-- no line is longer: twenty digits, a space, `data0 ` and 64 bytes in hex, a space, the line and LF
abbrev pub longest : ℕ
longest = 158
