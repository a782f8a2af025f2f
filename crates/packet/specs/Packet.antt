-- The bytes of a packet, as a list and as hex.
use Rattle.std.specs.Prelude.{ℕ, min, ◌≡◌, List, [], ◌∷◌, ◌++◌, length}
use Rattle.window.specs.Window.{start_of, size_of}
use Rattle.ring.specs.Ring.{bytes_from}
use Rattle.answer.specs.declared.Packet.{Packet}
use Rattle.digits.specs.Text.{overlay, hex_byte}

-- the bytes that a packet names, in the order in which they are sent; a window has no more than its size
unfoldable pub packet_bytes : Packet → List ℕ → List ℕ
packet_bytes p memory =
    bytes_from (start_of p.window.kind p.window.number) (size_of p.window.kind) memory p.from (min p.count (size_of p.window.kind))

-- "two capital digits a byte, no spaces"
unfoldable pub hex_bytes : List ℕ → List ℕ
hex_bytes [] = []
hex_bytes (b ∷ bytes) = hex_byte b ++ hex_bytes bytes

-- a packet written: how many bytes, and the buffer
pub record Copied (at : ℕ) (p : Packet) (memory out : List ℕ) (r : ℕ) (out' : List ℕ) : Type 0 where
  pub count : r ≡ length (packet_bytes p memory)
  pub bytes : out' ≡ overlay at (packet_bytes p memory) out
