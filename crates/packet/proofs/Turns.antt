-- The bytes of a packet: how many they are, and how they are written one after the other.
-- Assumes nothing.
use Prim.Native.Nat.{ℕ, zero, suc, ◌+◌, ◌*◌, ◌%◌, ◌≤◌, ◌<◌, min}
use native.Mathlib.Omega.{arith}
use native.Mathlib.Numerals.{add-one}
use mathlib.Core.Path.{◌≡◌, refl, sym, ap}
use mathlib.Core.List.{List, [], ◌∷◌}
use lib.ListN.{length, drop, get_or}
use lib.Seq.{drop-cons}
use Rattle.window.specs.declared.Kind.{Kind}
use Rattle.window.specs.declared.Kind.TheVariants.{Control, Transmit, Receive}
use Rattle.window.specs.Window.{start_of, size_of}
use Rattle.ring.specs.Ring.{next, byte_at, bytes_from}
use Rattle.answer.specs.declared.Packet.{Packet}
use Rattle.digits.specs.Text.{overlay, hex_byte}
use Rattle.packet.specs.Packet.{packet_bytes, hex_bytes}

size_most : (k : Kind) → size_of k ≤ 64
size_most Control = omega arith
size_most Transmit = omega arith
size_most Receive = omega arith

bytes_from_length : (start size : ℕ) (m : List ℕ) (c n : ℕ) → length (bytes_from start size m c n) ≡ n
unfolding bytes_from
bytes_from_length start size m c zero = refl
bytes_from_length start size m c (suc n) = ap suc (bytes_from_length start size m (next c) n)

pub packet_length : (p : Packet) (m : List ℕ) → length (packet_bytes p m) ≡ min p.count (size_of p.window.kind)
unfolding packet_bytes
packet_length p m = bytes_from_length _ _ m p.from _

-- A packet has at most 64 bytes.
pub packet_most : (p : Packet) (m : List ℕ) → length (packet_bytes p m) ≤ 64
packet_most p m = omega (arith, packet_length p m, size_most p.window.kind)

-- Two digits a byte.
pub hex_bytes_length : (bytes : List ℕ) → length (hex_bytes bytes) ≡ 2 * length bytes
unfolding hex_bytes
hex_bytes_length [] = refl
hex_bytes_length (b ∷ bytes) = omega (arith, hex_bytes_length bytes)

-- the byte k places after the first is that of the counter k after the first's
from_byte : (start size : ℕ) (m : List ℕ) (c n k : ℕ) → c < 256 → k < n → get_or (bytes_from start size m c n) k 0 ≡ byte_at start size m ((c + k) % 256)
unfolding bytes_from
from_byte start size m c zero k small h = absurd {0} (omega arith)
from_byte start size m c (suc n) zero small h = let e : (c + 0) % 256 ≡ c = omega arith in rw e
from_byte start size m c (suc n) (suc k) small h =
    let e : (next c + k) % 256 ≡ (c + suc k) % 256 = omega arith in
    rw (from_byte start size m (next c) n k (omega arith) (omega arith), e)

pub packet_byte : (p : Packet) (m : List ℕ) (k : ℕ) → p.from < 256 → k < length (packet_bytes p m)
    → byte_at (start_of p.window.kind p.window.number) (size_of p.window.kind) m ((p.from + k) % 256) ≡ get_or (packet_bytes p m) k 0
unfolding packet_bytes
packet_byte p m k small h = sym (from_byte _ _ m p.from _ k small (omega (arith, packet_length p m)))

-- the digits of the first byte left, and then those of what is left after it
pub next_hex : (at k : ℕ) (s out : List ℕ) → k < length s
    → overlay (at + 2 * k) (hex_bytes (drop k s)) out
    ≡ overlay (at + 2 * (k + 1)) (hex_bytes (drop (k + 1) s)) (overlay (at + 2 * k) (hex_byte (get_or s k 0)) out)
unfolding overlay hex_bytes
next_hex at k s out h =
    let e : at + 2 * (k + 1) ≡ at + 2 * k + 1 + 1 = omega arith in
    rw (drop-cons s k 0, e, add-one k)
