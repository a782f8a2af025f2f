-- `hex` meets its contract: what is left to write, written into the buffer as it is now, gives the whole.
-- Assumes nothing.
use Prim.Native.Nat.{◌+◌, ◌*◌}
use mathlib.Core.Path.{◌≡◌}
use lib.ListN.{length, drop}
use Rattle.digits.specs.Text.{overlay}
use Rattle.packet.specs.Packet.{packet_bytes, hex_bytes}
use Rattle.packet.proofs.hex.Given as goal

abbrev pub invariant-loop-k : goal.invariant-loop-k
invariant-loop-k l =
    (length l.out ≡ length l.initial.out)
    × (overlay (l.from + 2 * l.k) (hex_bytes (drop l.k (packet_bytes l.p l.memory))) l.out
    ≡ overlay (l.at + l.i) (hex_bytes (packet_bytes l.p l.memory)) l.initial.out)
