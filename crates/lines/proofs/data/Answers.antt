-- `data` meets its contract: two texts one after the other.
-- Assumes nothing.
use native.Mathlib.Nat.{add-zero}
use native.Mathlib.Omega.{arith}
use mathlib.Core.Path.{◌≡◌}
use lib.ListN.{length, length-append}
use borrow.Author.Rules.{rules}
use Rattle.packet.specs.Packet.{packet_bytes}
use Rattle.packet.proofs.Turns.{packet_most}
use Rattle.lines.proofs.Joined.{and_then}
use Rattle.lines.proofs.Lengths.{payload_length}
use Rattle.lines.proofs.data.Goals as goal

pub overflow_add-result : goal.overflow_add-result
overflow_add-result c =
    let a = c.args in
    omega (arith, payload_length (packet_bytes a.p a.memory.now) (packet_most a.p a.memory.now))

pub returns : goal.returns
returns c =
    let a = c.args in
    let six : length a.name.now ≡ 6 = search rules in
    record {
      count = rw length-append (omega arith);
      bytes = rw add-zero at (and_then _ 0 6 _ _ _ c.text.ensures c.payload.ensures.bytes (omega arith));
    }
