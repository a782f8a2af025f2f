-- `hex` meets its contract: what is left to write, written into the buffer as it is now, gives the whole.
-- Assumes nothing.
use native.Mathlib.Nat.{add-zero}
use native.Mathlib.Omega.{arith}
use mathlib.Core.Path.{◌≡◌, refl, sym, ◌∙◌}
use lib.ListN.{length}
use lib.Seq.{drop-length}
use Rattle.digits.specs.Text.{overlay}
use Rattle.digits.proofs.Places.{same_place}
use Rattle.packet.specs.Packet.{packet_bytes, hex_bytes}
use Rattle.packet.proofs.Turns.{packet_most, next_hex}
use Rattle.packet.proofs.hex.Goals as goal

pub loop-k-init : goal.loop-k-init
loop-k-init c = (refl, rw (c.place-from.ensures, add-zero) (same_place _ _ _))

pub overflow_mul-k : goal.overflow_mul-k
overflow_mul-k c = omega (arith, packet_most c.args.p c.args.memory.now)

pub loop-k-preserved : goal.loop-k-preserved
loop-k-preserved c = (
  c.hex.auto.out ∙ c.loop-k.invariant.0,
  rw (c.hex.ensures, c.byte.ensures) (sym (next_hex _ _ _ _ (omega arith)) ∙ c.loop-k.invariant.1),
)

pub returns : goal.returns
unfolding overlay hex_bytes
returns c =
    let a = c.args in
    let e : c.loop-k.k ≡ length (packet_bytes a.p a.memory.now) = omega arith in
    rw (e, drop-length) at c.loop-k.invariant.1
