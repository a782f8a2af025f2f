-- `bytes` meets its contract: what is left to write, written into the buffer as it is now, gives the whole.
-- Assumes nothing.
use native.Mathlib.Nat.{add-zero}
use native.Mathlib.Omega.{arith}
use mathlib.Core.Path.{◌≡◌, refl, sym, ◌∙◌}
use lib.ListN.{length}
use lib.Seq.{drop-length}
use Rattle.digits.specs.Text.{overlay}
use Rattle.digits.proofs.Places.{first_byte}
use Rattle.packet.specs.Packet.{packet_bytes}
use Rattle.packet.proofs.bytes.Goals as goal

pub loop-k-init : goal.loop-k-init
loop-k-init c = (refl, rw add-zero)

pub loop-k-preserved : goal.loop-k-preserved
loop-k-preserved c = (
  c.put.auto.out ∙ c.loop-k.invariant.0,
  rw (c.put.ensures, c.byte.ensures) (sym (first_byte _ _ _ _ (omega arith)) ∙ c.loop-k.invariant.1),
)

pub returns : goal.returns
unfolding overlay
returns c =
    let a = c.args in
    let e : c.loop-k.k ≡ length (packet_bytes a.p a.memory.now) = omega arith in
    record { count = c.count-n.ensures; bytes = rw (e, drop-length) at c.loop-k.invariant.1 }
