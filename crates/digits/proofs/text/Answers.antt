-- `text` meets its contract: what is left to write, written into the buffer as it is now, gives the whole.
-- Assumes nothing.
use native.Mathlib.Nat.{add-zero}
use native.Mathlib.Omega.{arith}
use mathlib.Core.Path.{◌≡◌, refl}
use lib.ListN.{length}
use lib.Seq.{drop-length}
use Rattle.digits.specs.Text.{overlay}
use Rattle.digits.proofs.Places.{same_place}
use Rattle.digits.proofs.text.Goals as goal

pub loop-k-init : goal.loop-k-init
loop-k-init c = (refl, rw (add-zero, c.place-from.ensures) (same_place _ _ _))

pub returns : goal.returns
unfolding overlay
returns c =
    let e : c.loop-k.k ≡ length c.args.s.now = omega arith in
    rw (e, drop-length) at c.loop-k.invariant.1
