-- `take` meets its contract: what is left to take, taken from the state as it is now, gives the whole.
-- Assumes nothing.
use native.Mathlib.Omega.{arith}
use mathlib.Core.Path.{◌≡◌, ◌∙◌}
use Rattle.receiving.specs.Receive.{taken}
use Rattle.driver.specs.Registers.{whole, value, seen}
use Prim.Native.Nat.{ℕ, suc, ◌+◌, ◌-◌}
use lib.Seq.{sets}
use lib.ListN.{length, set}
use mathlib.Core.List.{List}
use Rattle.state.specs.State.{Model}
use Rattle.driver.proofs.Accesses.{parted}
use Rattle.reads.specs.declared.ReadOut.{ReadOut}
use Rattle.reads.specs.Read.{read_of}
use Rattle.receiving.proofs.take.Goals as goal

-- one turn of the definition, with the byte that this turn took
module _ (k at : ℕ) (p : List ℕ) (m : Model) (r : ReadOut) (e : r ≡ read_of 0x2D m.chip m.memory) where
  turn_bytes : sets (set p at r.value) (suc at) (taken k (whole r.chip m.memory)).bytes ≡ sets p at (taken (suc k) m).bytes
  unfolding taken value seen
  turn_bytes = rw e

  turn_model : (taken k (whole r.chip m.memory)).model ≡ (taken (suc k) m).model
  unfolding taken seen
  turn_model = rw e

pub loop-place-preserved : goal.loop-place-preserved
loop-place-preserved c =
    let a : _ = c.args in
    let l : _ = c.loop-place in
    let n : ℕ = length a.places.now in
    let m : Model = whole l.c a.memory.now in
    let e : n - l.place-index ≡ suc (n - suc l.place-index) = omega arith in
    let f : l.place-index + 1 ≡ suc l.place-index = omega arith in (
      rw f (turn_bytes _ _ l.places m _ c.read-r.ensures ∙ rw e at l.invariant.0),
      rw f (turn_model _ 0 l.places m _ c.read-r.ensures ∙ rw e at l.invariant.1),
    )

pub returns : goal.returns
unfolding taken
returns c =
    let l : _ = c.loop-place in
    let e : length c.args.places.now - l.place-index ≡ 0 = omega arith in
    record { left = parted (rw e at l.invariant.1); packet = rw e at l.invariant.0 }
