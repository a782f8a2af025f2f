-- `take_all` meets its contract: after each round the rest is left, and at the end nothing.
-- Assumes nothing.
use native.Mathlib.Omega.{arith}
use mathlib.Core.Path.{◌≡◌}
use mathlib.Core.List.{List}
use Prim.Native.Nat.{ℕ, ◌+◌, ◌-◌, ◌≤◌}
use lib.ListN.{length}
use borrow.Rule.Slice.PartMut.{mid_of, put_mid}
use Rattle.state.specs.declared.Chip.{Chip}
use Rattle.state.specs.State.{Model}
use Rattle.receiving.specs.Receive.{Taking, taken, Fills}
use Rattle.receiving.proofs.Rounds.{Rest, part_fills, round_left, round_less, none_left}
use Rattle.driver.proofs.Accesses.{parted}
use Rattle.receiving.proofs.take_all.Goals as goal

-- the round's bytes, in the part of the packet that `take` got
module _ {all : Taking} {m : Model} {packet places : List ℕ} {got shown : ℕ} {c : Chip} (l : Rest all m packet got shown) (size : length packet ≡ 64)
    (f : Fills (taken (length (mid_of got (got + shown - got) packet)) m) 0 m.memory (mid_of got (got + shown - got) packet) c places) where
  filled : Fills (taken shown m) got m.memory packet c (put_mid got (got + shown - got) packet places)
  filled =
      let room : got + shown ≤ length packet = omega (arith, l.room, l.shows, size) in
      let e : got + shown - got ≡ shown = omega arith in
      part_fills packet got shown (got + shown - got) room e m f

pub loop-shown-smaller : goal.loop-shown-smaller
loop-shown-smaller c =
    let l : _ = c.loop-shown.invariant in
    let t : _ = c.loop-shown-test in
    round_less l t.true (filled l t.array_long c.take-c.ensures) c.read-r.ensures

pub loop-shown-preserved : goal.loop-shown-preserved
loop-shown-preserved c =
    let l : _ = c.loop-shown.invariant in
    let t : _ = c.loop-shown-test in
    round_left l t.true (filled l t.array_long c.take-c.ensures) c.read-r.ensures

pub returns : goal.returns
returns c =
    let l : _ = c.loop-shown in
    let z : l.shown ≡ 0 = omega arith in
    let e : _ = none_left (rw z at l.invariant) in
    record { left = parted e.0; count = e.1; packet = e.2 }
