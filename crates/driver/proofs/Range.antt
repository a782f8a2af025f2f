-- What a start that is not refused says of its address and its bus endpoints.
-- Assumes nothing.
use Prim.Native.Nat.{ℕ, ◌≤◌}
use mathlib.Core.Path.{◌≡◌}
use mathlib.Core.Bool.{true, ◌&&◌, and-eq-true_iff}
use lib.Dec.{leb}
use borrow.Author.Tests.{leb-true}
use Rattle.event.specs.declared.BusEndpoint.{BusEndpoint}
use Rattle.driver.specs.Driver.{startable}

pub in_range_lem : (a : ℕ) (e f : BusEndpoint) → startable a e f ≡ true → (a ≤ 127) × (e.0 ≤ 15) × (f.0 ≤ 15)
unfolding startable
in_range_lem a e f h =
    let q : _ = (and-eq-true_iff (leb a 127 && (leb 1 e.0 && leb e.0 15)) (leb 1 f.0 && leb f.0 15)).0 h in
    let p : _ = (and-eq-true_iff (leb a 127) (leb 1 e.0 && leb e.0 15)).0 q.0 in
    let s : _ = (and-eq-true_iff (leb 1 e.0) (leb e.0 15)).0 p.1 in
    let r : _ = (and-eq-true_iff (leb 1 f.0) (leb f.0 15)).0 q.1 in
    (leb-true a 127 p.0, leb-true e.0 15 s.1, leb-true f.0 15 r.1)
