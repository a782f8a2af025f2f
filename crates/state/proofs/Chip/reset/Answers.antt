-- `Chip::reset` meets its contract: the endpoints are their own resets, and the rest is the default.
-- Assumes nothing.
use Rattle.std.proofs.Common.{false}
use native.Mathlib.Omega.{arith}
use Rattle.state.proofs.Default.{replicated}
use Rattle.state.proofs.Chip.reset.Goals as goal

pub returns : goal.returns
returns c =
    let d = c.default.ensures in
    let e = d.1.1.1.1.1.1.1.0 in
    let o = replicated _ false (λ x h. h) _ 4 e.0 in
    let i = replicated _ false (λ x h. h) _ 4 e.1.0 in
    let j = replicated _ false (λ x h. h) _ 4 e.1.1 in
    grind arith
