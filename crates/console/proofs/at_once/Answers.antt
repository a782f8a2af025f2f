-- `at_once` meets its contract, which says nothing: a refusal's line is within the buffer for the longest.
-- Assumes nothing.
use Prim.Native.Nat.{ℕ, ◌≤◌, ◌<◌, ◌^◌}
use native.Mathlib.Omega.{arith}
use mathlib.Core.Path.{◌≡◌, sym}
use lib.ListN.{length}
use lib.Seq.{length-take-le}
use Rattle.refusal.specs.declared.Refusal.{Refusal}
use Rattle.refusal.specs.Refusal.{number_of}
use Rattle.lines.specs.Line.{refusal_text}
use Rattle.running.proofs.Turns.{refusal_short}
use Rattle.console.proofs.at_once.Goals as goal

within : (why : Refusal) (place n most : ℕ) → place < 2 ^ 64 → n ≡ length (refusal_text 0 (number_of why) place) → most ≡ 158 → n ≤ most
within why place n most fits count sized = omega (arith, count, sized, refusal_short 0 why place (omega arith) fits)

pub slice_bounds-line-end : goal.slice_bounds-line-end
slice_bounds-line-end g c = within c.args.refused.why c.args.refused.place _ _ (omega arith) c.refusal-n.ensures.count c.refusal-n.auto.out

pub slice_bounds-write_all-end : goal.slice_bounds-write_all-end
slice_bounds-write_all-end g c =
    sym (length-take-le _ _ (within c.args.refused.why c.args.refused.place _ _ (omega arith) c.refusal-n.ensures.count c.refusal-n.auto.out))
