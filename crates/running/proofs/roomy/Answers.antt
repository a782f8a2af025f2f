-- `roomy` meets its contract: what is left of the buffer is long enough where what is written and a line end within it.
-- Assumes nothing.
use Rattle.std.proofs.Common.{◌≡◌, ◌+◌, false, leb, length, arith}
use borrow.Author.Tests.{le-leb, lt-leb}
use Rattle.running.specs.Run.{fits}
use Rattle.running.proofs.roomy.Goals as goal

pub returns-then-saturating_sub-ge-LONGEST : goal.returns-then-saturating_sub-ge-LONGEST
unfolding fits
returns-then-saturating_sub-ge-LONGEST c =
    rw (le-leb (c.args.run.written + 158) (length c.args.out.now) (omega (arith, c.saturating_sub.ensures, c.if-saturating_sub-ge-LONGEST.true)))

pub returns-else-saturating_sub-ge-LONGEST : goal.returns-else-saturating_sub-ge-LONGEST
unfolding fits
returns-else-saturating_sub-ge-LONGEST c =
    let no : leb (c.args.run.written + 158) (length c.args.out.now) ≡ false = lt-leb _ _ (omega (arith, c.saturating_sub.ensures, c.if-saturating_sub-ge-LONGEST.false)) in
    rw no (lt-leb _ _ c.if-saturating_sub-ge-LONGEST.false)
