-- `to_stop` meets its contract: two tests, then the events, and the line of a refusal among them.
-- Assumes nothing.
use Rattle.choice.specs.Choice.{pick}
use Rattle.running.specs.Run.{run_of}
use Rattle.running.proofs.to_stop.Goals as goal

pub returns-then-too_long : goal.returns-then-too_long
unfolding run_of pick
returns-then-too_long c = rw (← c.too_long.ensures, c.if-too_long.true)

pub returns-then-not-well_formed : goal.returns-then-not-well_formed
unfolding run_of pick
returns-then-not-well_formed c = rw (← c.too_long.ensures, c.if-too_long.false, ← c.well_formed-2.ensures, c.if-not-well_formed.true)

pub returns-in-Ok : goal.returns-in-Ok
unfolding run_of pick
returns-in-Ok c =
    rw (← c.too_long.ensures, c.if-too_long.false, ← c.well_formed-2.ensures, c.if-not-well_formed.false, c.in-Ok.is) (rw c.in-Ok.is at c.events-stop.ensures)

pub returns-in-Err : goal.returns-in-Err
unfolding run_of pick
returns-in-Err c =
    rw (← c.too_long.ensures, c.if-too_long.false, ← c.well_formed-2.ensures, c.if-not-well_formed.false, rw c.in-Err.is at c.events-stop.ensures) (c.printed.ensures _)
