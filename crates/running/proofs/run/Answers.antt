-- `run` meets its contract: what is written is within the buffer.
-- Assumes nothing.
use Rattle.running.proofs.Within.{run_of_within}
use Rattle.running.specs.Run.{running}
use Rattle.running.specs.Output.{spot_at}
use native.Mathlib.Omega.{arith}
use Rattle.running.proofs.run.Goals as goal

pub returns-clause-written_in_bounds : goal.returns-clause-written_in_bounds
returns-clause-written_in_bounds c =
    let within =
    run_of_within c.args.s.now (omega arith) (running (spot_at c.args.c c.args.memory.now c.args.at c.args.number) c.args.out.now 0) (record { written = omega arith }) (record { place = omega (arith, c.ranges.at); number = omega (arith, c.ranges.number) }) in
    (rw c.to_stop-stop.ensures at within).written
