-- `run` meets its contract, which says nothing: what a run tells as written is within the buffer.
-- Assumes nothing.
use Rattle.console.proofs.run.Goals as goal

pub slice_bounds-out-end : goal.slice_bounds-out-end
slice_bounds-out-end g c = c.run-ran.ensures.written_in_bounds
