-- The whole output of a trace.
use Rattle.std.specs.Prelude.{ℕ, zero, suc, ◌+◌, List, [], ◌++◌, length, ltb}
use Rattle.choice.specs.Choice.{pick}
use Rattle.event.specs.declared.Event.{Event}
use Rattle.trace.specs.Record.{Reading, event, end, refuse, read_at, stretch}
use Rattle.state.specs.declared.Chip.{Chip}
use Rattle.state.specs.State as state
use Rattle.interrupt.specs.Interrupt.{line}
use Rattle.step.specs.Step.{step_of, step_bytes}
use Rattle.lines.specs.Line.{line_text, refusal_text}

-- where a run is: the chip, the lent memory, the place in the trace, the next event's number
pub record Spot : Type 0 where
  pub chip : Chip
  pub memory : List ℕ
  pub place : ℕ
  pub number : ℕ

abbrev pub spot_at : Chip → List ℕ → ℕ → ℕ → Spot
spot_at c m place number = record { chip = c; memory = m; place = place; number = number }

-- one event done, and the next record's place
unfoldable pub did : Event → List ℕ → ℕ → Spot → Spot
did e s next p =
    record {
      chip = (step_of e s p.chip p.memory).chip;
      memory = step_bytes e s p.chip p.memory;
      place = next;
      number = p.number + 1;
    }

-- its line: the bytes that an answer names are those of the memory after it
unfoldable pub line_of : Event → List ℕ → Spot → List ℕ
line_of e s p =
    line_text p.number (step_of e s p.chip p.memory).answer (step_bytes e s p.chip p.memory) (line (step_of e s p.chip p.memory).chip)

-- "An event that cannot be read gives its refusal and ends the run: `n refuse k at p`"; "The end at a record's start, or a place past it, is no
-- refusal."
unfoldable pub shown : List ℕ → Spot → Reading → (Spot → List ℕ) → List ℕ
shown trace p end others = []
shown trace p (refuse k at) others = refusal_text p.number k at
shown trace p (event e from next) others = line_of e (stretch trace from next) p ++ others (did e (stretch trace from next) next p)

-- at most so many events from there on
unfoldable pub output_from : ℕ → List ℕ → Spot → List ℕ
output_from zero trace p = []
output_from (suc most) trace p = shown trace p (read_at trace p.place) (output_from most trace)

abbrev pub start : Spot
start = spot_at (state.reset).chip (state.reset).memory 0 0

-- "8 prints with n 0"; a record takes a byte at least, so that no trace has more records than bytes
unfoldable pub output : List ℕ → List ℕ
output trace = pick (ltb 65536 (length trace)) (refusal_text 0 8 0) (output_from (length trace) trace start)
