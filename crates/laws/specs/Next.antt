-- One event on the whole state: the chip and the memory that it is lent.
use Rattle.std.specs.Prelude.{ℕ, List}
use Rattle.event.specs.declared.Event.{Event}
use Rattle.state.specs.State.{Model}
use Rattle.step.specs.Step.{step_of, step_bytes}

abbrev pub next : Event → List ℕ → Model → Model
next e s m = record { chip = (step_of e s m.chip m.memory).chip; memory = step_bytes e s m.chip m.memory }
