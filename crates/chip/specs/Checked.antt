-- One event on any state whatever: done, or refused with the state as given. A register access is an event too.
use Rattle.std.specs.Prelude.{ℕ, ◌≡◌, not, List, length, Result, Ok, Err, ⊤}
use Rattle.choice.specs.Choice.{pick}
use Rattle.refusal.specs.Refusal.{number_of}
use Rattle.refusal.specs.declared.Refusal.{Refusal}
use Rattle.refusal.specs.declared.Refusal.TheVariants.{NotWellFormed, OutOfRange}
use Rattle.event.specs.declared.Event.{Event}
use Rattle.event.specs.Event.{in_range}
use Rattle.state.specs.declared.Chip.{Chip}
use Rattle.interrupt.specs.Interrupt.{line}
use Rattle.answer.specs.declared.Answer.{Answer}
use Rattle.answer.specs.declared.Out.{Out}
use Rattle.step.specs.Step.{step_of, step_bytes}
use Rattle.formed.specs.Formed.{well_formed}
use Rattle.chip.specs.declared.Stepped.{Stepped}

-- 01's number where an event is refused, 0 where it is answered; the answer's own word is `answer_text`
abbrev pub refused_with : Result Answer Refusal → ℕ
refused_with (Ok a) = 0
refused_with (Err why) = number_of why

-- "5 state not well formed .. state as given"; 4, "state unchanged"; the line is that of the state as given
abbrev pub refusing : Refusal → Chip → Stepped
refusing r c = record { chip = c; reply = Err r; line = line c }

-- "It gives the next state, the answer and the interrupt line."
abbrev pub answering : Out → Stepped
answering o = record { chip = o.chip; reply = Ok o.answer; line = line o.chip }

-- whether an event with so many bytes is done, or what refuses it
unfoldable pub admitted : Event → ℕ → Chip → Result ⊤ Refusal
admitted e count c = pick (not (well_formed c)) (Err NotWellFormed) (pick (not (in_range e count)) (Err OutOfRange) (Ok tt))

-- "5 before 1 to 4"; "An event given without a trace meets 4 too, state unchanged."
unfoldable pub stepped : Event → List ℕ → Chip → List ℕ → Stepped
stepped e s c m =
    pick (not (well_formed c)) (refusing NotWellFormed c)
    (pick (not (in_range e (length s))) (refusing OutOfRange c)
    (answering (step_of e s c m)))

-- the lent memory after it: a refusal takes no byte
unfoldable pub stepped_bytes : Event → List ℕ → Chip → List ℕ → List ℕ
stepped_bytes e s c m = pick (not (well_formed c)) m (pick (not (in_range e (length s))) m (step_bytes e s c m))

pub record Steps (e : Event) (s : List ℕ) (c : Chip) (m : List ℕ) (r : Stepped) (m' : List ℕ) : Type 0 where
  pub out : r ≡ stepped e s c m
  pub bytes : m' ≡ stepped_bytes e s c m
