-- "5 before 1 to 4": the number of an event's refusal, 0 where it is answered.
-- Assumes nothing.
use Prim.Native.Nat.{ℕ}
use mathlib.Core.Path.{◌≡◌, refl}
use mathlib.Core.Bool.{Bool, true, false, not}
use mathlib.Core.List.{List}
use lib.ListN.{length}
use Rattle.choice.specs.Choice.{pick}
use Rattle.event.specs.declared.Event.{Event}
use Rattle.event.specs.Event.{in_range}
use Rattle.state.specs.declared.Chip.{Chip}
use Rattle.formed.specs.Formed.{well_formed}
use Rattle.step.specs.Step.{step_of}
use Rattle.refusal.specs.declared.Refusal.TheVariants.{NotWellFormed, OutOfRange}
use Rattle.chip.specs.Checked.{stepped, refusing, answering, refused_with}

pub step_number : (e : Event) (s : List ℕ) (c : Chip) (m : List ℕ) → refused_with (stepped e s c m).reply ≡ pick (not (well_formed c)) 5 (pick (not (in_range e (length s))) 4 0)
unfolding stepped pick
step_number e s c m = by_tests (not (well_formed c)) (not (in_range e (length s)))
  where
    by_tests : (b d : Bool) → refused_with (pick b (refusing NotWellFormed c) (pick d (refusing OutOfRange c) (answering (step_of e s c m)))).reply ≡ pick b 5 (pick d 4 0)
    by_tests true d = refl
    by_tests false true = refl
    by_tests false false = refl
