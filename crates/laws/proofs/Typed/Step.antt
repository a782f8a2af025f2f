-- Every event keeps a state typed; the reset state is.
-- Assumes nothing.
use Prim.Native.Nat.{ℕ}
use mathlib.Core.Bool.{Bool, false}
use mathlib.Core.List.{List}
use lib.Dec.{eqb}
use Rattle.choice.proofs.ByTest.{by_test}
use Rattle.event.specs.declared.Event.{Event}
use Rattle.event.specs.declared.Event.TheVariants as event
use Rattle.event.specs.Event.{values_of}
use Rattle.state.specs.declared.Chip.{Chip}
use Rattle.state.specs.State.{Model, reset}
use Rattle.step.specs.Step.{quiet, data_step_bytes, step_of, step_bytes}
use Rattle.ends.specs.Ends.{ended}
use Rattle.laws.specs.Typed.{Bytes, TypedChip, TypedMemory, Typed, TypedEvent}
use Rattle.laws.specs.Next.{next}
use Rattle.laws.proofs.Typed.Chip.{reset_chip_typed, reset_memory_typed}
use Rattle.laws.proofs.Typed.Registers.{read_typed, write_typed, write_bytes_typed}
use Rattle.laws.proofs.Typed.Steps.{Hears, step_by}
use Rattle.laws.proofs.Typed.Bus.{ended_typed, dropped_typed, in_typed, out_typed, setup_typed}
use Rattle.laws.proofs.Typed.Data.{data_typed, data_bytes_typed}

module _ (c : Chip) (t : TypedChip c) where
  pub quiet_typed : (acked : Bool) → TypedChip (quiet acked c)
  unfolding quiet
  quiet_typed acked = dropped_typed _ (ended_typed c t acked)

  heard : Hears TypedChip c
  heard =
      record {
        none = t;
        in_token_lem = λ _. in_typed _ (quiet_typed false);
        out_token_lem = λ _. out_typed _ (quiet_typed false);
        setup_token_lem = λ _. setup_typed _ (quiet_typed false);
        data_packet = λ _ pid sound s. data_typed pid sound _ (ended_typed c t false) s;
        end = λ _. quiet_typed;
      }

  -- The chip's state after an event.
  step_chip_typed : (e : Event) (s m : List ℕ) → TypedEvent e → Bytes m → TypedChip (step_of e s c m).chip
  unfolding values_of
  step_chip_typed e s m h b =
      step_by TypedChip c heard e s m (λ a _. read_typed a c m b t)
      (λ a v q. let k : TypedEvent (event.Write a v) = rw q at h in write_typed a v c (k 1) t)

module _ (c : Chip) (m : List ℕ) (h : TypedMemory m) where
  data_step_bytes_typed : (pid sound : Bool) (s : List ℕ) → Bytes s → TypedMemory (data_step_bytes pid sound s c m)
  unfolding data_step_bytes
  data_step_bytes_typed pid sound s b = by_test TypedMemory _ (λ _. data_bytes_typed pid sound (ended false c) s b m h) (λ _. h)

  -- The lent memory after it.
  step_memory_typed : (e : Event) (s : List ℕ) → TypedEvent e → Bytes s → TypedMemory (step_bytes e s c m)
  unfolding step_bytes values_of
  step_memory_typed (event.Read a) s t b = h
  step_memory_typed (event.Write a v) s t b = write_bytes_typed a v c m (t 1) h
  step_memory_typed (event.In a e) s t b = h
  step_memory_typed (event.Out a e) s t b = h
  step_memory_typed (event.Setup a e) s t b = h
  step_memory_typed (event.Data pid sound) s t b = data_step_bytes_typed (eqb pid 1) (eqb sound 1) s b
  step_memory_typed event.Ack s t b = h
  step_memory_typed event.Timeout s t b = h

-- The reset state is typed.
pub reset_typed : Typed reset
reset_typed = record { chip = reset_chip_typed; memory = reset_memory_typed }

-- Every event whose fields and payload are bytes, in range or not, keeps a state typed.
pub step_typed : (e : Event) (s : List ℕ) (m : Model) → TypedEvent e → Bytes s → Typed m → Typed (next e s m)
step_typed e s m h b t =
    record {
      chip = step_chip_typed m.chip t.chip e s m.memory h t.memory.each;
      memory = step_memory_typed m.chip m.memory t.memory e s h b;
    }
