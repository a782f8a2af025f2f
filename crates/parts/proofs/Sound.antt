-- Every event that is read keeps a run's state well formed, and its state and memory as Rattle's types have them.
-- Assumes nothing.
use Prim.Native.Nat.{ℕ, zero, suc, ◌-◌}
use native.Mathlib.Omega.{arith}
use mathlib.Core.Path.{◌≡◌}
use mathlib.Core.Bool.{true}
use mathlib.Core.List.{List, [], ◌∷◌}
use lib.ListN.{take, drop}
use lib.Seq.{get_or-drop}
use Rattle.event.specs.declared.Event.{Event}
use Rattle.trace.specs.Record.{event, read_at, stretch}
use Rattle.reading.proofs.Reader.{answers_in_range}
use Rattle.state.specs.State.{Model}
use Rattle.formed.specs.Formed.{well_formed}
use Rattle.laws.specs.Typed.{Bytes, Typed}
use Rattle.laws.proofs.Typed.Ranges.{in_range_typed}
use Rattle.laws.proofs.Typed.Step.{reset_typed, step_typed}
use Rattle.laws.proofs.Formed.Registers.{reset_well}
use Rattle.laws.proofs.Formed.Step.{step_keeps}
use Rattle.running.specs.Output.{Spot, did, start}

abbrev pub model_at : Spot → Model
model_at p = record { chip = p.chip; memory = p.memory }

-- a spot whose state is well formed, with arrays of their lengths and bytes below 256
pub record Sound (p : Spot) : Type 0 where
  pub typed : Typed (model_at p)
  pub formed : well_formed p.chip ≡ true

pub start_sound : Sound start
start_sound = record { typed = reset_typed; formed = reset_well }

-- a part of bytes is bytes
take_bytes : (n : ℕ) (l : List ℕ) → Bytes l → Bytes (take n l)
take_bytes zero l b i = omega arith
take_bytes (suc n) [] b i = omega arith
take_bytes (suc n) (x ∷ l) b zero = b zero
take_bytes (suc n) (x ∷ l) b (suc i) = take_bytes n l (λ j. b (suc j)) i

drop_bytes : (n : ℕ) (l : List ℕ) → Bytes l → Bytes (drop n l)
drop_bytes n l b i = rw (get_or-drop n l i 0) (b _)

pub did_sound : (trace : List ℕ) (p : Spot) (e : Event) (from next : ℕ) → Bytes trace → read_at trace p.place ≡ event e from next → Sound p
    → Sound (did e (stretch trace from next) next p)
unfolding did
did_sound trace p e from next b h s =
    let fields : _ = in_range_typed e (next - from) (answers_in_range trace p.place e from next h) in
    let payload : Bytes (stretch trace from next) = take_bytes (next - from) (drop from trace) (drop_bytes from trace b) in
    record {
      typed = step_typed e (stretch trace from next) (model_at p) fields payload s.typed;
      formed = step_keeps e (stretch trace from next) (model_at p) fields s.typed s.formed;
    }
