-- Every event leaves a well-formed state well formed.
-- Assumes nothing.
use Prim.Native.Nat.{ℕ}
use mathlib.Core.Path.{◌≡◌}
use mathlib.Core.Bool.{Bool, true, false}
use mathlib.Core.List.{List}
use lib.ListN.{length}
use Rattle.event.specs.declared.Event.{Event}
use Rattle.event.specs.declared.Event.TheVariants as event
use Rattle.event.specs.Event.{values_of, in_range}
use Rattle.state.specs.declared.Chip.{Chip}
use Rattle.state.specs.State.{Model}
use Rattle.settings.specs.Settings.{operational}
use Rattle.step.specs.Step.{quiet, step_of}
use Rattle.formed.specs.Formed.{well_formed}
use Rattle.laws.specs.Typed.{TypedChip, Typed, TypedEvent}
use Rattle.laws.specs.Next.{next}
use Rattle.laws.proofs.Typed.Ranges.{in_range_typed}
use Rattle.laws.proofs.Typed.Steps.{Hears, step_by}
use Rattle.laws.proofs.Typed.Bus.{ended_typed}
use Rattle.laws.proofs.Typed.Step.{quiet_typed}
use Rattle.laws.proofs.Formed.Facts.{Facts, known, shown}
use Rattle.laws.proofs.Formed.Registers.{read_keeps, write_keeps}
use Rattle.laws.proofs.Formed.Ends.{ended_facts, dropped_facts}
use Rattle.laws.proofs.Formed.Tokens.{in_facts, out_facts, setup_token_facts}
use Rattle.laws.proofs.Formed.Data.{data_now_facts}

abbrev Well : Chip → Type 0
Well c = well_formed c ≡ true

module _ (c : Chip) (t : TypedChip c) (h : Well c) where
  quiet_facts : (acked : Bool) → operational c ≡ true → Facts true (quiet acked c)
  unfolding quiet
  quiet_facts acked o = dropped_facts _ (ended_facts c t (known true c o t h) acked)

  heard : Hears Well c
  heard =
      record {
        none = h;
        in_token_lem = λ o a e. shown true _ (in_facts _ (quiet_typed c t false) (quiet_facts false o) a e);
        out_token_lem = λ o a e. shown true _ (out_facts _ (quiet_facts false o) a e);
        setup_token_lem = λ o a e. shown true _ (setup_token_facts _ (quiet_facts false o) a e);
        data_packet = λ o pid sound s.
            shown true _ (data_now_facts pid sound _ (ended_typed c t false) (ended_facts c t (known true c o t h) false) s);
        end = λ o acked. shown true _ (quiet_facts acked o);
      }

  step_chip_keeps : (e : Event) (s m : List ℕ) → TypedEvent e → Well (step_of e s c m).chip
  unfolding values_of
  step_chip_keeps e s m b =
      step_by Well c heard e s m (λ a _. read_keeps a c m t h)
      (λ a v q. let k : TypedEvent (event.Write a v) = rw q at b in write_keeps a v c (k 1) t h)

-- Every event whose fields are bytes, in range or not, leaves a well-formed state well formed.
pub step_keeps : (e : Event) (s : List ℕ) (m : Model) → TypedEvent e → Typed m → well_formed m.chip ≡ true
    → well_formed (next e s m).chip ≡ true
step_keeps e s m b t h = step_chip_keeps m.chip t.chip h e s m.memory b

-- So does every event in range.
pub in_range_keeps : (e : Event) (s : List ℕ) (m : Model) → in_range e (length s) ≡ true → Typed m → well_formed m.chip ≡ true
    → well_formed (next e s m).chip ≡ true
in_range_keeps e s m r t h = step_keeps e s m (in_range_typed e (length s) r) t h
