-- Every bus event, every register access that is not reserved and every driver's call leave the chip set up and typed.
-- Assumes nothing.
use Prim.Native.Nat.{ℕ}
use mathlib.Core.Path.{◌≡◌, ap, ◌∙◌}
use mathlib.Core.Bool.{true, false}
use mathlib.Core.List.{List}
use lib.Dec.{eqb}
use Rattle.event.specs.declared.Event.{Event}
use Rattle.sender.specs.declared.Sender.{Sender}
use Rattle.receiver.specs.declared.Receiver.{Receiver}
use Rattle.state.specs.declared.Chip.{Chip}
use Rattle.state.specs.State.{Model, sender_at, receiver_at}
use Rattle.window.specs.Window.{numbered}
use Rattle.formed.specs.Formed.{well_formed}
use Rattle.laws.specs.Typed.{Bytes, Typed, TypedEvent}
use Rattle.laws.specs.Next.{next}
use Rattle.laws.proofs.Typed.Step.{step_typed}
use Rattle.laws.proofs.Formed.Step.{step_keeps}
use Rattle.laws.specs.Place.{sends, receives, awaited}
use Rattle.laws.specs.Settings.{Settled, Configured, Untouched, is_access}
use Rattle.laws.specs.Driver.{endpoint1, endpoint2, reserved}
use Rattle.laws.proofs.Frame.Settled.{access_keeps_settings, bus_keeps_settings}
use Rattle.laws.proofs.Frame.Pipes.{unreserved_sets, unreserved_keeps}
use Rattle.driving.proofs.Kept.{Sound}
use Rattle.delivery.specs.Host.{Open, over, acks, fails, datas, others}
use Rattle.delivery.specs.World.{Pipes}
use Rattle.delivery.specs.Standing.{Awaits, SetUp}
use Rattle.delivery.proofs.Standing.Calls.{Leaves}

-- the chip and its memory, typed and set up
pub record Chips (p : Pipes) (m : Model) : Type 0 where
  pub typed : Typed m
  pub as_set_up : SetUp p m.chip

-- what the set-up is about stays
module _ (p : Pipes) (c c' : Chip) (s : SetUp p c) where
  set_up_by : well_formed c' ≡ true → Settled c c' → (sender_at (numbered 1) c').epc ≡ (sender_at (numbered 1) c).epc
      → (receiver_at (numbered 1) c').epc ≡ (receiver_at (numbered 1) c).epc → SetUp p c'
  set_up_by w k e f =
      record {
        well = w;
        operates = ap (λ (x : ℕ). eqb x 2) k.nfsr ∙ s.operates;
        enabled = k.aden ∙ s.enabled;
        address = k.address ∙ s.address;
        sends_as = e ∙ s.sends_as;
        receives_as = f ∙ s.receives_as;
      }

-- the same is awaited
pub awaits_by : (o : Open) (c c' : Chip) → c'.pending.wait ≡ c.pending.wait → Awaits o c → Awaits o c'
unfolding Awaits awaited
awaits_by over c c' e h = rw e h
awaits_by acks c c' e h = rw e h
awaits_by fails c c' e h = rw e h
awaits_by datas c c' e h = rw e h
awaits_by others c c' e h = rw e h

module _ (p : Pipes) (m : Model) (k : Chips p m) where
  well_then : (t : Event) (s : List ℕ) → TypedEvent t → well_formed (next t s m).chip ≡ true
  well_then t s b = step_keeps t s m b k.typed k.as_set_up.well

  -- A bus event.
  pub bus_chips : (t : Event) (s : List ℕ) → is_access t ≡ false → TypedEvent t → Bytes s → Chips p (next t s m)
  bus_chips t s i b bs =
      let same : Configured m.chip (next t s m).chip = bus_keeps_settings t s m i in
      record {
        typed = step_typed t s m b bs k.typed;
        as_set_up = set_up_by p m.chip (next t s m).chip k.as_set_up (well_then t s b) same.settled
            (same.epcs.senders (numbered 1)) (same.epcs.receivers (numbered 1));
      }

  -- A register access that is not reserved; what is awaited stays too.
  pub access_untouched : (t : Event) (s : List ℕ) → is_access t ≡ true → reserved t ≡ false → Untouched m.chip (next t s m).chip
  access_untouched t s i r = access_keeps_settings t s m i (unreserved_sets t r)

  pub access_chips : (t : Event) (s : List ℕ) → is_access t ≡ true → reserved t ≡ false → TypedEvent t → Bytes s → Chips p (next t s m)
  access_chips t s i r b bs =
      record {
        typed = step_typed t s m b bs k.typed;
        as_set_up = set_up_by p m.chip (next t s m).chip k.as_set_up (well_then t s b) (access_untouched t s i r).settled
            (ap (λ (x : Sender). x.epc) (unreserved_keeps t s m (sends (numbered 1)) endpoint1 i r).endpoint.state)
            (ap (λ (x : Receiver). x.epc) (unreserved_keeps t s m (receives (numbered 1)) endpoint2 i r).endpoint.state);
      }

  pub chips_sound : Sound m
  chips_sound = record { typed = k.typed; formed = k.as_set_up.well }

  -- A driver's call.
  pub call_chips : (m' : Model) → Sound m' → Leaves m.chip m'.chip → Chips p m'
  call_chips m' s l =
      record {
        typed = s.typed;
        as_set_up = set_up_by p m.chip m'.chip k.as_set_up s.formed l.untouched.settled
            (l.epcs.senders (numbered 1)) (l.epcs.receivers (numbered 1));
      }
