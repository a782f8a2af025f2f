-- The bus events, the register accesses and the driver's calls that leave endpoint 2 and its bytes as they were.
-- Assumes nothing.
use Prim.Native.Nat.{ℕ, ◌<◌}
use mathlib.Core.Path.{◌≡◌, refl, ◌∙◌}
use mathlib.Core.Bool.{Bool, true, false}
use mathlib.Core.List.{List, []}
use lib.Dec.{eqb}
use Rattle.std.specs.Prelude.{Option, None, Some}
use Rattle.choice.specs.Choice.{pick}
use Rattle.choice.proofs.ByTest.{by_test}
use Rattle.event.specs.declared.BusEndpoint.{BusEndpoint}
use Rattle.event.specs.declared.Event.{Event}
use Rattle.event.specs.declared.Event.TheVariants as event
use Rattle.receiver.specs.declared.Receiver.{Receiver}
use Rattle.state.specs.declared.Endpoint.{Endpoint}
use Rattle.state.specs.declared.Chip.{Chip}
use Rattle.state.specs.State.{Model, receiver_at}
use Rattle.settings.specs.Settings.{operational}
use Rattle.window.specs.Window.{numbered}
use Rattle.tokens.specs.Tokens.{out_mask, winner}
use Rattle.ends.specs.Ends.{idled, ended_zero, ended_sender, ended, dropped_setup}
use Rattle.bus.specs.Bus.{awaiting, out_at, out_by}
use Rattle.step.specs.Step.{quiet, read_step, write_step, out_step, step_of, step_bytes}
use Rattle.laws.specs.Next.{next}
use Rattle.laws.proofs.Typed.Steps.{ended_by, dropped_by}
use Rattle.laws.specs.Place.{receives, is_owner, Same}
use Rattle.laws.specs.Owner.{register_owner, slot_place, data_owner, owner, is_for, exempt, acks, quieted}
use Rattle.laws.specs.Settings.{is_access}
use Rattle.laws.specs.Driver.{endpoint2, reserved}
use Rattle.laws.proofs.Frame.Frame.{bus_frame, frame, same_holds}
use Rattle.laws.proofs.Frame.Pipes.{unreserved_keeps}
use Rattle.driver.specs.Registers.{written, seen}
use Rattle.driving.specs.Touches.{Touches, Sending, txs, txd, txc}
use Rattle.driving.proofs.Reached.{touches_by}
use Rattle.driving.proofs.Packet.{held}
use Rattle.delivery.proofs.Standing.Reaches.{in_not_receives, setup_not_piped}

-- endpoint 2
abbrev pub rx : Model → Receiver
rx m = receiver_at (numbered 1) m.chip

-- it is as it was, and RXFIFO1 holds the same bytes
pub record Alike (m m' : Model) : Type 0 where
  pub state : rx m' ≡ rx m
  pub bytes : held m' ≡ held m

pub alike : (m : Model) → Alike m m
alike m = record { state = refl; bytes = refl }

pub alike_then : {a b c : Model} → Alike a b → Alike b c → Alike a c
alike_then x y = record { state = y.state ∙ x.state; bytes = y.bytes ∙ x.bytes }

same_alike : (m m' : Model) → Same (receives (numbered 1)) m m' → Alike m m'
same_alike m m' k = record { state = k.endpoint.state; bytes = same_holds (receives (numbered 1)) m m' k }

-- ---- the end of a wait is another's

quiet_receivers : (acked : Bool) (c : Chip) → (quiet acked c).receivers ≡ c.receivers
unfolding quiet ended_zero ended_sender dropped_setup idled
quiet_receivers acked c =
    let x : Chip = ended acked c in
    dropped_by (λ (n : Chip). n.receivers ≡ x.receivers) x refl refl refl
    ∙ ended_by (λ (n : Chip). n.receivers ≡ c.receivers) c refl acked refl (λ _. refl)

-- a chip with the same receivers, and the same memory
parts_alike : (c c' : Chip) (m : List ℕ) → c'.receivers ≡ c.receivers
    → Alike (record { chip = c; memory = m }) (record { chip = c'; memory = m })
parts_alike c c' m e = record { state = rw e; bytes = rw e }

-- ---- bus events

pub bus_alike : (t : Event) (s : List ℕ) (m : Model) → is_access t ≡ false → operational m.chip ≡ true
    → is_for t m.chip (receives (numbered 1)) ≡ false → Alike m (next t s m)
bus_alike t s m bus on other =
    alike_then (parts_alike m.chip (quiet (acks t) m.chip) m.memory (quiet_receivers (acks t) m.chip))
    (same_alike (quieted t m) (next t s m) (bus_frame t s m (receives (numbered 1)) bus on other))

module _ (s : List ℕ) (m : Model) (on : operational m.chip ≡ true) where
  pub in_alike : (a : ℕ) (e : BusEndpoint) → Alike m (next (event.In a e) s m)
  unfolding is_access
  in_alike a e = bus_alike (event.In a e) s m refl on (in_not_receives a e m.chip)

  pub setup_alike : (a : ℕ) (e : BusEndpoint) → Alike m (next (event.Setup a e) s m)
  unfolding is_access
  setup_alike a e = bus_alike (event.Setup a e) s m refl on (setup_not_piped a e m.chip (receives (numbered 1)) endpoint2)

  pub ack_alike : Alike m (next event.Ack s m)
  unfolding is_access owner
  ack_alike = bus_alike event.Ack s m refl on refl

  pub timeout_alike : Alike m (next event.Timeout s m)
  unfolding is_access owner
  timeout_alike = bus_alike event.Timeout s m refl on refl

  pub data_alike : (pid sound : ℕ) → is_owner (data_owner m.chip.pending.wait) (receives (numbered 1)) ≡ false
      → Alike m (next (event.Data pid sound) s m)
  unfolding is_access owner pick
  data_alike pid sound other = bus_alike (event.Data pid sound) s m refl on (rw on other)

  -- an OUT fixes an endpoint and no more
  out_receivers : (w : Option Endpoint) (c : Chip) → (out_by w c).chip.receivers ≡ c.receivers
  unfolding out_at awaiting
  out_receivers None c = refl
  out_receivers (Some e) c = by_test (λ (x : Chip). x.receivers ≡ c.receivers) (eqb e.0 0) (λ _. refl) (λ _. refl)

  pub out_alike : (a : ℕ) (e : BusEndpoint) → Alike m (next (event.Out a e) s m)
  unfolding step_of step_bytes out_step pick
  out_alike a e =
      let q : Chip = quiet false m.chip in
      rw on
      (parts_alike m.chip (out_by (winner (out_mask a e q)) q).chip m.memory (out_receivers (winner (out_mask a e q)) q ∙ quiet_receivers false m.chip))

-- ---- register accesses

pub access_alike : (t : Event) (s : List ℕ) (m : Model) → is_access t ≡ true → reserved t ≡ false → Alike m (next t s m)
access_alike t s m access free = same_alike m (next t s m) (unreserved_keeps t s m (receives (numbered 1)) endpoint2 access free)

-- ---- an offer and the send service

sent_read : (a : ℕ) (m : Model) → Sending (event.Read a) → Alike m (seen a m)
unfolding seen owner exempt register_owner slot_place pick step_of step_bytes read_step
sent_read a m txs = same_alike m _ (frame (event.Read 0x2A) [] m (receives (numbered 1)) refl refl)

sent_write : (a v : ℕ) (m : Model) → Sending (event.Write a v) → v < 256 → Alike m (written a v m)
unfolding written owner exempt register_owner slot_place pick step_of step_bytes write_step
sent_write a v m (txd x) b = same_alike m _ (frame (event.Write 0x29 x) [] m (receives (numbered 1)) refl refl)
sent_write a v m (txc x) b = same_alike m _ (frame (event.Write 0x2B x) [] m (receives (numbered 1)) refl refl)

pub sending_alike : {m n : Model} → Touches Sending m n → Alike m n
sending_alike = touches_by Alike alike (λ _ _ _ x y. alike_then x y) sent_read sent_write
