-- What the chip awaits after a token: a handshake only after data that it sent, its data after an OUT that endpoint 2 takes.
-- Assumes nothing.
use Prim.Native.Nat.{ℕ}
use mathlib.Core.Path.{◌≡◌, refl, ◌∙◌}
use mathlib.Core.Bool.{true, false}
use mathlib.Core.List.{List}
use Rattle.std.specs.Prelude.{Some}
use Rattle.choice.specs.Choice.{pick}
use Rattle.event.specs.declared.BusEndpoint.{BusEndpoint}
use Rattle.event.specs.declared.Event.{Event}
use Rattle.event.specs.declared.Event.TheVariants as event
use Rattle.sender.specs.declared.Sender.{Sender}
use Rattle.sender.specs.declared.Sent.{Sent}
use Rattle.sender.specs.declared.Sent.TheVariants as sent
use Rattle.sender.specs.Sender as sender
use Rattle.state.specs.declared.Endpoint.{Endpoint}
use Rattle.state.specs.declared.Wait.{Wait}
use Rattle.state.specs.declared.Wait.TheVariants.{Nothing, Handshake, Data}
use Rattle.state.specs.declared.Chip.{Chip}
use Rattle.state.specs.State.{Model, sender_at, fifo_of}
use Rattle.state.specs.Set.{with_sender}
use Rattle.settings.specs.Settings.{operational}
use Rattle.tokens.specs.Tokens.{in_mask, out_mask, winner}
use Rattle.answer.specs.declared.Answer.{Answer}
use Rattle.answer.specs.declared.Answer.TheVariants as answer
use Rattle.answer.specs.declared.Out.{Out}
use Rattle.bus.specs.Bus.{awaiting, marked_in, answered_sender, in_sender, in_at, out_at}
use Rattle.step.specs.Step.{quiet, in_step, out_step, step_of}
use Rattle.laws.specs.Next.{next}
use Rattle.laws.specs.Place.{endpoint, Place, awaited}
use Rattle.laws.specs.Owner.{is_for, acks}
use Rattle.laws.specs.Settings.{is_access}
use Rattle.laws.proofs.Frame.Waits.{quiet_wait, quiet_free}
use Rattle.laws.proofs.Frame.Frame.{bus_frame}

-- what is awaited after an answer to an IN that an endpoint took: a handshake after data, else nothing
unfoldable pub Sent-waits : Endpoint → Answer → Wait → Type 0
Sent-waits e answer.Silence w = w ≡ Nothing
Sent-waits e (answer.Value v) w = w ≡ Nothing
Sent-waits e (answer.Data0 p) w = w ≡ Handshake e
Sent-waits e (answer.Data1 p) w = w ≡ Handshake e
Sent-waits e answer.Broken w = w ≡ Nothing
Sent-waits e answer.Ack w = w ≡ Nothing
Sent-waits e answer.Nak w = w ≡ Nothing
Sent-waits e answer.Stall w = w ≡ Nothing

abbrev Waits : Endpoint → Out → Type 0
Waits e o = Sent-waits e o.answer o.chip.pending.wait

-- ---- IN, where nothing is awaited before

module _ (n : Chip) (none : n.pending.wait ≡ Nothing) where
  answered_waits : (r : Sent) (e : Endpoint) (s : Sender) → Waits e (answered_sender r e s n)
  unfolding Sent-waits marked_in awaiting
  answered_waits sent.Nak e s = none
  answered_waits sent.Stall e s = none
  answered_waits sent.Broken e s = none
  answered_waits sent.Data0 e s = refl
  answered_waits sent.Data1 e s = refl

module _ (c : Chip) (none : c.pending.wait ≡ Nothing) where
  sender_waits : (e : Endpoint) → Waits e (in_sender e c)
  unfolding in_sender
  sender_waits e =
      let s : Sender = sender_at (fifo_of e) c in
      answered_waits (with_sender (fifo_of e) (sender.sent s) c) none (sender.answer_in s) e s

-- ---- tokens at the chip

module _ (s : List ℕ) (m : Model) (on : operational m.chip ≡ true) where
  abbrev q : Chip
  q = quiet false m.chip

  -- After an IN that endpoint 1 takes a handshake is awaited of it if it sent data, else nothing.
  pub in_waits : (a : ℕ) (e : BusEndpoint) → winner (in_mask a e q) ≡ Some (endpoint 1)
      → Sent-waits (endpoint 1) (step_of (event.In a e) s m.chip m.memory).answer (next (event.In a e) s m).chip.pending.wait
  unfolding step_of in_step pick in_at
  in_waits a e t = rw (on, t) (sender_waits q (quiet_wait false m.chip) (endpoint 1))

  -- After an OUT that endpoint 2 takes its data is awaited.
  pub out_waits : (a : ℕ) (e : BusEndpoint) → winner (out_mask a e q) ≡ Some (endpoint 2)
      → (next (event.Out a e) s m).chip.pending.wait ≡ Data (endpoint 2)
  unfolding step_of out_step pick out_at awaiting
  out_waits a e t = rw (on, t)

  -- After a bus event for another nothing is awaited of an endpoint.
  pub other_free : (t : Event) (p : Place) → is_access t ≡ false → is_for t m.chip p ≡ false → awaited p (next t s m).chip ≡ false
  other_free t p h other = (bus_frame t s m p h on other).endpoint.awaits ∙ quiet_free p (acks t) m.chip
