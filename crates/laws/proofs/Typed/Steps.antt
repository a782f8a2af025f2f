-- What an event makes of the chip, said once for every property of the chip after it.
-- Assumes nothing.
use Prim.Native.Nat.{ℕ}
use mathlib.Core.Path.{◌≡◌, refl}
use mathlib.Core.Bool.{Bool, true, false}
use mathlib.Core.List.{List}
use lib.Dec.{eqb}
use Rattle.choice.proofs.ByTest.{by_test}
use Rattle.window.specs.declared.FifoNumber.{FifoNumber}
use Rattle.window.specs.Window.{fifo0}
use Rattle.event.specs.declared.BusEndpoint.{BusEndpoint}
use Rattle.event.specs.declared.Event.{Event}
use Rattle.event.specs.declared.Event.TheVariants as event
use Rattle.verdict.specs.declared.Judged.{Judged}
use Rattle.verdict.specs.declared.Judged.TheVariants as judged
use Rattle.sender.specs.declared.Sender.{Sender}
use Rattle.sender.specs.declared.Sent.{Sent}
use Rattle.sender.specs.declared.Sent.TheVariants as sent
use Rattle.control.specs.declared.Control.{Control}
use Rattle.controlbus.specs.declared.Sent0.{Sent0}
use Rattle.controlbus.specs.declared.Sent0.TheVariants as sent0
use Rattle.state.specs.declared.Endpoint.{Endpoint}
use Rattle.state.specs.declared.Wait.{Wait}
use Rattle.state.specs.declared.Wait.TheVariants as wait
use Rattle.state.specs.declared.Chip.{Chip}
use Rattle.state.specs.State.{fifo_of, zero_place}
use Rattle.settings.specs.Settings.{operational}
use Rattle.reads.specs.Read.{read_of}
use Rattle.writes.specs.Write.{write_of}
use Rattle.answer.specs.declared.Out.{Out}
use Rattle.ends.specs.Ends.{idled, ended_zero, ended_sender, ended_at, ended_in, ended, dropped_setup, dropped_in, dropped}
use Rattle.bus.specs.Bus.{awaiting, marked_in, answered_zero, answered_sender, in_token, out_token, setup_token}
use Rattle.data.specs.Data.{marked_out, overrun, judged_at, data_zero, data_receiver, data_setup, data_at, data_in, data_now}
use Rattle.step.specs.Step.{quiet, read_step, write_step, in_step, out_step, setup_step, data_step, end_step, step_of}

module _ (P : Chip → Type 0) (c : Chip) where
  -- the chip beside an answer
  abbrev After : Out → Type 0
  After o = P o.chip

  module _ (none : P c) where
    -- The end of a wait for a handshake, of endpoint 0 or of another.
    pub ended_by : (acked : Bool) → P (ended_zero acked c) → ((n : FifoNumber) → P (ended_sender n acked c)) → P (ended acked c)
    ended_by acked x y = go c.pending.wait
      where
        go : (w : Wait) → P (ended_in w acked c)
        go wait.Nothing = none
        go (wait.Handshake e) = unfold ended_at in (by_test P _ (λ _. x) (λ _. y (fifo_of e)))
        go (wait.Data e) = none
        go wait.Setup = none

    -- Another bus event instead of awaited data.
    pub dropped_by : P (idled c) → P (dropped_setup c) → P (dropped c)
    dropped_by x y = go c.pending.wait
      where
        go : (w : Wait) → P (dropped_in w c)
        go wait.Nothing = none
        go (wait.Handshake e) = none
        go (wait.Data e) = x
        go wait.Setup = y

    -- The answer to an IN, of endpoint 0 and of another, and the answer to data.
    pub answered_zero_by : (a : Sent0) (z : Control) → P (marked_in fifo0 c) → P (awaiting (wait.Handshake zero_place) c) → After (answered_zero a z c)
    answered_zero_by sent0.Silence z x y = none
    answered_zero_by sent0.Nak z x y = x
    answered_zero_by sent0.Stall z x y = none
    answered_zero_by sent0.Data0 z x y = y
    answered_zero_by sent0.Data1 z x y = y

    pub answered_sender_by : (a : Sent) (e : Endpoint) (s : Sender) → P (marked_in (fifo_of e) c) → P (awaiting (wait.Handshake e) c)
        → After (answered_sender a e s c)
    answered_sender_by sent.Nak e s x y = x
    answered_sender_by sent.Stall e s x y = none
    answered_sender_by sent.Broken e s x y = none
    answered_sender_by sent.Data0 e s x y = y
    answered_sender_by sent.Data1 e s x y = y

    pub judged_by : (j : Judged) (k : FifoNumber) → P (marked_out k c) → P (overrun k c) → After (judged_at j k c)
    judged_by judged.Silence k x y = none
    judged_by judged.Nak k x y = x
    judged_by judged.Stall k x y = none
    judged_by judged.Overrun k x y = y
    judged_by judged.Ack k x y = none

    -- Data, by whose it is.
    pub data_by : (pid sound : Bool) (s : List ℕ) → After (data_zero pid sound c s) → ((n : FifoNumber) → After (data_receiver n pid sound c s))
        → After (data_setup pid sound c s) → After (data_now pid sound c s)
    data_by pid sound s x y z = go c.pending.wait
      where
        go : (w : Wait) → After (data_in w pid sound c s)
        go wait.Nothing = none
        go (wait.Handshake e) = none
        go (wait.Data e) = unfold data_at in (by_test After _ (λ _. x) (λ _. y (fifo_of e)))
        go wait.Setup = z

-- what a bus event makes of the chip in the operational state; elsewhere it changes nothing
pub record Hears (P : Chip → Type 0) (c : Chip) : Type 0 where
  pub none : P c
  pub in_token_lem : operational c ≡ true → (a : ℕ) (e : BusEndpoint) → P (in_token a e (quiet false c)).chip
  pub out_token_lem : operational c ≡ true → (a : ℕ) (e : BusEndpoint) → P (out_token a e (quiet false c)).chip
  pub setup_token_lem : operational c ≡ true → (a : ℕ) (e : BusEndpoint) → P (setup_token a e (quiet false c)).chip
  pub data_packet : operational c ≡ true → (pid sound : Bool) (s : List ℕ) → P (data_now pid sound (ended false c) s).chip
  pub end : operational c ≡ true → (acked : Bool) → P (quiet acked c)

-- Every event.
pub step_by : (P : Chip → Type 0) (c : Chip) → Hears P c → (e : Event) (s m : List ℕ) → ((a : ℕ) → e ≡ event.Read a → P (read_of a c m).chip)
    → ((a v : ℕ) → e ≡ event.Write a v → P (write_of a v c)) → P (step_of e s c m).chip
unfolding step_of read_step write_step in_step out_step setup_step data_step end_step
step_by P c h (event.Read a) s m read write = read a refl
step_by P c h (event.Write a v) s m read write = write a v refl
step_by P c h (event.In a e) s m read write = by_test (After P c) _ (λ on. h.in_token_lem on a e) (λ _. h.none)
step_by P c h (event.Out a e) s m read write = by_test (After P c) _ (λ on. h.out_token_lem on a e) (λ _. h.none)
step_by P c h (event.Setup a e) s m read write = by_test (After P c) _ (λ on. h.setup_token_lem on a e) (λ _. h.none)
step_by P c h (event.Data pid sound) s m read write = by_test (After P c) _ (λ on. h.data_packet on (eqb pid 1) (eqb sound 1) s) (λ _. h.none)
step_by P c h event.Ack s m read write = by_test (After P c) _ (λ on. h.end on true) (λ _. h.none)
step_by P c h event.Timeout s m read write = by_test (After P c) _ (λ on. h.end on false) (λ _. h.none)
