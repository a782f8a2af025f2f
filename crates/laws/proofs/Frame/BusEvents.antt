-- What a token and data can change of the chip, said once for every property of the chip after it.
-- Assumes nothing.
use Prim.Native.Nat.{ℕ}
use mathlib.Core.Path.{◌≡◌, refl, ap}
use mathlib.Core.Bool.{Bool}
use mathlib.Core.List.{List}
use lib.ListN.{length}
use lib.Dec.{eqb}
use Rattle.std.specs.Prelude.{Option, None, Some}
use Rattle.choice.specs.Choice.{pick}
use Rattle.choice.proofs.ByTest.{by_test}
use Rattle.window.specs.declared.FifoNumber.{FifoNumber}
use Rattle.window.specs.Window.{fifo0}
use Rattle.event.specs.declared.BusEndpoint.{BusEndpoint}
use Rattle.verdict.specs.declared.Judged.{Judged}
use Rattle.sender.specs.declared.Sender.{Sender}
use Rattle.sender.specs.declared.Sent.{Sent}
use Rattle.sender.specs.Sender as sender
use Rattle.receiver.specs.declared.Receiver.{Receiver}
use Rattle.receiver.specs.Receiver as receiver
use Rattle.control.specs.declared.Control.{Control}
use Rattle.controlbus.specs.declared.Sent0.{Sent0}
use Rattle.controlbus.specs.Bus as zero-bus
use Rattle.controlbus.specs.Setup as setup
use Rattle.state.specs.declared.Endpoint.{Endpoint}
use Rattle.state.specs.declared.Wait.{Wait}
use Rattle.state.specs.declared.Wait.TheVariants as wait
use Rattle.state.specs.declared.Events.{Events}
use Rattle.state.specs.declared.Pending.{Pending}
use Rattle.state.specs.declared.Chip.{Chip}
use Rattle.state.specs.State.{sender_at, receiver_at, fifo_of, nothing, zero_place, awaiting_only}
use Rattle.state.specs.Set.{with_control, with_sender, with_receiver, with_events, with_pending}
use Rattle.tokens.specs.Tokens.{zero_takes}
use Rattle.answer.specs.declared.Out.{Out}
use Rattle.answer.specs.Answer.{silent}
use Rattle.ends.specs.Ends.{idled}
use Rattle.bus.specs.Bus.{awaiting, marked_in, answered_zero, in_zero, answered_sender, in_sender, in_at, in_by, out_at, out_by, setup_token}
use Rattle.data.specs.Data.{marked_out, overrun, judged_at, data_zero, data_receiver, data_setup, data_at, data_in}
use Rattle.laws.proofs.Typed.Steps.{answered_zero_by, answered_sender_by, judged_by}
use Rattle.laws.specs.Place.{zero, sends, receives, sending_place, Owner, nobody, one, awaited_of}
use Rattle.laws.specs.Owner.{in_owner, out_owner, setup_owner, data_owner}
use Rattle.laws.proofs.Frame.Epcs.{sent_epc, received_epc}
use Rattle.laws.proofs.Frame.Owners.{sending_is_zero, sending_is_sends, receiving_is_zero, receiving_is_receives}

-- what is awaited after a token: what was before, or something of the endpoint that takes it
pub data Left (o : Owner) (c : Chip) : Pending → Type 0 where
  before : Left o c c.pending
  now : (w : Wait) → awaited_of w ≡ o → Left o c (awaiting_only w)

-- and after data that was awaited
pub data Over : Pending → Type 0 where
  over : Over nothing

-- the changes: the endpoint's own state but for its EPC, the events that a read clears, what is awaited
pub record Changes (P : Chip → Type 0) (o : Owner) (L : Pending → Type 0) (c : Chip) : Type 0 where
  pub none : o ≡ nobody → P c
  pub waits : (h : Pending) → L h → P (with_pending h c)
  pub control : o ≡ one zero → (x : Control) (e : Events) (h : Pending) → L h → P (with_pending h (with_events e (with_control x c)))
  pub sender : (k : FifoNumber) → o ≡ one (sends k) → (x : Sender) → x.epc ≡ (sender_at k c).epc → (e : Events) (h : Pending) → L h
      → P (with_pending h (with_events e (with_sender k x c)))
  pub receiver : (k : FifoNumber) → o ≡ one (receives k) → (x : Receiver) → x.epc ≡ (receiver_at k c).epc → (e : Events) (h : Pending) → L h
      → P (with_pending h (with_events e (with_receiver k x c)))

module _ (P : Chip → Type 0) (c : Chip) where
  -- the chip after it
  abbrev After : Out → Type 0
  After r = P r.chip

  awaited_zero : awaited_of (wait.Handshake zero_place) ≡ one zero
  unfolding sending_place pick
  awaited_zero = refl

  module _ (o : Owner) (h : Changes P o (Left o c) c) where
    answered_zero_lem : (r : Sent0) (z x : Control) → o ≡ one zero → After (answered_zero r z (with_control x c))
    unfolding marked_in awaiting
    answered_zero_lem r z x own =
        answered_zero_by P (with_control x c) (h.control own x _ _ before) r z (h.control own x _ _ before)
        (h.control own x _ _ (now _ (rw own awaited_zero)))

    answered_sender_lem : (r : Sent) (e : Endpoint) (s x : Sender) → x.epc ≡ (sender_at (fifo_of e) c).epc → o ≡ one (sending_place e) → o ≡ one (sends (fifo_of e))
        → After (answered_sender r e s (with_sender (fifo_of e) x c))
    unfolding marked_in awaiting
    answered_sender_lem r e s x same of own =
        answered_sender_by P (with_sender (fifo_of e) x c) (h.sender _ own x same _ _ before) r e s (h.sender _ own x same _ _ before)
        (h.sender _ own x same _ _ (now (wait.Handshake e) (rw of refl)))

  module _ (o : Owner) (h : Changes P o Over c) where
    judged_control : (j : Judged) (x : Control) → o ≡ one zero → After (judged_at j fifo0 (idled (with_control x c)))
    unfolding idled marked_out overrun
    judged_control j x own =
        judged_by P (idled (with_control x c)) (h.control own x _ _ over) j fifo0 (h.control own x _ _ over) (h.control own x _ _ over)

    judged_receiver : (j : Judged) (k : FifoNumber) (x : Receiver) → x.epc ≡ (receiver_at k c).epc → o ≡ one (receives k) → After (judged_at j k (idled (with_receiver k x c)))
    unfolding idled marked_out overrun
    judged_receiver j k x same own =
        judged_by P (idled (with_receiver k x c)) (h.receiver k own x same _ _ over) j k (h.receiver k own x same _ _ over)
        (h.receiver k own x same _ _ over)

  -- An IN changes the endpoint that takes it.
  pub in_by_lem : (w : Option Endpoint) → Changes P (in_owner w) (Left (in_owner w) c) c → After (in_by w c)
  unfolding in_at in_zero in_sender
  in_by_lem None h = h.none refl
  in_by_lem (Some e) h =
      let s : Sender = sender_at (fifo_of e) c in
      let z : Control = c.control in
      by_test After (eqb e.0 0)
      (λ t. answered_zero_lem (in_owner (Some e)) h (zero-bus.answer_in z) z (zero-bus.sent z) (ap one (sending_is_zero e t)))
      (λ t. answered_sender_lem (in_owner (Some e)) h (sender.answer_in s) e s (sender.sent s) (sent_epc s) refl (ap one (sending_is_sends e t)))

  -- So does an OUT, whose data is awaited then.
  pub out_by_lem : (w : Option Endpoint) → Changes P (out_owner w) (Left (out_owner w) c) c → After (out_by w c)
  unfolding out_at awaiting
  out_by_lem None h = h.none refl
  out_by_lem (Some e) h =
      by_test P (eqb e.0 0)
      (λ t. h.control (ap one (receiving_is_zero e t)) _ _ _ (now (wait.Data e) refl))
      (λ _. h.waits _ (now (wait.Data e) refl))

  -- So does a SETUP, which only endpoint 0 takes.
  pub setup_by : (a : ℕ) (e : BusEndpoint) → Changes P (setup_owner (zero_takes a e c)) (Left (setup_owner (zero_takes a e c)) c) c
      → After (setup_token a e c)
  unfolding setup_token setup_owner pick awaiting
  setup_by a e h =
      by_test After (zero_takes a e c) {x = silent (awaiting wait.Setup c)} {y = silent c}
      (λ t. h.waits _ (now wait.Setup (rw t refl)))
      (λ t. h.none (rw t refl))

  -- Data changes the endpoint whose data is awaited.
  pub data_by : (pid sound : Bool) (s : List ℕ) (w : Wait) → Changes P (data_owner w) Over c → After (data_in w pid sound c s)
  unfolding data_at data_zero data_receiver data_setup
  data_by pid sound s wait.Nothing h = h.none refl
  data_by pid sound s (wait.Handshake e) h = h.none refl
  data_by pid sound s (wait.Data e) h =
      let r : Receiver = receiver_at (fifo_of e) c in
      let z : Control = c.control in
      let o : Owner = data_owner (wait.Data e) in
      by_test After (eqb e.0 0)
      (λ t. judged_control o h (zero-bus.judge_out sound (length s) z) (zero-bus.received pid sound z s) (ap one (receiving_is_zero e t)))
      (λ t.
      judged_receiver o h (receiver.judged sound (length s) r) (fifo_of e) (receiver.received pid sound s r) (received_epc r pid sound s)
      (ap one (receiving_is_receives e t)))
  data_by pid sound s wait.Setup h =
      judged_control (one zero) h (setup.judge_setup pid sound (length s) c.control) (setup.received_setup pid sound c.control s) refl
