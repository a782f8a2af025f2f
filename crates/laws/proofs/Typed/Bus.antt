-- A bus event that brings no data keeps the chip's state typed; the lent memory it never touches.
-- Assumes nothing.
use Prim.Native.Nat.{ℕ}
use native.Mathlib.Omega.{arith}
use mathlib.Core.Bool.{Bool, true}
use Rattle.std.specs.Prelude.{Option}
use Rattle.choice.proofs.ByTest.{by_test}
use Rattle.window.specs.declared.FifoNumber.{FifoNumber}
use Rattle.window.specs.Window.{fifo0, index_of}
use Rattle.event.specs.declared.BusEndpoint.{BusEndpoint}
use Rattle.sender.specs.declared.Sender.{Sender}
use Rattle.sender.specs.Sender as sender
use Rattle.control.specs.declared.Control.{Control}
use Rattle.controlbus.specs.declared.Sent0.{Sent0}
use Rattle.controlbus.specs.declared.Sent0.TheVariants as sent0
use Rattle.controlbus.specs.Bus as zero
use Rattle.state.specs.declared.Endpoint.{Endpoint}
use Rattle.state.specs.declared.Wait.{Wait}
use Rattle.state.specs.declared.Wait.TheVariants as wait
use Rattle.state.specs.declared.Chip.{Chip}
use Rattle.state.specs.State.{sender_at, nothing, fifo_of}
use Rattle.state.specs.Set.{with_control, with_sender}
use Rattle.tokens.specs.Tokens.{winner}
use Rattle.answer.specs.declared.Out.{Out}
use Rattle.ends.specs.Ends.{idled, done_flush, done_byte, sender_byte, ended_zero, ended_sender, ended, dropped_setup, dropped}
use Rattle.bus.specs.Bus.{awaiting, marked_in, in_zero, in_sender, in_at, in_by, in_token, out_at, out_by, out_token, setup_token}
use Rattle.laws.specs.Typed.{Byte, Typed0, TypedSender, TypedChip, place_of}
use Rattle.laws.proofs.Typed.Parts.{command_typed, sent_typed, tx_command0_typed}
use Rattle.laws.proofs.Typed.Chip.{with_control_typed, with_sender_typed, with_pending_typed, nakked_in_typed}
use Rattle.laws.proofs.Typed.Steps.{ended_by, dropped_by, answered_zero_by, answered_sender_by}

-- endpoint 0, and the chip beside an answer
abbrev pub Zero : Control → Type 0
Zero z = Typed0 z.fifo

abbrev pub Gives : Out → Type 0
Gives o = TypedChip o.chip

-- ---- the end of a wait

module _ (z : Control) (t : Zero z) where
  handshake0_typed : (acked : Bool) → Zero (zero.handshake acked z)
  unfolding zero.handshake
  handshake0_typed acked = by_test Zero acked (λ _. omega arith) (λ _. t)

  done_flush_typed : (flush : Bool) → Zero (done_flush flush z)
  unfolding done_flush
  done_flush_typed flush = by_test Zero flush (λ _. omega arith) (λ _. t)

  done_byte_typed : (holds : Bool) (v : ℕ) → Zero (done_byte holds v z)
  unfolding done_byte
  done_byte_typed holds v = by_test Zero holds (λ _. tx_command0_typed z t true v) (λ _. t)

sender_byte_typed : (holds : Bool) (v : ℕ) (s : Sender) → Byte v → TypedSender s → TypedSender (sender_byte holds v s)
unfolding sender_byte
sender_byte_typed holds v s small t = by_test TypedSender holds (λ _. command_typed true v s small t) (λ _. t)

pub idled_typed : (c : Chip) → TypedChip c → TypedChip (idled c)
unfolding idled
idled_typed c t = with_pending_typed c t nothing (omega arith)

module _ (c : Chip) (t : TypedChip c) where
  ended_zero_typed : (acked : Bool) → TypedChip (ended_zero acked c)
  unfolding ended_zero
  ended_zero_typed acked =
      let h : _ = handshake0_typed c.control t.control acked in
      let f : _ = done_flush_typed _ h c.pending.flush in
      idled_typed _ (with_control_typed c t _ (done_byte_typed _ f c.pending.holds c.pending.held))

  ended_sender_typed : (n : FifoNumber) (acked : Bool) → TypedChip (ended_sender n acked c)
  unfolding ended_sender
  ended_sender_typed n acked =
      let s : TypedSender (sender.handshake acked (sender_at n c)) = t.senders.each (index_of n) in
      idled_typed _ (with_sender_typed c t n _ (sender_byte_typed c.pending.holds c.pending.held _ t.pending.held_byte_lem s))

  -- The end of a wait for a handshake keeps the chip's state typed.
  pub ended_typed : (acked : Bool) → TypedChip (ended acked c)
  ended_typed acked = ended_by TypedChip c t acked (ended_zero_typed acked) (λ n. ended_sender_typed n acked)

  dropped_setup_typed : TypedChip (dropped_setup c)
  unfolding dropped_setup
  dropped_setup_typed = idled_typed _ (with_control_typed c t _ t.control)

  -- So does another bus event that comes instead of awaited data.
  pub dropped_typed : TypedChip (dropped c)
  dropped_typed = dropped_by TypedChip c t (idled_typed c t) dropped_setup_typed

-- ---- tokens

after_in_typed : (a : Sent0) (z : Control) → Zero z → Zero (zero.after_in a z)
after_in_typed sent0.Silence z t = t
after_in_typed sent0.Nak z t = t
after_in_typed sent0.Stall z t = t
after_in_typed sent0.Data0 z t = t
after_in_typed sent0.Data1 z t = t

module _ (c : Chip) (t : TypedChip c) where
  awaiting_typed : (w : Wait) → Byte (place_of w) → TypedChip (awaiting w c)
  unfolding awaiting
  awaiting_typed w small = with_pending_typed c t _ (omega arith)

  marked_in_typed : (n : FifoNumber) → TypedChip (marked_in n c)
  unfolding marked_in
  marked_in_typed n = nakked_in_typed c t n

module _ (c : Chip) (t : TypedChip c) where
  in_zero_typed : Gives (in_zero c)
  unfolding in_zero
  in_zero_typed =
      let n : Chip = with_control (zero.sent c.control) c in
      let k : TypedChip n = with_control_typed c t _ (after_in_typed (zero.answer_in c.control) c.control t.control) in
      answered_zero_by TypedChip n k (zero.answer_in c.control) _ (marked_in_typed n k fifo0) (awaiting_typed n k _ (omega arith))

  in_sender_typed : (e : Endpoint) → Byte e.0 → Gives (in_sender e c)
  unfolding in_sender
  in_sender_typed e small =
      let s : Sender = sender_at (fifo_of e) c in
      let n : Chip = with_sender (fifo_of e) (sender.sent s) c in
      let k : TypedChip n = with_sender_typed c t (fifo_of e) _ (sent_typed s (t.senders.each (index_of (fifo_of e)))) in
      answered_sender_by TypedChip n k (sender.answer_in s) e s (marked_in_typed n k (fifo_of e)) (awaiting_typed n k _ small)

  in_at_typed : (e : Endpoint) → Byte e.0 → Gives (in_at e c)
  unfolding in_at
  in_at_typed e small = by_test Gives _ (λ _. in_zero_typed) (λ _. in_sender_typed e small)

  -- So does an IN token.
  pub in_typed : (address : ℕ) (e : BusEndpoint) → TypedChip (in_token address e c).chip
  unfolding winner
  in_typed address e = by_test (λ (w : Option Endpoint). Gives (in_by w c)) _ (λ _. t) (λ _. in_at_typed _ (omega arith))

  out_at_typed : (e : Endpoint) → Byte e.0 → TypedChip (out_at e c)
  unfolding out_at
  out_at_typed e small =
      by_test TypedChip _ (λ _. awaiting_typed _ (with_control_typed c t _ t.control) _ small) (λ _. awaiting_typed c t _ small)

  -- So does an OUT token.
  pub out_typed : (address : ℕ) (e : BusEndpoint) → TypedChip (out_token address e c).chip
  unfolding winner
  out_typed address e = by_test (λ (w : Option Endpoint). Gives (out_by w c)) _ (λ _. t) (λ _. out_at_typed _ (omega arith))

  -- So does a SETUP token.
  pub setup_typed : (address : ℕ) (e : BusEndpoint) → TypedChip (setup_token address e c).chip
  unfolding setup_token
  setup_typed address e = by_test Gives _ (λ _. awaiting_typed c t wait.Setup (omega arith)) (λ _. t)
