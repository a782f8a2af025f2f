-- The end of a wait keeps a state well formed, in the operational state.
-- Assumes nothing.
use Prim.Native.Nat.{ℕ}
use mathlib.Core.Bool.{Bool, true}
use Rattle.choice.proofs.ByTest.{by_test}
use Rattle.window.specs.declared.FifoNumber.{FifoNumber}
use Rattle.window.specs.Window.{index_of}
use Rattle.sender.specs.declared.Sender.{Sender}
use Rattle.control.specs.declared.Control.{Control}
use Rattle.kept.proofs.Sender as kept-sender
use Rattle.kept.proofs.Control as kept-control
use Rattle.kept.proofs.ControlBus as kept-bus
use Rattle.state.specs.declared.Chip.{Chip}
use Rattle.state.specs.State.{sender_at, nothing}
use Rattle.ends.specs.Ends.{idled, done_flush, done_byte, sender_byte, ended_zero, ended_sender, ended, dropped_setup, dropped}
use Rattle.laws.specs.Typed.{Byte, TypedChip}
use Rattle.laws.proofs.Typed.Steps.{ended_by, dropped_by}
use Rattle.laws.proofs.Formed.Facts.{WellSender, Facts, with_control_well, with_sender_well, with_pending_well}
use Rattle.laws.proofs.Formed.Pending.{nothing_well}

module _ (z : Control) (h : kept-bus.Well z) where
  done_flush_well : (flush : Bool) → kept-bus.Well (done_flush flush z)
  unfolding done_flush
  done_flush_well flush = by_test kept-bus.Well flush (λ _. kept-control.flushed_keeps true z h) (λ _. h)

  done_byte_well : (holds : Bool) (v : ℕ) → kept-bus.Well (done_byte holds v z)
  unfolding done_byte
  done_byte_well holds v = by_test kept-bus.Well holds (λ _. kept-control.tx_command_keeps true z h v) (λ _. h)

sender_byte_well : (holds : Bool) (v : ℕ) (s : Sender) → Byte v → WellSender true s → WellSender true (sender_byte holds v s)
unfolding sender_byte
sender_byte_well holds v s small h = by_test (WellSender true) holds (λ _. kept-sender.command_keeps true v s small h) (λ _. h)

-- Nothing awaited any more.
pub idled_facts : (o : Bool) (c : Chip) → Facts o c → Facts o (idled c)
unfolding idled
idled_facts o c f = with_pending_well o c f nothing (nothing_well o)

module _ (c : Chip) (t : TypedChip c) (f : Facts true c) where
  ended_zero_facts : (acked : Bool) → Facts true (ended_zero acked c)
  unfolding ended_zero
  ended_zero_facts acked =
      let h : _ = kept-bus.handshake_keeps c.control f.control acked in
      let d : _ = done_flush_well _ h c.pending.flush in
      idled_facts true _ (with_control_well true c f _ (done_byte_well _ d c.pending.holds c.pending.held))

  ended_sender_facts : (n : FifoNumber) (acked : Bool) → Facts true (ended_sender n acked c)
  unfolding ended_sender
  ended_sender_facts n acked =
      let h : _ = kept-sender.handshake_keeps true acked (sender_at n c) (f.senders (index_of n)) in
      let s : _ = sender_byte_well c.pending.holds c.pending.held _ t.pending.held_byte_lem h in
      idled_facts true _ (with_sender_well true c f n _ s)

  -- After the end of the wait for a handshake, with what was held meanwhile.
  pub ended_facts : (acked : Bool) → Facts true (ended acked c)
  ended_facts acked = ended_by (Facts true) c f acked (ended_zero_facts acked) (λ n. ended_sender_facts n acked)

module _ (c : Chip) (f : Facts true c) where
  dropped_setup_facts : Facts true (dropped_setup c)
  unfolding dropped_setup
  dropped_setup_facts = idled_facts true _ (with_control_well true c f _ (kept-bus.setup_dropped_keeps c.control f.control))

  -- After another bus event instead of awaited data.
  pub dropped_facts : Facts true (dropped c)
  dropped_facts = dropped_by (Facts true) c f (idled_facts true c f) dropped_setup_facts
