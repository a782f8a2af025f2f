-- A chip with one part changed is typed where the new part is: each setter once. The reset state is too.
-- Assumes nothing.
use Prim.Native.Nat.{ℕ, ◌%◌}
use native.Mathlib.Omega.{arith}
use mathlib.Core.Path.{refl, ◌∙◌}
use mathlib.Core.Bool.{Bool, true}
use lib.ListN.{length-set, replicate}
use Rattle.window.specs.declared.FifoNumber.{FifoNumber}
use Rattle.window.specs.Window.{index_of}
use Rattle.control.specs.declared.Control.{Control}
use Rattle.sender.specs.declared.Sender.{Sender}
use Rattle.sender.specs.Sender.{reset_sender}
use Rattle.receiver.specs.declared.Receiver.{Receiver}
use Rattle.receiver.specs.Receiver.{reset_receiver}
use Rattle.state.specs.declared.Masks.{Masks}
use Rattle.state.specs.declared.Events.{Events}
use Rattle.state.specs.declared.Pending.{Pending}
use Rattle.state.specs.declared.Chip.{Chip}
use Rattle.state.specs.State.{reset_chip}
use Rattle.state.specs.Set.{with_control, with_sender, with_receiver, with_nfsr, with_far, with_masks, with_events, with_pending, overran, nakked_in, nakked_out}
use Rattle.laws.specs.Typed.{Byte, Array, Typed0, TypedSender, TypedReceiver, TypedPending, TypedMasks, TypedEvents, TypedChip, TypedMemory}
use Rattle.laws.proofs.Typed.Arrays.{array_set, array_replicate}

-- a chip is typed where its parts are
made : (c : Chip) → Typed0 c.control.fifo → Array 3 TypedSender reset_sender c.senders → Array 3 TypedReceiver reset_receiver c.receivers
    → Byte c.nfsr → Byte c.address → TypedMasks c.masks → TypedEvents c.events → TypedPending c.pending → TypedChip c
made c z s r n a m e p =
    record { control = z; senders = s; receivers = r; nfsr_byte = n; address_byte = a; masks = m; events = e; pending = p }

module _ (c : Chip) (t : TypedChip c) where
  pub with_control_typed : (x : Control) → Typed0 x.fifo → TypedChip (with_control x c)
  with_control_typed x h = made _ h t.senders t.receivers t.nfsr_byte t.address_byte t.masks t.events t.pending

  pub with_sender_typed : (n : FifoNumber) (x : Sender) → TypedSender x → TypedChip (with_sender n x c)
  with_sender_typed n x h =
      made _ t.control
      (array_set TypedSender reset_sender c.senders (index_of n) x t.senders h)
      t.receivers t.nfsr_byte t.address_byte t.masks t.events t.pending

  pub with_receiver_typed : (n : FifoNumber) (x : Receiver) → TypedReceiver x → TypedChip (with_receiver n x c)
  with_receiver_typed n x h =
      made _ t.control t.senders
      (array_set TypedReceiver reset_receiver c.receivers (index_of n) x t.receivers h)
      t.nfsr_byte t.address_byte t.masks t.events t.pending

  pub with_nfsr_typed : (x : ℕ) → Byte x → TypedChip (with_nfsr x c)
  with_nfsr_typed x h = made _ t.control t.senders t.receivers h t.address_byte t.masks t.events t.pending

  pub with_far_typed : (x : Bool) (y : ℕ) → Byte y → TypedChip (with_far x y c)
  with_far_typed x y h = made _ t.control t.senders t.receivers t.nfsr_byte h t.masks t.events t.pending

  pub with_masks_typed : (x : Masks) → TypedMasks x → TypedChip (with_masks x c)
  with_masks_typed x h = made _ t.control t.senders t.receivers t.nfsr_byte t.address_byte h t.events t.pending

  pub with_events_typed : (x : Events) → TypedEvents x → TypedChip (with_events x c)
  with_events_typed x h = made _ t.control t.senders t.receivers t.nfsr_byte t.address_byte t.masks h t.pending

  pub with_pending_typed : (x : Pending) → TypedPending x → TypedChip (with_pending x c)
  with_pending_typed x h = made _ t.control t.senders t.receivers t.nfsr_byte t.address_byte t.masks t.events h

  -- An overrun, a NAK to an IN, a NAK to an OUT of a FIFO.
  pub overran_typed : (n : FifoNumber) → TypedChip (with_events (overran n c.events) c)
  overran_typed n =
      let e : TypedEvents c.events = t.events in
      with_events_typed (overran n c.events) (record {
        over_four = length-set c.events.over (n.0 % 4) true ∙ e.over_four;
        nakin_four = e.nakin_four;
        nakout_four = e.nakout_four;
      })

  pub nakked_in_typed : (n : FifoNumber) → TypedChip (with_events (nakked_in n c.events) c)
  nakked_in_typed n =
      let e : TypedEvents c.events = t.events in
      with_events_typed (nakked_in n c.events) (record {
        over_four = e.over_four;
        nakin_four = length-set c.events.nakin (n.0 % 4) true ∙ e.nakin_four;
        nakout_four = e.nakout_four;
      })

  pub nakked_out_typed : (n : FifoNumber) → TypedChip (with_events (nakked_out n c.events) c)
  nakked_out_typed n =
      let e : TypedEvents c.events = t.events in
      with_events_typed (nakked_out n c.events) (record {
        over_four = e.over_four;
        nakin_four = e.nakin_four;
        nakout_four = length-set c.events.nakout (n.0 % 4) true ∙ e.nakout_four;
      })

-- The reset state.
pub reset_chip_typed : TypedChip reset_chip
reset_chip_typed =
    record {
      control = omega arith;
      senders = array_replicate TypedSender reset_sender (omega arith) 3;
      receivers = array_replicate TypedReceiver reset_receiver (omega arith) 3;
      nfsr_byte = omega arith;
      address_byte = omega arith;
      masks = omega arith;
      events = record { over_four = refl; nakin_four = refl; nakout_four = refl };
      pending = omega arith;
    }

pub reset_memory_typed : TypedMemory (replicate 392 0)
reset_memory_typed = array_replicate Byte 0 (omega arith) 392
