-- A register access keeps the chip's state typed, and the lent memory.
-- Assumes nothing.
use Prim.Native.Nat.{ℕ, ◌%◌}
use native.Mathlib.Omega.{arith}
use mathlib.Core.Path.{refl}
use mathlib.Core.List.{List}
use Rattle.choice.proofs.ByTest.{by_test}
use Rattle.window.specs.declared.FifoNumber.{FifoNumber}
use Rattle.window.specs.declared.Kind.TheVariants.{Control, Transmit}
use Rattle.window.specs.Window.{fifo0, size0, tx_size, start_of, index_of, numbered}
use Rattle.control.specs.Registers.{rx_bits}
use Rattle.state.specs.declared.Chip.{Chip}
use Rattle.state.specs.State.{sender_at, receiver_at, nothing}
use Rattle.state.specs.Set.{with_control, with_nfsr}
use Rattle.reads.specs.Read.{read_of}
use Rattle.slot.specs.declared.Register.{Register}
use Rattle.slot.specs.declared.Register.TheVariants.{Epc, Data, Status, Command}
use Rattle.slot.specs.Slot.{slot_of}
use Rattle.settings.specs.Settings.{operational, held_byte, stop_sender, stop_receiver, stop_zero, stop, nfsr_write, mask_write}
use Rattle.writes.specs.Write.{control_bytes, sender_bytes, write_of, bytes_of}
use Rattle.laws.specs.Typed.{Byte, Bytes, TypedSender, TypedReceiver, TypedMasks, TypedEvents, TypedChip, TypedMemory}
use Rattle.laws.proofs.Typed.Arrays.{store_typed}
use Rattle.laws.proofs.Typed.Accesses.{number, read_by, write_by}
use Rattle.laws.proofs.Typed.Parts.{put_typed, command_typed, rx_command_typed, rx_take_typed, put0_typed, take0_typed, tx_command0_typed, rx_bits0_typed, rx_command0_typed}
use Rattle.laws.proofs.Typed.Chip.{with_control_typed, with_sender_typed, with_receiver_typed, with_nfsr_typed, with_far_typed, with_masks_typed, with_events_typed, with_pending_typed, reset_chip_typed, reset_memory_typed}

-- ---- reads

-- Whatever register is read, the chip's state stays typed.
pub read_typed : (a : ℕ) (c : Chip) (m : List ℕ) → Bytes m → TypedChip c → TypedChip (read_of a c m).chip
read_typed a c m b t =
    let e : TypedEvents c.events = t.events in
    let r : TypedReceiver (receiver_at (number a) c) = t.receivers.each (index_of (number a)) in
    read_by TypedChip a c m (record {
      none = t;
      rxev = with_events_typed c t _ (record { over_four = refl; nakin_four = e.nakin_four; nakout_four = e.nakout_four });
      nakev = with_events_typed c t _ (record { over_four = e.over_four; nakin_four = refl; nakout_four = refl });
      txs0 = λ _. with_control_typed c t _ t.control;
      rxd0 = λ _. with_control_typed c t _ (take0_typed c.control.fifo t.control m b);
      rxs0 = λ _. with_control_typed c t _ t.control;
      txs = λ _. with_sender_typed c t (number a) _ (t.senders.each (index_of (number a)));
      rxd = λ _. with_receiver_typed c t (number a) _ (rx_take_typed (receiver_at (number a) c) r (number a) m b);
      rxs = λ _. with_receiver_typed c t (number a) _ r;
    })

-- ---- NFSR

module _ (c : Chip) (t : TypedChip c) where
  stop_sender_typed : (n : FifoNumber) → TypedChip (stop_sender n c)
  unfolding stop_sender
  stop_sender_typed n = with_sender_typed c t n _ (t.senders.each (index_of n))

  stop_receiver_typed : (n : FifoNumber) → TypedChip (stop_receiver n c)
  unfolding stop_receiver
  stop_receiver_typed n = with_receiver_typed c t n _ (t.receivers.each (index_of n))

  stop_zero_typed : TypedChip (stop_zero c)
  unfolding stop_zero
  stop_zero_typed = with_pending_typed _ (with_control_typed c t _ t.control) nothing (omega arith)

stop_typed : (c : Chip) → TypedChip c → TypedChip (stop c)
stop_typed c t =
    let s1 : _ = stop_sender_typed c t (numbered 1) in
    let s2 : _ = stop_sender_typed _ s1 (numbered 2) in
    let s3 : _ = stop_sender_typed _ s2 (numbered 3) in
    let r1 : _ = stop_receiver_typed _ s3 (numbered 1) in
    let r2 : _ = stop_receiver_typed _ r1 (numbered 2) in
    stop_zero_typed _ (stop_receiver_typed _ r2 (numbered 3))

module _ (v : ℕ) (c : Chip) (t : TypedChip c) where
  nfsr_typed : TypedChip (nfsr_write v c)
  unfolding nfsr_write
  nfsr_typed =
      let n : TypedChip (with_nfsr (v % 4) c) = with_nfsr_typed c t (v % 4) (omega arith) in
      by_test TypedChip _ (λ _. n) (λ _. stop_typed _ n)

-- ---- writes

module _ (v : ℕ) (small : Byte v) (c : Chip) (t : TypedChip c) where
  mask_typed : (which : ℕ) → TypedChip (mask_write which v c)
  unfolding mask_write
  mask_typed which =
      let m : TypedMasks c.masks = t.masks in
      by_test TypedChip _ (λ _. with_masks_typed c t _ (omega arith)) (λ _.
      by_test TypedChip _ (λ _. with_masks_typed c t _ (omega arith)) (λ _.
      by_test TypedChip _ (λ _. with_masks_typed c t _ (omega arith)) (λ _. with_masks_typed c t _ (omega arith))))

  held_typed : TypedChip (held_byte v c)
  held_typed = with_pending_typed c t _ (record { place_byte = t.pending.place_byte; held_byte_lem = small })

-- Whatever byte is written to whatever register, the chip's state stays typed.
pub write_typed : (a v : ℕ) (c : Chip) → Byte v → TypedChip c → TypedChip (write_of a v c)
write_typed a v c small t =
    let n : FifoNumber = number a in
    let s : TypedSender (sender_at n c) = t.senders.each (index_of n) in
    let r : TypedReceiver (receiver_at n c) = t.receivers.each (index_of n) in
    let bits : TypedChip (with_control (rx_bits (operational c) v c.control) c) =
    with_control_typed c t _ (rx_bits0_typed c.control t.control (operational c) v) in
    write_by TypedChip a v c (record {
      none = t;
      reset = λ _ _. reset_chip_typed;
      far = λ _. with_far_typed c t _ _ (omega arith);
      nfsr = λ _ _. nfsr_typed v c t;
      mask = mask_typed v small c t;
      epc0 = λ _. with_control_typed c t _ t.control;
      txd0 = λ _. with_control_typed c t _ (put0_typed c.control.fifo t.control);
      txc0 = λ _. with_control_typed c t _ (tx_command0_typed c.control t.control (operational c) v);
      held0 = λ _ _. held_typed v small c t;
      rxc0 = λ _. with_control_typed c t _ (rx_command0_typed c.control t.control (operational c) v);
      bits0 = λ _ _. bits;
      flush0 = λ _ _. with_pending_typed _ bits _ (record { place_byte = t.pending.place_byte; held_byte_lem = t.pending.held_byte_lem });
      epc_tx = λ _. with_sender_typed c t n _ (omega arith);
      txd = λ _. with_sender_typed c t n _ (put_typed (sender_at n c) s);
      txc = λ _. with_sender_typed c t n _ (command_typed (operational c) v (sender_at n c) small s);
      held = λ _ _. held_typed v small c t;
      epc_rx = λ _. with_receiver_typed c t n _ (omega arith);
      rxc = λ _. with_receiver_typed c t n _ (rx_command_typed (receiver_at n c) r (operational c) v);
    })

-- ---- the lent memory

module _ (v : ℕ) (small : Byte v) (c : Chip) (m : List ℕ) (h : TypedMemory m) where
  control_bytes_typed : (a : ℕ) → TypedMemory (control_bytes a v c m)
  unfolding control_bytes
  control_bytes_typed a =
      by_test TypedMemory _ (λ _.
      by_test TypedMemory _ (λ _. h) (λ _.
      by_test TypedMemory _ (λ _. h) (λ _. store_typed (start_of Control fifo0) size0 c.control.fifo.write v m small h))) (λ _. h)

  sender_bytes_typed : (register : Register) (n : FifoNumber) → TypedMemory (sender_bytes register n v c m)
  unfolding sender_bytes
  sender_bytes_typed Epc n = h
  sender_bytes_typed Data n =
      by_test TypedMemory _ (λ _. h) (λ _. store_typed (start_of Transmit n) tx_size (sender_at n c).fifo.write v m small h)
  sender_bytes_typed Status n = h
  sender_bytes_typed Command n = h

  every_bytes_typed : (a : ℕ) → TypedMemory (bytes_of a v c m)
  unfolding bytes_of
  every_bytes_typed a =
      by_test TypedMemory _ (λ _. by_test TypedMemory _ (λ _. reset_memory_typed) (λ _. h)) (λ _.
      by_test TypedMemory _ (λ _. control_bytes_typed a) (λ _.
      by_test TypedMemory _ (λ _.
      by_test TypedMemory _ (λ _. sender_bytes_typed (slot_of a).register (slot_of a).number) (λ _. h)) (λ _. h)))

-- And the lent memory.
pub write_bytes_typed : (a v : ℕ) (c : Chip) (m : List ℕ) → Byte v → TypedMemory m → TypedMemory (bytes_of a v c m)
write_bytes_typed a v c m small h = every_bytes_typed v small c m h a
