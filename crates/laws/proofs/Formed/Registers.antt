-- A register access keeps a state well formed, in the operational state and outside.
-- Assumes nothing.
use Prim.Native.Nat.{ℕ}
use native.Mathlib.Omega.{arith}
use mathlib.Core.Path.{◌≡◌, refl}
use mathlib.Core.Bool.{Bool, true, false}
use mathlib.Core.List.{List}
use Rattle.choice.proofs.ByTest.{by_test}
use Rattle.window.specs.declared.FifoNumber.{FifoNumber}
use Rattle.window.specs.Window.{index_of}
use Rattle.contents.proofs.Ring as ring
use Rattle.control.specs.Registers.{rx_bits}
use Rattle.sender.specs.Sender.{reset_sender}
use Rattle.receiver.specs.Receiver.{reset_receiver}
use Rattle.kept.proofs.Sender as kept-sender
use Rattle.kept.proofs.Receiver as kept-receiver
use Rattle.kept.proofs.Control as kept-control
use Rattle.state.specs.declared.Endpoint.{Endpoint}
use Rattle.state.specs.declared.Chip.{Chip}
use Rattle.state.specs.State.{sender_at, receiver_at, reset_chip, zero_place}
use Rattle.state.specs.Set.{with_control}
use Rattle.reads.specs.Read.{read_of}
use Rattle.slot.specs.Slot.{sending}
use Rattle.settings.specs.Settings.{operational, awaits, held_byte, mask_write}
use Rattle.writes.specs.Write.{write_of}
use Rattle.formed.specs.Formed.{well_formed}
use Rattle.laws.specs.Typed.{Byte, TypedSender, TypedReceiver, TypedChip}
use Rattle.laws.proofs.Typed.Arrays.{array_replicate}
use Rattle.laws.proofs.Typed.Accesses.{number, read_by, write_by}
use Rattle.laws.proofs.Formed.Facts.{WellSender, WellReceiver, Facts, known, shown, with_control_well, with_sender_well, with_receiver_well, with_far_well, with_masks_well, with_events_well, with_pending_well}
use Rattle.laws.proofs.Formed.Pending.{nothing_well, held_well, flush_well}
use Rattle.laws.proofs.Formed.Settings.{nfsr_keeps}

-- ---- the counters that the laws of the endpoints ask for

abbrev pub Counters0 : Chip → Type 0
Counters0 c = ring.Counters c.control.fifo.read c.control.fifo.write

module _ (c : Chip) (t : TypedChip c) where
  pub counters0 : Counters0 c
  counters0 = record { read_small = t.control.read_byte; write_small = t.control.write_byte }

  pub counters_tx : (n : FifoNumber) → kept-sender.Counters (sender_at n c).fifo
  counters_tx n = let s : TypedSender (sender_at n c) = t.senders.each (index_of n) in omega arith

  pub counters_rx : (n : FifoNumber) → kept-receiver.Counters (receiver_at n c).fifo
  counters_rx n = let r : TypedReceiver (receiver_at n c) = t.receivers.each (index_of n) in omega arith

-- the parts of a chip after an access, with the operational state of the chip before
abbrev Kept : Chip → Chip → Type 0
Kept c d = Facts (operational c) d

module _ (v : ℕ) (c : Chip) (t : TypedChip c) (f : Kept c c) where
  mask_facts : (which : ℕ) → Kept c (mask_write which v c)
  unfolding mask_write
  mask_facts which =
      let set : _ = with_masks_well (operational c) c f in
      by_test (Kept c) _ (λ _. set _) (λ _. by_test (Kept c) _ (λ _. set _) (λ _. by_test (Kept c) _ (λ _. set _) (λ _. set _)))

  held_facts : (e : Endpoint) → awaits e c ≡ true → Kept c (held_byte v c)
  held_facts e a = with_pending_well (operational c) c f _ (held_well (operational c) c.pending f.pending e v a)

-- ---- the laws

-- The reset state is well formed.
pub reset_well : well_formed reset_chip ≡ true
reset_well =
    shown false reset_chip (record {
      state = refl;
      control = kept-control.reset_well false;
      senders = (array_replicate (WellSender false) reset_sender (kept-sender.reset_well_formed false) 3).each;
      receivers = (array_replicate (WellReceiver false) reset_receiver (kept-receiver.reset_well_formed false) 3).each;
      nfsr_small = omega arith;
      address_small = omega arith;
      pending = nothing_well false;
    })

-- Whatever register is read, the state stays well formed.
pub read_keeps : (a : ℕ) (c : Chip) (m : List ℕ) → TypedChip c → well_formed c ≡ true → well_formed (read_of a c m).chip ≡ true
read_keeps a c m t h =
    let o : Bool = operational c in
    let n : FifoNumber = number a in
    let f : Kept c c = known o c refl t h in
    let r : _ = f.receivers (index_of n) in
    shown o _ (read_by (Kept c) a c m (record {
      none = f;
      rxev = with_events_well o c f _;
      nakev = with_events_well o c f _;
      txs0 = λ _. with_control_well o c f _ (kept-control.tx_cleared_keeps o c.control f.control);
      rxd0 = λ _. with_control_well o c f _ (kept-control.take_keeps o c.control f.control (counters0 c t) m);
      rxs0 = λ _. with_control_well o c f _ (kept-control.rx_cleared_keeps o c.control f.control);
      txs = λ _. with_sender_well o c f n _ (kept-sender.cleared_keeps o (sender_at n c) (f.senders (index_of n)));
      rxd = λ _. with_receiver_well o c f n _ (kept-receiver.take_keeps o n (receiver_at n c) m (counters_rx c t n) r);
      rxs = λ _. with_receiver_well o c f n _ (kept-receiver.cleared_keeps o (receiver_at n c) r);
    }))

-- Whatever byte is written to whatever register, the state stays well formed.
pub write_keeps : (a v : ℕ) (c : Chip) → Byte v → TypedChip c → well_formed c ≡ true → well_formed (write_of a v c) ≡ true
write_keeps a v c small t h =
    let o : Bool = operational c in
    let n : FifoNumber = number a in
    let f : Kept c c = known o c refl t h in
    let all : (d : Chip) → Kept c d → well_formed d ≡ true = shown o in
    let s : _ = f.senders (index_of n) in
    let r : _ = f.receivers (index_of n) in
    let bits : Kept c (with_control (rx_bits o v c.control) c) =
    with_control_well o c f _ (kept-control.rx_bits_keeps o c.control f.control v) in
    write_by (λ (d : Chip). well_formed d ≡ true) a v c (record {
      none = h;
      reset = λ _ _. reset_well;
      far = λ _. all _ (with_far_well o c f _ _ (omega arith));
      nfsr = λ _ _. nfsr_keeps o v c t f;
      mask = λ which. all _ (mask_facts v c t f which);
      epc0 = λ _. all _ (with_control_well o c f _ (kept-control.epc_keeps o c.control f.control v));
      txd0 = λ _. all _ (with_control_well o c f _ (kept-control.put_keeps o c.control f.control (counters0 c t)));
      txc0 = λ _. all _ (with_control_well o c f _ (kept-control.tx_command_keeps o c.control f.control v));
      held0 = λ _ w. all _ (held_facts v c t f zero_place w);
      rxc0 = λ _. all _ (with_control_well o c f _ (kept-control.rx_command_keeps o c.control f.control v));
      bits0 = λ _ _. all _ bits;
      flush0 = λ _ w. all _ (with_pending_well o _ bits _ (flush_well o c.pending f.pending w));
      epc_tx = λ _. all _ (with_sender_well o c f n _ (kept-sender.epc_keeps o v (sender_at n c) s));
      txd = λ _. all _ (with_sender_well o c f n _ (kept-sender.put_keeps o (sender_at n c) (counters_tx c t n) s));
      txc = λ _. all _ (with_sender_well o c f n _ (kept-sender.command_keeps o v (sender_at n c) small s));
      held = λ _ w. all _ (held_facts v c t f (sending n) w);
      epc_rx = λ _. all _ (with_receiver_well o c f n _ (kept-receiver.epc_keeps o v (receiver_at n c) r));
      rxc = λ _. all _ (with_receiver_well o c f n _ (kept-receiver.command_keeps o v (receiver_at n c) r));
    })
