-- What a register access makes of the chip, said once for every property of the chip after it.
-- Assumes nothing.
use Prim.Native.Nat.{ℕ}
use mathlib.Core.Path.{◌≡◌}
use mathlib.Core.Bool.{Bool, true, false, ◌&&◌}
use mathlib.Core.List.{List}
use lib.Dec.{eqb, leb}
use Rattle.choice.proofs.ByTest.{by_test}
use Rattle.window.specs.declared.FifoNumber.{FifoNumber}
use Rattle.fifo0.specs.Control.{put0}
use Rattle.txfifo.specs.Transmit.{put_tx}
use Rattle.epc.specs.Bits.{has, odd}
use Rattle.epc.specs.Epc.{epc_of}
use Rattle.sender.specs.Sender as sender
use Rattle.receiver.specs.Receiver as receiver
use Rattle.control.specs.State as control
use Rattle.control.specs.Registers as control-registers
use Rattle.state.specs.declared.Chip.{Chip}
use Rattle.state.specs.State.{sender_at, receiver_at, reset_chip, zero_place}
use Rattle.state.specs.Set.{with_control, with_sender, with_receiver}
use Rattle.slot.specs.declared.Register.{Register}
use Rattle.slot.specs.declared.Register.TheVariants.{Epc, Data, Status, Command}
use Rattle.slot.specs.Slot.{slot_of, sending}
use Rattle.settings.specs.Settings.{operational, awaits, held_byte, far_write, nfsr_write, mask_write}
use Rattle.reads.specs.declared.ReadOut.{ReadOut}
use Rattle.reads.specs.Read.{rxev_read, nakev_read, control_read, sender_read, receiver_read, endpoint_read, read_of}
use Rattle.writes.specs.Write.{held_flush, epc_write0, control_command, receive_command, control_write, sender_epc, receiver_epc, sender_command, sender_write, receiver_write, endpoint_write, write_of}

-- 20 to 27 are endpoint 0's registers; 28 to 3F those of an endpoint that sends, or of one that receives
abbrev pub OfZero : ℕ → Type 0
OfZero a = (leb 0x20 a && leb a 0x27) ≡ true

pub record OfSlot (a : ℕ) (sends : Bool) : Type 0 where
  pub above : (leb 0x20 a && leb a 0x27) ≡ false
  pub inside : (leb 0x28 a && leb a 0x3F) ≡ true
  pub way : (slot_of a).sends ≡ sends

abbrev pub number : ℕ → FifoNumber
number a = (slot_of a).number

-- ---- reads

-- RXEV and NAKEV clear their bits, TXS and RXS their flags, RXD takes a byte; every other register only shows
pub record Reads (P : Chip → Type 0) (a : ℕ) (c : Chip) (m : List ℕ) : Type 0 where
  pub none : P c
  pub rxev : P (rxev_read c).chip
  pub nakev : P (nakev_read c).chip
  pub txs0 : OfZero a → P (with_control (control-registers.tx_cleared c.control) c)
  pub rxd0 : OfZero a → P (with_control (control-registers.take_data c.control m).next c)
  pub rxs0 : OfZero a → P (with_control (control-registers.rx_cleared c.control) c)
  pub txs : OfSlot a true → P (with_sender (number a) (sender.cleared (sender_at (number a) c)) c)
  pub rxd : OfSlot a false → P (with_receiver (number a) (receiver.take_byte (number a) (receiver_at (number a) c) m).next c)
  pub rxs : OfSlot a false → P (with_receiver (number a) (receiver.cleared (receiver_at (number a) c)) c)

module _ (P : Chip → Type 0) (a : ℕ) (c : Chip) (m : List ℕ) (h : Reads P a c m) where
  abbrev Read : ReadOut → Type 0
  Read r = P r.chip

  control_read_lem : OfZero a → Read (control_read a c m)
  unfolding control_read
  control_read_lem own =
      by_test Read _ (λ _. h.none) (λ _.
      by_test Read _ (λ _. h.txs0 own) (λ _.
      by_test Read _ (λ _. h.none) (λ _.
      by_test Read _ (λ _. h.rxd0 own) (λ _.
      by_test Read _ (λ _. h.rxs0 own) (λ _.
      by_test Read _ (λ _. h.none) (λ _. h.none))))))

  sender_read_lem : (register : Register) → OfSlot a true → Read (sender_read register (number a) c)
  unfolding sender_read
  sender_read_lem Epc own = h.none
  sender_read_lem Data own = h.none
  sender_read_lem Status own = h.txs own
  sender_read_lem Command own = h.none

  receiver_read_lem : (register : Register) → OfSlot a false → Read (receiver_read register (number a) c m)
  unfolding receiver_read
  receiver_read_lem Epc own = h.none
  receiver_read_lem Data own = h.rxd own
  receiver_read_lem Status own = h.rxs own
  receiver_read_lem Command own = h.none

  endpoint_read_lem : (leb 0x20 a && leb a 0x27) ≡ false → (leb 0x28 a && leb a 0x3F) ≡ true → Read (endpoint_read a c m)
  endpoint_read_lem e f =
      by_test Read (slot_of a).sends
      (λ t. sender_read_lem (slot_of a).register (record { above = e; inside = f; way = t }))
      (λ t. receiver_read_lem (slot_of a).register (record { above = e; inside = f; way = t }))

  -- Every read.
  pub read_by : Read (read_of a c m)
  unfolding read_of
  read_by =
      by_test Read _ (λ _. h.none) (λ _.
      by_test Read _ (λ _. h.none) (λ _.
      by_test Read _ (λ _. h.none) (λ _.
      by_test Read _ (λ _. h.none) (λ _.
      by_test Read _ (λ _. h.none) (λ _.
      by_test Read _ (λ _. h.none) (λ _.
      by_test Read _ (λ _. h.rxev) (λ _.
      by_test Read _ (λ _. h.none) (λ _.
      by_test Read _ (λ _. h.nakev) (λ _.
      by_test Read _ (λ _. h.none) (λ _.
      by_test Read (leb 0x20 a && leb a 0x27) (λ e. control_read_lem e) (λ e.
      by_test Read (leb 0x28 a && leb a 0x3F) (λ f. endpoint_read_lem e f) (λ _. h.none))))))))))))

-- ---- writes

-- MCNTRL, FAR, NFSR and the masks; EPC, TXD, TXC and RXC of endpoint 0 and of the others; while a handshake is awaited TXC, and RXC0's flush, is held
pub record Writes (P : Chip → Type 0) (a v : ℕ) (c : Chip) : Type 0 where
  pub none : P c
  pub reset : eqb a 0x00 ≡ true → odd v ≡ true → P reset_chip
  pub far : eqb a 0x04 ≡ true → P (far_write v c)
  pub nfsr : eqb a 0x00 ≡ false → eqb a 0x05 ≡ true → P (nfsr_write v c)
  pub mask : (which : ℕ) → P (mask_write which v c)
  pub epc0 : OfZero a → P (epc_write0 v c)
  pub txd0 : OfZero a → P (with_control (control.with_fifo (put0 c.control.fifo) c.control) c)
  pub txc0 : OfZero a → P (with_control (control-registers.tx_command (operational c) v c.control) c)
  pub held0 : OfZero a → awaits zero_place c ≡ true → P (held_byte v c)
  pub rxc0 : OfZero a → P (with_control (control-registers.rx_command (operational c) v c.control) c)
  pub bits0 : OfZero a → awaits zero_place c ≡ true → P (with_control (control-registers.rx_bits (operational c) v c.control) c)
  pub flush0 : OfZero a → awaits zero_place c ≡ true → P (held_flush (with_control (control-registers.rx_bits (operational c) v c.control) c))
  pub epc_tx : OfSlot a true → P (with_sender (number a) (sender_epc (epc_of v) (sender_at (number a) c)) c)
  pub txd : OfSlot a true → P (with_sender (number a) (sender.with_fifo (put_tx (sender_at (number a) c).fifo) (sender_at (number a) c)) c)
  pub txc : OfSlot a true → P (with_sender (number a) (sender.command (operational c) v (sender_at (number a) c)) c)
  pub held : OfSlot a true → awaits (sending (number a)) c ≡ true → P (held_byte v c)
  pub epc_rx : OfSlot a false → P (with_receiver (number a) (receiver_epc (epc_of v) (receiver_at (number a) c)) c)
  pub rxc : OfSlot a false → P (with_receiver (number a) (receiver.command (operational c) v (receiver_at (number a) c)) c)

module _ (P : Chip → Type 0) (a v : ℕ) (c : Chip) (h : Writes P a v c) where
  receive_command_lem : OfZero a → P (receive_command v c)
  unfolding receive_command
  receive_command_lem own =
      by_test P (awaits zero_place c) (λ t. by_test P (has 8 v) (λ _. h.flush0 own t) (λ _. h.bits0 own t)) (λ _. h.rxc0 own)

  control_write_lem : OfZero a → P (control_write a v c)
  unfolding control_write control_command
  control_write_lem own =
      by_test P _ (λ _. h.epc0 own) (λ _.
      by_test P _ (λ _. by_test P _ (λ _. h.none) (λ _. h.txd0 own)) (λ _.
      by_test P _ (λ _. by_test P _ (λ t. h.held0 own t) (λ _. h.txc0 own)) (λ _.
      by_test P _ (λ _. receive_command_lem own) (λ _. h.none))))

  sender_write_lem : (register : Register) → OfSlot a true → P (sender_write register (number a) v c)
  unfolding sender_write sender_command
  sender_write_lem Epc own = h.epc_tx own
  sender_write_lem Data own = h.txd own
  sender_write_lem Status own = h.none
  sender_write_lem Command own = by_test P _ (λ t. h.held own t) (λ _. h.txc own)

  receiver_write_lem : (register : Register) → OfSlot a false → P (receiver_write register (number a) v c)
  unfolding receiver_write
  receiver_write_lem Epc own = h.epc_rx own
  receiver_write_lem Data own = h.none
  receiver_write_lem Status own = h.none
  receiver_write_lem Command own = h.rxc own

  endpoint_write_lem : (leb 0x20 a && leb a 0x27) ≡ false → (leb 0x28 a && leb a 0x3F) ≡ true → P (endpoint_write a v c)
  endpoint_write_lem e f =
      by_test P (slot_of a).sends
      (λ t. sender_write_lem (slot_of a).register (record { above = e; inside = f; way = t }))
      (λ t. receiver_write_lem (slot_of a).register (record { above = e; inside = f; way = t }))

  -- Every write.
  pub write_by : P (write_of a v c)
  unfolding write_of
  write_by =
      by_test P (eqb a 0x00) (λ e. by_test P (odd v) (λ t. h.reset e t) (λ _. h.none)) (λ e.
      by_test P (eqb a 0x04) (λ f. h.far f) (λ _.
      by_test P (eqb a 0x05) (λ f. h.nfsr e f) (λ _.
      by_test P _ (λ _. h.mask 0) (λ _.
      by_test P _ (λ _. h.mask 1) (λ _.
      by_test P _ (λ _. h.mask 2) (λ _.
      by_test P _ (λ _. h.mask 3) (λ _.
      by_test P (leb 0x20 a && leb a 0x27) (λ g. control_write_lem g) (λ g.
      by_test P (leb 0x28 a && leb a 0x3F) (λ f. endpoint_write_lem g f) (λ _. h.none)))))))))
