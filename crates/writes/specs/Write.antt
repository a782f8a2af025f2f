-- What a write of each register leaves in the chip's state and in the lent memory: those not named "ignore writes".
use Rattle.std.specs.Prelude.{ℕ, ◌≡◌, true, ◌&&◌, List, replicate, eqb, leb}
use Rattle.choice.specs.Choice.{pick}
use Rattle.window.specs.declared.FifoNumber.{FifoNumber}
use Rattle.fifo0.specs.Control.{put0, put0_bytes}
use Rattle.txfifo.specs.Transmit.{put_tx, put_tx_bytes}
use Rattle.epc.specs.declared.Epc as epc
use Rattle.epc.specs.Bits.{has, odd}
use Rattle.epc.specs.Epc.{epc_of}
use Rattle.sender.specs.declared.Sender.{Sender}
use Rattle.sender.specs.Sender as sender
use Rattle.receiver.specs.declared.Receiver.{Receiver}
use Rattle.receiver.specs.Receiver as receiver
use Rattle.control.specs.State as control
use Rattle.control.specs.Registers as control-registers
use Rattle.state.specs.declared.Chip.{Chip}
use Rattle.state.specs.State.{sender_at, receiver_at, reset_chip, zero_place}
use Rattle.state.specs.Set.{with_control, with_sender, with_receiver, with_pending}
use Rattle.slot.specs.declared.Register.{Register}
use Rattle.slot.specs.declared.Register.TheVariants.{Epc, Data, Status, Command}
use Rattle.slot.specs.Slot.{slot_of, sending}
use Rattle.settings.specs.Settings.{operational, awaits, held_byte, far_write, nfsr_write, mask_write}

-- "an RXC0 flush is held beside it"
abbrev pub held_flush : Chip → Chip
held_flush c = with_pending (record { wait = c.pending.wait; holds = c.pending.holds; held = c.pending.held; flush = true }) c

-- ---- endpoint 0

abbrev pub epc_write0 : ℕ → Chip → Chip
epc_write0 v c = with_control (control-registers.with_epc_byte v c.control) c

-- "TXD write appends, ignored when full (FIFO0: also while received bytes stand or a handshake is awaited)"
pub record ControlPut (v : ℕ) (c : Chip) (m : List ℕ) (r : Chip) (m' : List ℕ) : Type 0 where
  pub state : r ≡ pick (awaits zero_place c) c (with_control (control.with_fifo (put0 c.control.fifo) c.control) c)
  pub bytes : m' ≡ pick (awaits zero_place c) m (put0_bytes c.control.fifo v m)

-- TXC0: "while that endpoint awaits a handshake the whole byte is held"
unfoldable pub control_command : ℕ → Chip → Chip
control_command v c = pick (awaits zero_place c) (held_byte v c) (with_control (control-registers.tx_command (operational c) v c.control) c)

-- RXC0: "an RXC0 flush is held beside it"; "Otherwise an RXC write acts at once: flush, then bits"
unfoldable pub receive_command : ℕ → Chip → Chip
receive_command v c =
    pick (awaits zero_place c)
    (let b : Chip = with_control (control-registers.rx_bits (operational c) v c.control) c in pick (has 8 v) (held_flush b) b)
    (with_control (control-registers.rx_command (operational c) v c.control) c)

unfoldable pub control_write : ℕ → ℕ → Chip → Chip
control_write a v c =
    pick (eqb a 0x20) (epc_write0 v c)
    (pick (eqb a 0x21) (pick (awaits zero_place c) c (with_control (control.with_fifo (put0 c.control.fifo) c.control) c))
    (pick (eqb a 0x23) (control_command v c)
    (pick (eqb a 0x27) (receive_command v c)
    c)))

unfoldable pub control_bytes : ℕ → ℕ → Chip → List ℕ → List ℕ
control_bytes a v c m = pick (eqb a 0x21) (pick (awaits zero_place c) m (put0_bytes c.control.fifo v m)) m

pub record ControlWrite (a v : ℕ) (c : Chip) (m : List ℕ) (r : Chip) (m' : List ℕ) : Type 0 where
  pub state : r ≡ control_write a v c
  pub bytes : m' ≡ control_bytes a v c m

-- ---- endpoints 1 to 6

abbrev pub sender_epc : epc.Epc → Sender → Sender
sender_epc p s =
    record {
      fifo = s.fifo;
      epc = p;
      urun = s.urun;
      ack = s.ack;
      done = s.done;
      high = s.high;
      toggle = s.toggle;
      last = s.last;
      enabled = s.enabled;
    }

abbrev pub receiver_epc : epc.Epc → Receiver → Receiver
receiver_epc p s =
    record {
      fifo = s.fifo;
      epc = p;
      err = s.err;
      setup = s.setup;
      toggle = s.toggle;
      last = s.last;
      middle = s.middle;
      ignore = s.ignore;
      enabled = s.enabled;
    }

-- TXC: "while that endpoint awaits a handshake the whole byte is held"
unfoldable pub sender_command : FifoNumber → ℕ → Chip → Chip
sender_command n v c = pick (awaits (sending n) c) (held_byte v c) (with_sender n (sender.command (operational c) v (sender_at n c)) c)

unfoldable pub sender_write : Register → FifoNumber → ℕ → Chip → Chip
sender_write Epc n v c = with_sender n (sender_epc (epc_of v) (sender_at n c)) c
sender_write Data n v c = with_sender n (sender.with_fifo (put_tx (sender_at n c).fifo) (sender_at n c)) c
sender_write Status n v c = c
sender_write Command n v c = sender_command n v c

unfoldable pub sender_bytes : Register → FifoNumber → ℕ → Chip → List ℕ → List ℕ
sender_bytes Epc n v c m = m
sender_bytes Data n v c m = put_tx_bytes n (sender_at n c).fifo v m
sender_bytes Status n v c m = m
sender_bytes Command n v c m = m

pub record SenderWrite (register : Register) (n : FifoNumber) (v : ℕ) (c : Chip) (m : List ℕ) (r : Chip) (m' : List ℕ) : Type 0 where
  pub state : r ≡ sender_write register n v c
  pub bytes : m' ≡ sender_bytes register n v c m

-- "RXD writes are ignored"; "an RXC write acts at once"
unfoldable pub receiver_write : Register → FifoNumber → ℕ → Chip → Chip
receiver_write Epc n v c = with_receiver n (receiver_epc (epc_of v) (receiver_at n c)) c
receiver_write Data n v c = c
receiver_write Status n v c = c
receiver_write Command n v c = with_receiver n (receiver.command (operational c) v (receiver_at n c)) c

abbrev pub endpoint_write : ℕ → ℕ → Chip → Chip
endpoint_write a v c =
    pick (slot_of a).sends (sender_write (slot_of a).register (slot_of a).number v c) (receiver_write (slot_of a).register (slot_of a).number v c)

abbrev pub endpoint_bytes : ℕ → ℕ → Chip → List ℕ → List ℕ
endpoint_bytes a v c m = pick (slot_of a).sends (sender_bytes (slot_of a).register (slot_of a).number v c m) m

pub record EndpointWrite (a v : ℕ) (c : Chip) (m : List ℕ) (r : Chip) (m' : List ℕ) : Type 0 where
  pub state : r ≡ endpoint_write a v c
  pub bytes : m' ≡ endpoint_bytes a v c m

-- ---- every address

unfoldable pub write_of : ℕ → ℕ → Chip → Chip
write_of a v c =
    pick (eqb a 0x00) (pick (odd v) reset_chip c)
    (pick (eqb a 0x04) (far_write v c)
    (pick (eqb a 0x05) (nfsr_write v c)
    (pick (eqb a 0x07) (mask_write 0 v c)
    (pick (eqb a 0x0B) (mask_write 1 v c)
    (pick (eqb a 0x0D) (mask_write 2 v c)
    (pick (eqb a 0x0F) (mask_write 3 v c)
    (pick (leb 0x20 a && leb a 0x27) (control_write a v c)
    (pick (leb 0x28 a && leb a 0x3F) (endpoint_write a v c)
    c))))))))

unfoldable pub bytes_of : ℕ → ℕ → Chip → List ℕ → List ℕ
bytes_of a v c m =
    pick (eqb a 0x00) (pick (odd v) (replicate 392 0) m)
    (pick (leb 0x20 a && leb a 0x27) (control_bytes a v c m)
    (pick (leb 0x28 a && leb a 0x3F) (endpoint_bytes a v c m)
    m))

pub record WriteTo (a v : ℕ) (c : Chip) (m : List ℕ) (r : Chip) (m' : List ℕ) : Type 0 where
  pub state : r ≡ write_of a v c
  pub bytes : m' ≡ bytes_of a v c m
