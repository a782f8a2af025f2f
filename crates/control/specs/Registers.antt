-- Endpoint 0 at a register access: EPC0, TXD0, TXS0, TXC0, RXD0, RXS0, RXC0, and NFSR that leaves the operational state.
use Rattle.std.specs.Prelude.{ℕ, ◌+◌, ◌*◌, min, ◌≡◌, Bool, false, ◌&&◌, List}
use Rattle.choice.specs.Choice.{pick}
use Rattle.window.specs.Window.{size0}
use Rattle.ring.specs.declared.Taken.{Taken}
use Rattle.ring.specs.Ring.{free}
use Rattle.fifo0.specs.Control.{reset0, rcount, put0, put0_bytes, take0}
use Rattle.epc.specs.Bits.{bit_of, has, odd}
use Rattle.control.specs.declared.Control.{Control}
use Rattle.control.specs.State.{with_fifo, with_epc, with_tx_flags, with_rx_flags, with_tx, with_rx, with_sends, with_receives, with_mark}

-- "20 EPC0: 7 STALL, 6 DEF."
abbrev pub epc_value : Control → ℕ
epc_value c = 128 * bit_of c.stall + 64 * bit_of c.def

abbrev pub with_epc_byte : ℕ → Control → Control
with_epc_byte v c = with_epc (has 128 v) (has 64 v) c

-- "TXS: 7 TX_URUN (not 0), 6 ACK_STAT, 5 TX_DONE, 4..0 free bytes, at most 31."
abbrev pub tx_status : Control → ℕ
tx_status c = 64 * bit_of c.ack + 32 * bit_of c.done + min (free size0 c.fifo.read c.fifo.write) 31

-- "RXS: 7 RX_ERR (not 0), 6 SETUP, 5 TOGGLE, 4 RX_LAST, 3..0 received bytes, at most 15."
abbrev pub rx_status : Control → ℕ
rx_status c = 64 * bit_of c.setup + 32 * bit_of c.toggle + 16 * bit_of c.last + min (rcount c.fifo) 15

-- "A read clears the flags."
abbrev pub tx_cleared : Control → Control
tx_cleared c = with_tx_flags false false c

abbrev pub rx_cleared : Control → Control
rx_cleared c = with_rx_flags false false false c

-- "TXC: 3 FLUSH, 2 TOGGLE, 0 TX_EN; 0 has 4 IGN_IN"; "FLUSH and RFF read 0."
abbrev pub tx_command_value : Control → ℕ
tx_command_value c = 16 * bit_of c.ignin + 4 * bit_of c.txtoggle + bit_of c.sends

-- "RXC: 3 FLUSH, 2 IGN_SETUP, 0 RX_EN; 0 has 1 IGN_OUT"; "FLUSH and RFF read 0."
abbrev pub rx_command_value : Control → ℕ
rx_command_value c = 4 * bit_of c.ignsetup + 2 * bit_of c.ignout + bit_of c.receives

-- "A flush zeroes all of them": the pointers, of bytes to send and of received ones; flags, enables and the mark stay
abbrev pub flushed : Control → Control
flushed c = with_fifo reset0 c

-- "3 FLUSH" of TXC0 and of RXC0
unfoldable pub flushed_by : ℕ → Control → Control
flushed_by v c = pick (has 8 v) (flushed c) c

-- "A TXC write flushes; .. Then bits are stored"; outside the operational state: "In such a state the three bits are stored as 0 and LAST moves
-- nothing (H)."
unfoldable pub tx_command : Bool → ℕ → Control → Control
tx_command operational v c = with_tx (has 16 v) (has 4 v) (operational && odd v) (flushed_by v c)

-- "an RXC0 flush is held beside it and done first": the bits of an RXC0 byte, without its flush
unfoldable pub rx_bits : Bool → ℕ → Control → Control
rx_bits operational v c = with_rx (has 4 v) (has 2 v) (operational && odd v) c

-- "Otherwise an RXC write acts at once: flush, then bits."
abbrev pub rx_command : Bool → ℕ → Control → Control
rx_command operational v c = rx_bits operational v (flushed_by v c)

-- "TXD write appends, ignored when full (FIFO0: also while received bytes stand or a handshake is awaited)."
pub record PutData (c : Control) (b : ℕ) (m : List ℕ) (r : Control) (m' : List ℕ) : Type 0 where
  pub state : r ≡ with_fifo (put0 c.fifo) c
  pub bytes : m' ≡ put0_bytes c.fifo b m

-- "RXD read takes a byte; with none it repeats the last one read, 0 after reset or flush"; "While FIFO0 has bytes to send, RCOUNT is 0 and
-- RXD0 takes none."
abbrev pub take_data : Control → List ℕ → Taken Control
take_data c m = record { next = with_fifo (take0 c.fifo m).next c; value = (take0 c.fifo m).value; taken = (take0 c.fifo m).taken }

-- "Writing another value clears TX_EN, .. RX_EN, .. and the SETUP mark, without TX_DONE; FIFO bytes stay."
abbrev pub stopped : Control → Control
stopped c = with_mark false (with_receives false (with_sends false c))
