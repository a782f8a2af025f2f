-- Endpoints 1, 3 and 5: EPC, TXS, TXC, TXD, the answer to an IN token and the end of the wait.
use Rattle.std.specs.Prelude.{ℕ, ◌+◌, ◌*◌, ◌/◌, ◌%◌, min, ◌≡◌, Bool, true, false, not, ◌&&◌, ◌||◌, List, eqb, leb, ltb}
use Rattle.choice.specs.Choice.{pick}
use Rattle.window.specs.declared.FifoNumber.{FifoNumber}
use Rattle.window.specs.Window.{tx_size}
use Rattle.ring.specs.Ring.{level, free}
use Rattle.txfifo.specs.declared.TxFifo.{TxFifo}
use Rattle.txfifo.specs.Transmit.{reset_tx, put_tx, put_tx_bytes, spend_tx, refill_tx, mark_tx}
use Rattle.epc.specs.Bits.{bit_of, has, odd}
use Rattle.epc.specs.Epc.{reset_epc}
use Rattle.sender.specs.declared.Sender.{Sender}
use Rattle.sender.specs.declared.Sent.{Sent}
use Rattle.sender.specs.declared.Sent.TheVariants.{Nak, Stall, Broken, Data0, Data1}

-- "Reset: all zero"
abbrev pub reset_sender : Sender
reset_sender =
    record {
      fifo = reset_tx;
      epc = reset_epc;
      urun = false;
      ack = false;
      done = false;
      high = 0;
      toggle = false;
      last = false;
      enabled = false;
    }

-- the state with another FIFO, with other flags of TXS, with other bits of TXC
abbrev pub with_fifo : TxFifo → Sender → Sender
with_fifo f s =
    record {
      fifo = f;
      epc = s.epc;
      urun = s.urun;
      ack = s.ack;
      done = s.done;
      high = s.high;
      toggle = s.toggle;
      last = s.last;
      enabled = s.enabled;
    }

abbrev pub with_flags : Bool → Bool → Bool → Sender → Sender
with_flags urun ack done s =
    record {
      fifo = s.fifo;
      epc = s.epc;
      urun = urun;
      ack = ack;
      done = done;
      high = s.high;
      toggle = s.toggle;
      last = s.last;
      enabled = s.enabled;
    }

abbrev pub with_bits : ℕ → Bool → Bool → Bool → Sender → Sender
with_bits high toggle last enabled s =
    record {
      fifo = s.fifo;
      epc = s.epc;
      urun = s.urun;
      ack = s.ack;
      done = s.done;
      high = high;
      toggle = toggle;
      last = last;
      enabled = enabled;
    }

abbrev pub with_last : Bool → Sender → Sender
with_last last s = with_bits s.high s.toggle last s.enabled s

-- TXS: "7 TX_URUN (not 0), 6 ACK_STAT, 5 TX_DONE, 4..0 free bytes, at most 31"
abbrev pub status_of : Sender → ℕ
status_of s = 128 * bit_of s.urun + 64 * bit_of s.ack + 32 * bit_of s.done + min (free tx_size s.fifo.read s.fifo.write) 31

-- "A read clears the flags"
abbrev pub cleared : Sender → Sender
cleared s = with_flags false false false s

-- TXC: "2 TOGGLE, 0 TX_EN; .. the others 7..5 stored, .. 1 LAST"; "FLUSH and RFF read 0"
abbrev pub command_value : Sender → ℕ
command_value s = 32 * (s.high % 8) + 4 * bit_of s.toggle + 2 * bit_of s.last + bit_of s.enabled

-- "A TXC write flushes; else RFF sets read to saved ..": 3 FLUSH, 4 RFF
unfoldable pub moved : ℕ → Sender → Sender
moved v s = pick (has 8 v) (with_fifo reset_tx s) (pick (has 16 v) (with_fifo (refill_tx s.fifo) s) s)

-- "LAST sets saved to read"
unfoldable pub marked : ℕ → Sender → Sender
marked v s = pick (has 2 v) (with_last true (with_fifo (mark_tx s.fifo) s)) s

-- "Then bits are stored; LAST sets saved to read"; outside the operational state "the three bits are stored as 0 and LAST moves nothing (H)"
unfoldable pub command : Bool → ℕ → Sender → Sender
command operational v s =
    pick operational
    (marked v (with_bits (v / 32) (has 4 v) false (odd v) (moved v s)))
    (with_bits (v / 32) (has 4 v) false false (moved v s))

-- "TXD write appends, ignored when full"
pub record PutData (n : FifoNumber) (s : Sender) (b : ℕ) (m : List ℕ) (r : Sender) (m' : List ℕ) : Type 0 where
  pub state : r ≡ with_fifo (put_tx s.fifo) s
  pub bytes : m' ≡ put_tx_bytes n s.fifo b m

-- IN, in order: "Not enabled (TX_EN clear ..), NAK"; "STALL set: answer STALL"; "without LAST: a broken packet"; "Else DATA0 or DATA1 by TOGGLE"
unfoldable pub answer_in : Sender → Sent
answer_in s =
    pick s.enabled
    (pick s.epc.stall Stall
    (pick s.last
    (pick s.toggle Data1 Data0)
    Broken))
    Nak

-- NAK changes nothing here; STALL: "TX_EN and ACK_STAT cleared, TX_DONE set"; broken: "all bytes spent, saved = read, TX_URUN set, TX_EN
-- cleared"; data: "move read to write and clear TX_EN, LAST"
unfoldable pub sent : Sender → Sender
sent s =
    pick s.enabled
    (pick s.epc.stall (with_bits s.high s.toggle s.last false (with_flags s.urun false true s))
    (pick s.last
    (with_bits s.high s.toggle false false (with_fifo (spend_tx s.fifo) s))
    (with_bits s.high s.toggle s.last false (with_flags true s.ack s.done (with_fifo (mark_tx (spend_tx s.fifo)) s)))))
    s

-- the wait's end "On 1, 3, 5: TX_DONE set, ACK_STAT = was it ACK"
abbrev pub handshake : Bool → Sender → Sender
handshake acked s = with_flags s.urun acked true s

-- NFSR written with another value "clears TX_EN, LAST"
abbrev pub stopped : Sender → Sender
stopped s = with_bits s.high s.toggle false false s

-- "read - saved at most 64, and 0 while LAST is set"
unfoldable pub near : Sender → Bool
near s =
    leb (level s.fifo.saved s.fifo.read) 64 && (not s.last || eqb (level s.fifo.saved s.fifo.read) 0)

-- "Well formed: levels within size; read - saved at most 64, and 0 while LAST is set; reserved bits 0; .. outside the operational state no
-- TX_EN, RX_EN or LAST"
unfoldable pub well_formed : Bool → Sender → Bool
well_formed operational s =
    leb (level s.fifo.read s.fifo.write) tx_size
    && near s
    && ltb s.high 8
    && ltb s.epc.number.0 16
    && (operational || not s.last && not s.enabled)
