-- Endpoints 2, 4 and 6: EPC, RXS, RXC, RXD, and data after an OUT token.
-- Unless another document is named, what is quoted is 01.
use Rattle.std.specs.Prelude.{ℕ, ◌+◌, ◌*◌, ◌/◌, ◌%◌, min, ◌≡◌, Bool, true, false, not, ◌&&◌, ◌||◌, List, length, eqb, leb, ltb}
use Rattle.choice.specs.Choice.{pick}
use Rattle.window.specs.declared.FifoNumber.{FifoNumber}
use Rattle.window.specs.Window.{rx_size}
use Rattle.ring.specs.declared.Taken.{Taken}
use Rattle.ring.specs.Ring.{level}
use Rattle.rxfifo.specs.declared.RxFifo.{RxFifo}
use Rattle.rxfifo.specs.Receive.{reset_rx, take_rx, fits_rx, fill_rx, fill_rx_bytes}
use Rattle.epc.specs.Bits.{bit_of, has, odd}
use Rattle.epc.specs.Epc.{reset_epc}
use Rattle.verdict.specs.declared.Judged.{Judged}
use Rattle.verdict.specs.declared.Judged.TheVariants.{Silence, Nak, Stall, Overrun, Ack}
use Rattle.verdict.specs.Verdict.{heard}
use Rattle.receiver.specs.declared.Receiver.{Receiver}

-- "Reset: all zero"
abbrev pub reset_receiver : Receiver
reset_receiver =
    record {
      fifo = reset_rx;
      epc = reset_epc;
      err = false;
      setup = false;
      toggle = false;
      last = false;
      middle = 0;
      ignore = false;
      enabled = false;
    }

-- the state with another FIFO, with other flags of RXS, with other bits of RXC
abbrev pub with_fifo : RxFifo → Receiver → Receiver
with_fifo f s =
    record {
      fifo = f;
      epc = s.epc;
      err = s.err;
      setup = s.setup;
      toggle = s.toggle;
      last = s.last;
      middle = s.middle;
      ignore = s.ignore;
      enabled = s.enabled;
    }

abbrev pub with_flags : Bool → Bool → Bool → Bool → Receiver → Receiver
with_flags err setup toggle last s =
    record {
      fifo = s.fifo;
      epc = s.epc;
      err = err;
      setup = setup;
      toggle = toggle;
      last = last;
      middle = s.middle;
      ignore = s.ignore;
      enabled = s.enabled;
    }

abbrev pub with_bits : ℕ → Bool → Bool → Receiver → Receiver
with_bits middle ignore enabled s =
    record {
      fifo = s.fifo;
      epc = s.epc;
      err = s.err;
      setup = s.setup;
      toggle = s.toggle;
      last = s.last;
      middle = middle;
      ignore = ignore;
      enabled = enabled;
    }

-- RXS: "7 RX_ERR (not 0), 6 SETUP, 5 TOGGLE, 4 RX_LAST, 3..0 received bytes, at most 15"
abbrev pub status_of : Receiver → ℕ
status_of s =
    128 * bit_of s.err + 64 * bit_of s.setup + 32 * bit_of s.toggle + 16 * bit_of s.last
    + min (level s.fifo.read s.fifo.write) 15

-- "A read clears the flags"
abbrev pub cleared : Receiver → Receiver
cleared s = with_flags false false false false s

-- RXC: "2 IGN_SETUP, 0 RX_EN; .. the others 6..5 stored"; "FLUSH .. read 0"
abbrev pub command_value : Receiver → ℕ
command_value s = 32 * (s.middle % 4) + 4 * bit_of s.ignore + bit_of s.enabled

-- "an RXC write acts at once: flush, .."; "3 FLUSH"
unfoldable pub flushed : ℕ → Receiver → Receiver
flushed v s = pick (has 8 v) (with_fifo reset_rx s) s

-- ".. then bits"; outside the operational state "the three bits are stored as 0": TX_EN, LAST, RX_EN
abbrev pub command : Bool → ℕ → Receiver → Receiver
command operational v s = with_bits (v / 32 % 4) (has 4 v) (operational && odd v) (flushed v s)

-- "RXD read takes a byte; with none it repeats the last one read, 0 after reset or flush"
abbrev pub take_byte : FifoNumber → Receiver → List ℕ → Taken Receiver
take_byte n s m =
    record {
      next = with_fifo (take_rx n s.fifo m).next s;
      value = (take_rx n s.fifo m).value;
      taken = (take_rx n s.fifo m).taken;
    }

-- Data after OUT, "In order: .. RX_EN clear, NAK and its bit (unsound data: silence); STALL (unsound: silence) answers STALL, ..; no room
-- (on 2, 4, 6 level plus count over 64; ..), overrun bit and NAK without its NAKEV bit, .. (unsound: silence); unsound, silence, ..; count 0,
-- ACK, ..; else stored, ACK, ..": an ACK for every count
unfoldable pub judged : Bool → ℕ → Receiver → Judged
judged sound count s =
    pick (not s.enabled) (heard sound Nak)
    (pick s.epc.stall (heard sound Stall)
    (pick (not (fits_rx s.fifo count)) (heard sound Overrun)
    (pick (not sound) Silence
    Ack)))

-- "RX_EN cleared"
abbrev pub disarmed : Receiver → Receiver
disarmed s = with_bits s.middle s.ignore false s

-- "RX_ERR set, RX_EN cleared": the other flags stay
abbrev pub damaged : Receiver → Receiver
damaged s = disarmed (with_flags true s.setup s.toggle s.last s)

-- "RX_LAST set, TOGGLE = PID, RX_EN cleared": the other flags stay
abbrev pub good : Bool → Receiver → Receiver
good pid s = disarmed (with_flags s.err s.setup pid true s)

-- the state after that data: ""Unsound: silence" below changes no flag and no byte"; "RX_EN clear, NAK ..; STALL (unsound: silence) ..,
-- clears RX_EN, ..; no room .., RX_EN kept ..; unsound, silence, on 2, 4, 6 bytes stored, RX_ERR set, RX_EN cleared; count 0, ACK, RX_EN
-- cleared; else stored, ACK, RX_LAST set, TOGGLE = PID, RX_EN cleared, .."
unfoldable pub received : Bool → Bool → List ℕ → Receiver → Receiver
received pid sound bytes s =
    pick (not s.enabled) s
    (pick s.epc.stall (pick sound (disarmed s) s)
    (pick (not (fits_rx s.fifo (length bytes))) s
    (pick (not sound) (damaged (with_fifo (fill_rx s.fifo bytes) s))
    (pick (eqb (length bytes) 0) (disarmed s)
    (good pid (with_fifo (fill_rx s.fifo bytes) s))))))

-- the memory after it: "unsound, .. bytes stored", "count 0, ACK", "else stored", and before these nothing
unfoldable pub received_bytes : FifoNumber → Bool → List ℕ → Receiver → List ℕ → List ℕ
received_bytes n sound bytes s m =
    pick (not s.enabled) m
    (pick s.epc.stall m
    (pick (not (fits_rx s.fifo (length bytes))) m
    (pick (not sound) (fill_rx_bytes n s.fifo bytes m)
    (pick (eqb (length bytes) 0) m
    (fill_rx_bytes n s.fifo bytes m)))))

pub record ReceivedData (n : FifoNumber) (pid sound : Bool) (packet : List ℕ) (s : Receiver) (m : List ℕ) (r : Receiver) (m' : List ℕ) : Type 0 where
  pub state : r ≡ received pid sound packet s
  pub bytes : m' ≡ received_bytes n sound packet s m

-- NFSR written with another value "clears TX_EN, LAST, RX_EN"
abbrev pub stopped : Receiver → Receiver
stopped s = disarmed s

-- "Well formed: levels within size; .. reserved bits 0; .. outside the operational state no TX_EN, RX_EN or LAST"
unfoldable pub well_formed : Bool → Receiver → Bool
well_formed operational s =
    leb (level s.fifo.read s.fifo.write) rx_size
    && ltb s.middle 4
    && ltb s.epc.number.0 16
    && (operational || not s.enabled)
