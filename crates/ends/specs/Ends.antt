-- The end of a wait: for a handshake, with what was held meanwhile, and for data that another bus event came instead of.
use Rattle.std.specs.Prelude.{ℕ, Bool, true, eqb}
use Rattle.choice.specs.Choice.{pick}
use Rattle.window.specs.declared.FifoNumber.{FifoNumber}
use Rattle.sender.specs.declared.Sender.{Sender}
use Rattle.sender.specs.Sender as sender
use Rattle.control.specs.declared.Control.{Control}
use Rattle.control.specs.Registers as control
use Rattle.controlbus.specs.Bus as zero
use Rattle.controlbus.specs.Setup.{setup_dropped}
use Rattle.state.specs.declared.Endpoint.{Endpoint}
use Rattle.state.specs.declared.Wait.{Wait}
use Rattle.state.specs.declared.Wait.TheVariants.{Nothing, Handshake, Data, Setup}
use Rattle.state.specs.declared.Chip.{Chip}
use Rattle.state.specs.State.{sender_at, nothing, fifo_of}
use Rattle.state.specs.Set.{with_control, with_sender, with_pending}

-- nothing awaited, nothing held
unfoldable pub idled : Chip → Chip
idled c = with_pending nothing c

-- "an RXC0 flush is held beside it and done first"
unfoldable pub done_flush : Bool → Control → Control
done_flush flush z = pick flush (control.flushed z) z

-- "the whole byte is held, the newest replacing older, and taken when the wait ends, after the wait's flags and before the event that ended it":
-- a TXC0 byte, and a TXC byte of 1, 3, 5, in the operational state
unfoldable pub done_byte : Bool → ℕ → Control → Control
done_byte holds v z = pick holds (control.tx_command true v z) z

unfoldable pub sender_byte : Bool → ℕ → Sender → Sender
sender_byte holds v s = pick holds (sender.command true v s) s

-- "On 0: ACK empties FIFO0, clears TX_EN, sets both flags; otherwise bytes and TX_EN stay, flags unchanged (H).": then what was held (A18)
unfoldable pub ended_zero : Bool → Chip → Chip
ended_zero acked c =
    idled (with_control (done_byte c.pending.holds c.pending.held (done_flush c.pending.flush (zero.handshake acked c.control))) c)

-- "On 1, 3, 5: TX_DONE set, ACK_STAT = was it ACK.": then what was held
unfoldable pub ended_sender : FifoNumber → Bool → Chip → Chip
ended_sender n acked c = idled (with_sender n (sender_byte c.pending.holds c.pending.held (sender.handshake acked (sender_at n c))) c)

unfoldable pub ended_at : Endpoint → Bool → Chip → Chip
ended_at e acked c = pick (eqb e.0 0) (ended_zero acked c) (ended_sender (fifo_of e) acked c)

-- "The wait ends at the next bus event; one that isn't ACK is then handled itself." Any bus event ends it (A30); an ACK that nobody awaits changes
-- no flag (A29)
abbrev pub ended_in : Wait → Bool → Chip → Chip
ended_in Nothing acked c = c
ended_in (Handshake e) acked c = ended_at e acked c
ended_in (Data e) acked c = c
ended_in Setup acked c = c

abbrev pub ended : Bool → Chip → Chip
ended acked c = ended_in c.pending.wait acked c

-- a SETUP whose data never came was not taken (A38)
unfoldable pub dropped_setup : Chip → Chip
dropped_setup c = idled (with_control (setup_dropped c.control) c)

-- "OUT then data. The endpoint is fixed at the token, the rest judged at the data; another bus event drops it."
abbrev pub dropped_in : Wait → Chip → Chip
dropped_in Nothing c = c
dropped_in (Handshake e) c = c
dropped_in (Data e) c = idled c
dropped_in Setup c = dropped_setup c

abbrev pub dropped : Chip → Chip
dropped c = dropped_in c.pending.wait c
