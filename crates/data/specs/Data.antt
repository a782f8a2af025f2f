-- What data leaves in the chip's state and in the lent memory, and what is answered to it, by what is awaited.
use Rattle.std.specs.Prelude.{ℕ, Bool, List, length, eqb}
use Rattle.choice.specs.Choice.{pick}
use Rattle.window.specs.declared.FifoNumber.{FifoNumber}
use Rattle.window.specs.Window.{fifo0}
use Rattle.verdict.specs.declared.Judged.{Judged}
use Rattle.verdict.specs.declared.Judged.TheVariants as judged
use Rattle.receiver.specs.Receiver as receiver
use Rattle.controlbus.specs.Bus as zero
use Rattle.controlbus.specs.Setup as setup
use Rattle.state.specs.declared.Endpoint.{Endpoint}
use Rattle.state.specs.declared.Wait.{Wait}
use Rattle.state.specs.declared.Wait.TheVariants.{Nothing, Handshake, Data, Setup}
use Rattle.state.specs.declared.Chip.{Chip}
use Rattle.state.specs.State.{receiver_at, fifo_of}
use Rattle.state.specs.Set as set
use Rattle.answer.specs.declared.Answer.TheVariants.{Ack, Nak, Stall}
use Rattle.answer.specs.declared.Out.{Out}
use Rattle.ends.specs.Ends.{idled}
use Rattle.answer.specs.Answer.{gives, silent}

-- "NAK and its bit"; "overrun bit and NAK without its NAKEV bit"
unfoldable pub marked_out : FifoNumber → Chip → Chip
marked_out n c = set.with_events (set.nakked_out n c.events) c

unfoldable pub overrun : FifoNumber → Chip → Chip
overrun n c = set.with_events (set.overran n c.events) c

-- the answer to data, and its bits: n is the chip after, but for these
abbrev pub judged_at : Judged → FifoNumber → Chip → Out
judged_at judged.Silence k n = silent n
judged_at judged.Nak k n = gives (marked_out k n) Nak
judged_at judged.Stall k n = gives n Stall
judged_at judged.Overrun k n = gives (overrun k n) Nak
judged_at judged.Ack k n = gives n Ack

-- "OUT then data. The endpoint is fixed at the token, the rest judged at the data": endpoint 0
unfoldable pub data_zero : Bool → Bool → Chip → List ℕ → Out
data_zero pid sound c s =
    judged_at (zero.judge_out sound (length s) c.control) fifo0 (idled (set.with_control (zero.received pid sound c.control s) c))

unfoldable pub data_zero_bytes : Bool → Chip → List ℕ → List ℕ → List ℕ
data_zero_bytes sound c s m = zero.received_bytes sound c.control s m

-- endpoints 2, 4, 6
unfoldable pub data_receiver : FifoNumber → Bool → Bool → Chip → List ℕ → Out
data_receiver n pid sound c s =
    judged_at (receiver.judged sound (length s) (receiver_at n c)) n
    (idled (set.with_receiver n (receiver.received pid sound s (receiver_at n c)) c))

unfoldable pub data_receiver_bytes : FifoNumber → Bool → Chip → List ℕ → List ℕ → List ℕ
data_receiver_bytes n sound c s m = receiver.received_bytes n sound s (receiver_at n c) m

-- "SETUP only on 0."
unfoldable pub data_setup : Bool → Bool → Chip → List ℕ → Out
data_setup pid sound c s =
    judged_at (setup.judge_setup pid sound (length s) c.control) fifo0 (idled (set.with_control (setup.received_setup pid sound c.control s) c))

unfoldable pub data_setup_bytes : Bool → Bool → Chip → List ℕ → List ℕ → List ℕ
data_setup_bytes pid sound c s m = setup.received_setup_bytes pid sound c.control s m

unfoldable pub data_at : Endpoint → Bool → Bool → Chip → List ℕ → Out
data_at e pid sound c s = pick (eqb e.0 0) (data_zero pid sound c s) (data_receiver (fifo_of e) pid sound c s)

unfoldable pub data_at_bytes : Endpoint → Bool → Chip → List ℕ → List ℕ → List ℕ
data_at_bytes e sound c s m = pick (eqb e.0 0) (data_zero_bytes sound c s m) (data_receiver_bytes (fifo_of e) sound c s m)

-- "Data without token: silence."
abbrev pub data_in : Wait → Bool → Bool → Chip → List ℕ → Out
data_in Nothing pid sound c s = silent c
data_in (Handshake e) pid sound c s = silent c
data_in (Data e) pid sound c s = data_at e pid sound c s
data_in Setup pid sound c s = data_setup pid sound c s

abbrev pub data_in_bytes : Wait → Bool → Bool → Chip → List ℕ → List ℕ → List ℕ
data_in_bytes Nothing pid sound c s m = m
data_in_bytes (Handshake e) pid sound c s m = m
data_in_bytes (Data e) pid sound c s m = data_at_bytes e sound c s m
data_in_bytes Setup pid sound c s m = data_setup_bytes pid sound c s m

abbrev pub data_now : Bool → Bool → Chip → List ℕ → Out
data_now pid sound c s = data_in c.pending.wait pid sound c s

abbrev pub data_now_bytes : Bool → Bool → Chip → List ℕ → List ℕ → List ℕ
data_now_bytes pid sound c s m = data_in_bytes c.pending.wait pid sound c s m
