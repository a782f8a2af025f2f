-- One event on the whole chip. "Operational state only" is said of all bus events; outside it they are silence and change nothing.
use Rattle.std.specs.Prelude.{ℕ, Bool, true, false, List, eqb}
use Rattle.choice.specs.Choice.{pick}
use Rattle.event.specs.declared.BusEndpoint.{BusEndpoint}
use Rattle.event.specs.declared.Event.{Event}
use Rattle.event.specs.declared.Event.TheVariants as event
use Rattle.state.specs.declared.Chip.{Chip}
use Rattle.reads.specs.Read.{read_of}
use Rattle.settings.specs.Settings.{operational}
use Rattle.writes.specs.Write.{write_of, bytes_of}
use Rattle.answer.specs.declared.Out.{Out}
use Rattle.answer.specs.declared.Answer.TheVariants.{Value}
use Rattle.answer.specs.Answer.{gives, silent}
use Rattle.ends.specs.Ends.{ended, dropped}
use Rattle.data.specs.Data.{data_now, data_now_bytes}
use Rattle.bus.specs.Bus.{in_token, out_token, setup_token}

-- "The wait ends at the next bus event; one that isn't ACK is then handled itself"; of awaited data: "another bus event drops it"
unfoldable pub quiet : Bool → Chip → Chip
quiet acked c = dropped (ended acked c)

unfoldable pub read_step : ℕ → Chip → List ℕ → Out
read_step a c m = gives (read_of a c m).chip (Value (read_of a c m).value)

unfoldable pub write_step : ℕ → ℕ → Chip → Out
write_step a v c = silent (write_of a v c)

unfoldable pub in_step : ℕ → BusEndpoint → Chip → Out
in_step a e c = pick (operational c) (in_token a e (quiet false c)) (silent c)

unfoldable pub out_step : ℕ → BusEndpoint → Chip → Out
out_step a e c = pick (operational c) (out_token a e (quiet false c)) (silent c)

unfoldable pub setup_step : ℕ → BusEndpoint → Chip → Out
setup_step a e c = pick (operational c) (setup_token a e (quiet false c)) (silent c)

-- data ends a wait for a handshake, and is what an OUT or a SETUP awaits
unfoldable pub data_step : Bool → Bool → List ℕ → Chip → Out
data_step pid sound s c = pick (operational c) (data_now pid sound (ended false c) s) (silent c)

unfoldable pub data_step_bytes : Bool → Bool → List ℕ → Chip → List ℕ → List ℕ
data_step_bytes pid sound s c m = pick (operational c) (data_now_bytes pid sound (ended false c) s m) m

-- host ACK and timeout: nothing but the end of what was awaited
unfoldable pub end_step : Bool → Chip → Out
end_step acked c = pick (operational c) (silent (quiet acked c)) (silent c)

-- the chip and the answer after an event with its payload
unfoldable pub step_of : Event → List ℕ → Chip → List ℕ → Out
step_of (event.Read a) s c m = read_step a c m
step_of (event.Write a v) s c m = write_step a v c
step_of (event.In a e) s c m = in_step a e c
step_of (event.Out a e) s c m = out_step a e c
step_of (event.Setup a e) s c m = setup_step a e c
step_of (event.Data pid sound) s c m = data_step (eqb pid 1) (eqb sound 1) s c
step_of event.Ack s c m = end_step true c
step_of event.Timeout s c m = end_step false c

-- the lent memory after it
unfoldable pub step_bytes : Event → List ℕ → Chip → List ℕ → List ℕ
step_bytes (event.Read a) s c m = m
step_bytes (event.Write a v) s c m = bytes_of a v c m
step_bytes (event.In a e) s c m = m
step_bytes (event.Out a e) s c m = m
step_bytes (event.Setup a e) s c m = m
step_bytes (event.Data pid sound) s c m = data_step_bytes (eqb pid 1) (eqb sound 1) s c m
step_bytes event.Ack s c m = m
step_bytes event.Timeout s c m = m
