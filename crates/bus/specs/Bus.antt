-- What the tokens leave, and what is answered to them, in the operational state.
use Rattle.std.specs.Prelude.{ℕ, eqb, Option, None, Some}
use Rattle.choice.specs.Choice.{pick}
use Rattle.window.specs.declared.FifoNumber.{FifoNumber}
use Rattle.window.specs.Window.{fifo0}
use Rattle.event.specs.declared.BusEndpoint.{BusEndpoint}
use Rattle.sender.specs.declared.Sender.{Sender}
use Rattle.sender.specs.declared.Sent.{Sent}
use Rattle.sender.specs.declared.Sent.TheVariants as sent
use Rattle.sender.specs.Sender as sender
use Rattle.control.specs.declared.Control.{Control}
use Rattle.controlbus.specs.declared.Sent0.{Sent0}
use Rattle.controlbus.specs.declared.Sent0.TheVariants as sent0
use Rattle.controlbus.specs.Bus as zero
use Rattle.state.specs.declared.Endpoint.{Endpoint}
use Rattle.state.specs.declared.Wait.{Wait}
use Rattle.state.specs.declared.Wait.TheVariants as wait
use Rattle.state.specs.declared.Chip.{Chip}
use Rattle.state.specs.State.{sender_at, fifo_of, zero_place, awaiting_only}
use Rattle.state.specs.Set.{with_control, with_sender, with_events, with_pending, nakked_in}
use Rattle.tokens.specs.Tokens.{zero_takes, in_mask, out_mask, winner}
use Rattle.answer.specs.declared.Answer.TheVariants.{Data0, Data1, Broken, Nak, Stall}
use Rattle.answer.specs.declared.Out.{Out}
use Rattle.answer.specs.Answer.{gives, silent, packet0, packet_at}

-- something is awaited, nothing is held
unfoldable pub awaiting : Wait → Chip → Chip
awaiting w c = with_pending (awaiting_only w) c

-- "NAK and its NAKEV bit"
unfoldable pub marked_in : FifoNumber → Chip → Chip
marked_in n c = with_events (nakked_in n c.events) c

-- ---- IN

-- "In order: IGN_IN, silence. Not enabled (..), NAK and its NAKEV bit. STALL set: answer STALL, .. Else DATA0 or DATA1 by TOGGLE with all bytes
-- held; .. Then a handshake is awaited.": z is endpoint 0 before, n the chip after
abbrev pub answered_zero : Sent0 → Control → Chip → Out
answered_zero sent0.Silence z n = silent n
answered_zero sent0.Nak z n = gives (marked_in fifo0 n) Nak
answered_zero sent0.Stall z n = gives n Stall
answered_zero sent0.Data0 z n = gives (awaiting (wait.Handshake zero_place) n) (Data0 (packet0 z))
answered_zero sent0.Data1 z n = gives (awaiting (wait.Handshake zero_place) n) (Data1 (packet0 z))

unfoldable pub in_zero : Chip → Out
in_zero c = answered_zero (zero.answer_in c.control) c.control (with_control (zero.sent c.control) c)

-- "On 1, 3, 5 without LAST: a broken packet, .. Else DATA0 or DATA1 by TOGGLE with all bytes held; .. Then a handshake is awaited."
abbrev pub answered_sender : Sent → Endpoint → Sender → Chip → Out
answered_sender sent.Nak e s n = gives (marked_in (fifo_of e) n) Nak
answered_sender sent.Stall e s n = gives n Stall
answered_sender sent.Broken e s n = gives n Broken
answered_sender sent.Data0 e s n = gives (awaiting (wait.Handshake e) n) (Data0 (packet_at (fifo_of e) s))
answered_sender sent.Data1 e s n = gives (awaiting (wait.Handshake e) n) (Data1 (packet_at (fifo_of e) s))

unfoldable pub in_sender : Endpoint → Chip → Out
in_sender e c =
    answered_sender (sender.answer_in (sender_at (fifo_of e) c)) e (sender_at (fifo_of e) c) (with_sender (fifo_of e) (sender.sent (sender_at (fifo_of e) c)) c)

unfoldable pub in_at : Endpoint → Chip → Out
in_at e c = pick (eqb e.0 0) (in_zero c) (in_sender e c)

-- "the lowest-numbered of all that match takes the token. No match: silence."
abbrev pub in_by : Option Endpoint → Chip → Out
in_by None c = silent c
in_by (Some e) c = in_at e c

abbrev pub in_token : ℕ → BusEndpoint → Chip → Out
in_token address e c = in_by (winner (in_mask address e c)) c

-- ---- OUT and SETUP

-- "The endpoint is fixed at the token, the rest judged at the data" (A31); to endpoint 0 it was a token that is no SETUP
unfoldable pub out_at : Endpoint → Chip → Chip
out_at e c = pick (eqb e.0 0) (awaiting (wait.Data e) (with_control (zero.out_token c.control) c)) (awaiting (wait.Data e) c)

abbrev pub out_by : Option Endpoint → Chip → Out
out_by None c = silent c
out_by (Some e) c = silent (out_at e c)

abbrev pub out_token : ℕ → BusEndpoint → Chip → Out
out_token address e c = out_by (winner (out_mask address e c)) c

-- "SETUP only on 0."
unfoldable pub setup_token : ℕ → BusEndpoint → Chip → Out
setup_token address e c = pick (zero_takes address e c) (silent (awaiting wait.Setup c)) (silent c)
