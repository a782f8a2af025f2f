-- Which endpoint an event is for, and the events that reach every endpoint, or end what another one awaits.
use Rattle.std.specs.Prelude.{ℕ, ◌%◌, Bool, true, false, ◌&&◌, ◌||◌, not, eqb, leb, Option, None, Some}
use Rattle.choice.specs.Choice.{pick}
use Rattle.event.specs.declared.Event.{Event}
use Rattle.event.specs.declared.Event.TheVariants as event
use Rattle.epc.specs.Bits.{odd}
use Rattle.state.specs.declared.Endpoint.{Endpoint}
use Rattle.state.specs.declared.Wait.{Wait}
use Rattle.state.specs.declared.Wait.TheVariants.{Nothing, Handshake, Data, Setup}
use Rattle.state.specs.declared.Chip.{Chip}
use Rattle.state.specs.State.{Model}
use Rattle.slot.specs.Slot.{slot_of}
use Rattle.settings.specs.Settings.{operational}
use Rattle.tokens.specs.Tokens.{zero_takes, in_mask, out_mask, winner}
use Rattle.step.specs.Step.{quiet}
use Rattle.laws.specs.Place.{Place, zero, sends, receives, sending_place, receiving_place, Owner, nobody, one, is_owner, awaited}

-- "20 EPC0 .. 27 RXC0"; "EPC1 to EPC6 at 28, 2C .. 3C .. The next three addresses are TXD, TXS, TXC for 1, 3, 5 and RXD, RXS, RXC for 2, 4, 6"
unfoldable pub slot_place : ℕ → Place
slot_place a = pick (slot_of a).sends (sends (slot_of a).number) (receives (slot_of a).number)

unfoldable pub register_owner : ℕ → Owner
register_owner a = pick (leb 0x20 a && leb a 0x27) (one zero) (pick (leb 0x28 a && leb a 0x3F) (one (slot_place a)) nobody)

-- "the lowest-numbered of all that match takes the token. No match: silence."
abbrev pub in_owner : Option Endpoint → Owner
in_owner None = nobody
in_owner (Some e) = one (sending_place e)

abbrev pub out_owner : Option Endpoint → Owner
out_owner None = nobody
out_owner (Some e) = one (receiving_place e)

-- "SETUP only on 0."
unfoldable pub setup_owner : Bool → Owner
setup_owner taken = pick taken (one zero) nobody

-- "Data without token: silence."
abbrev pub data_owner : Wait → Owner
data_owner Nothing = nobody
data_owner (Handshake e) = nobody
data_owner (Data e) = one (receiving_place e)
data_owner Setup = one zero

-- whose register is accessed, who takes the token, whose data is awaited; "Bus events. Operational state only."
unfoldable pub owner : Event → Chip → Owner
owner (event.Read a) c = register_owner a
owner (event.Write a v) c = register_owner a
owner (event.In a e) c = pick (operational c) (in_owner (winner (in_mask a e c))) nobody
owner (event.Out a e) c = pick (operational c) (out_owner (winner (out_mask a e c))) nobody
owner (event.Setup a e) c = pick (operational c) (setup_owner (zero_takes a e c)) nobody
owner (event.Data pid sound) c = pick (operational c) (data_owner c.pending.wait) nobody
owner event.Ack c = nobody
owner event.Timeout c = nobody

abbrev pub is_for : Event → Chip → Place → Bool
is_for e c p = is_owner (owner e c) p

-- MCNTRL "bit 0 written 1 resets everything (H)"; NFSR "2 is operational. Writing another value clears TX_EN, LAST, RX_EN, all waits, .."
abbrev pub resets : ℕ → ℕ → Bool
resets a v = eqb a 0x00 && odd v || eqb a 0x05 && not (eqb (v % 4) 2)

-- "The wait ends at the next bus event"; of an OUT: "another bus event drops it"
abbrev pub cut : Chip → Place → Bool
cut c p = operational c && awaited p c

-- the exceptions, and no other
unfoldable pub exempt : Event → Chip → Place → Bool
exempt (event.Read a) c p = false
exempt (event.Write a v) c p = resets a v
exempt (event.In a e) c p = cut c p
exempt (event.Out a e) c p = cut c p
exempt (event.Setup a e) c p = cut c p
exempt (event.Data pid sound) c p = cut c p
exempt event.Ack c p = cut c p
exempt event.Timeout c p = cut c p

-- by an ACK or not
abbrev pub acks : Event → Bool
acks (event.Read a) = false
acks (event.Write a v) = false
acks (event.In a e) = false
acks (event.Out a e) = false
acks (event.Setup a e) = false
acks (event.Data pid sound) = false
acks event.Ack = true
acks event.Timeout = false

-- the whole state after no more than the end of what was awaited
abbrev pub quieted : Event → Model → Model
quieted e m = record { chip = quiet (acks e) m.chip; memory = m.memory }
