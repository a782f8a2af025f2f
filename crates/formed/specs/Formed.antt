-- When a whole state is well formed: 01's conditions, and one value for every idle field.
use Rattle.std.specs.Prelude.{Bool, not, ◌&&◌, ◌||◌, eqb, ltb}
use Rattle.control.specs.State as control
use Rattle.sender.specs.Sender as sender
use Rattle.receiver.specs.Receiver as receiver
use Rattle.state.specs.declared.Endpoint.{Endpoint}
use Rattle.state.specs.declared.Wait.{Wait}
use Rattle.state.specs.declared.Wait.TheVariants.{Nothing, Handshake, Data, Setup}
use Rattle.state.specs.declared.Pending.{Pending}
use Rattle.state.specs.declared.Chip.{Chip}
use Rattle.state.specs.State.{sender_at, receiver_at}
use Rattle.settings.specs.Settings.{operational}
use Rattle.window.specs.Window.{numbered}

-- "at most one endpoint awaiting a handshake (0, 1, 3, 5) or data (0, 2, 4, 6; ..)": one at most, and not both, by the shape of `Wait`
unfoldable pub sends : Endpoint → Bool
sends e = eqb e.0 0 || eqb e.0 1 || eqb e.0 3 || eqb e.0 5

unfoldable pub receives : Endpoint → Bool
receives e = eqb e.0 0 || eqb e.0 2 || eqb e.0 4 || eqb e.0 6

-- nothing held, and the idle byte 0
unfoldable pub unheld : Pending → Bool
unheld p = not p.holds && not p.flush && eqb p.held 0

-- beside a handshake that an endpoint awaits: a flush, which is RXC0's, only beside endpoint 0's; a byte, else the idle one
unfoldable pub flush_beside : Endpoint → Pending → Bool
flush_beside e p = not p.flush || eqb e.0 0

unfoldable pub held_beside : Endpoint → Pending → Bool
held_beside e p = (p.holds || eqb p.held 0) && flush_beside e p

-- "a held command byte or flush only where a handshake is awaited; outside the operational state .. nothing awaited"
unfoldable pub pending_for : Wait → Bool → Pending → Bool
pending_for Nothing operational p = unheld p
pending_for (Handshake e) operational p = operational && sends e && held_beside e p
pending_for (Data e) operational p = operational && receives e && unheld p
pending_for Setup operational p = operational && unheld p

abbrev pub pending_well : Bool → Pending → Bool
pending_well operational p = pending_for p.wait operational p

-- "levels within size; read - saved at most 64, and 0 while LAST is set; reserved bits 0; .. outside the operational state no TX_EN, RX_EN or
-- LAST": the three endpoints that send, the three that receive
unfoldable pub senders_well : Bool → Chip → Bool
senders_well operational c =
    sender.well_formed operational (sender_at (numbered 1) c)
    && sender.well_formed operational (sender_at (numbered 2) c)
    && sender.well_formed operational (sender_at (numbered 3) c)

unfoldable pub receivers_well : Bool → Chip → Bool
receivers_well operational c =
    receiver.well_formed operational (receiver_at (numbered 1) c)
    && receiver.well_formed operational (receiver_at (numbered 2) c)
    && receiver.well_formed operational (receiver_at (numbered 3) c)

-- "reserved bits 0": NFSR has bits 1..0, FAR's address bits 6..0
unfoldable pub registers_well : Chip → Bool
registers_well c = ltb c.nfsr 4 && ltb c.address 128

-- "Well formed: .."
unfoldable pub well_formed : Chip → Bool
well_formed c =
    control.well_formed (operational c) c.control
    && senders_well (operational c) c
    && receivers_well (operational c) c
    && registers_well c
    && pending_well (operational c) c.pending
