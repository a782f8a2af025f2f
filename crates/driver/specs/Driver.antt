-- The driver of two bulk pipes: its start, an offer and the send service. Endpoint 1 sends, endpoint 2 receives.
-- What is quoted is 01.
use Rattle.std.specs.Prelude.{ℕ, ◌+◌, ◌*◌, ◌≡◌, Bool, true, false, not, ◌&&◌, List, [], length, leb, ltb, Result, Ok, Err, ⊤}
use Rattle.choice.specs.Choice.{pick}
use Rattle.refusal.specs.Refusal.{number_of}
use Rattle.refusal.specs.declared.Refusal.{Refusal}
use Rattle.refusal.specs.declared.Refusal.TheVariants.{OutOfRange, NotWellFormed, OfferTooLong, PacketHeld}
use Rattle.event.specs.declared.BusEndpoint.{BusEndpoint}
use Rattle.epc.specs.Bits.{bit_of, has}
use Rattle.state.specs.declared.Chip.{Chip}
use Rattle.state.specs.State.{Model, reset}
use Rattle.formed.specs.Formed.{well_formed}
use Rattle.driver.specs.declared.Driver.{Driver}
use Rattle.driver.specs.declared.Did.{Did}
use Rattle.driver.specs.declared.Did.TheVariants.{Done, Nothing, Delivered, Resent}
use Rattle.driver.specs.declared.Driven.{Driven}
use Rattle.driver.specs.Registers.{written, written_all, value, seen}

-- 01's number where a call is refused, 0 where it is not
abbrev pub refused_with : Result Did Refusal → ℕ
refused_with (Ok x) = 0
refused_with (Err why) = number_of why

-- both states after a call, what it did or why it is refused, and the bytes that it took
pub record Call : Type 0 where
  pub model : Model
  pub driver : Driver
  pub did : Result Did Refusal
  pub bytes : List ℕ

abbrev pub call : Model → Driver → Result Did Refusal → Call
call m d x = record { model = m; driver = d; did = x; bytes = [] }

-- ---- start

-- "Toggles 0. The driver's state is a held mark and two toggles."; "a driver that holds nothing"
abbrev pub fresh : Driver
fresh = record { held = false; sends = false; expects = false }

-- "a in 0..127, e, f in 1..15"
unfoldable pub startable : ℕ → BusEndpoint → BusEndpoint → Bool
startable a e f = leb a 127 && (leb 1 e.0 && leb e.0 15) && (leb 1 f.0 && leb f.0 15)

-- "Start makes the reset state, then writes NFSR 2, FAR 80+a, EPC1 10+e, EPC2 10+f, RXC at 2F 01"
unfoldable pub set_up : ℕ → BusEndpoint → BusEndpoint → Model
set_up a e f = written 0x2F 0x01 (written 0x2C (0x10 + f.0) (written 0x28 (0x10 + e.0) (written 0x04 (0x80 + a) (written 0x05 2 reset))))

-- "(else 4, with the reset state and a driver that holds nothing)"
unfoldable pub started : ℕ → BusEndpoint → BusEndpoint → Call
started a e f = pick (startable a e f) (call (set_up a e f) fresh (Ok Done)) (call reset fresh (Err OutOfRange))

-- ---- offer

-- "LAST, TX_EN, toggle"; "RFF, LAST, TX_EN, same toggle": TXC has "2 TOGGLE, 0 TX_EN; .. 4 RFF, 1 LAST"
abbrev pub armed : Bool → ℕ
armed toggle = 0x03 + 4 * bit_of toggle

abbrev pub again : Bool → ℕ
again toggle = 0x13 + 4 * bit_of toggle

-- "Offer: bytes to 29, then TXC1 LAST, TX_EN, toggle; packet held."
unfoldable pub accepted : List ℕ → Model → Driver → Call
accepted bytes m d =
    call (written 0x2B (armed d.sends) (written_all 0x29 bytes m)) (record { held = true; sends = d.sends; expects = d.expects }) (Ok Done)

-- "5 before .. 6 and 7; 6 before 7": "5 state not well formed"; "6 driver offered over 64 bytes"; "7 offered while a packet is held"
unfoldable pub admission : ℕ → Chip → Driver → Result ⊤ Refusal
admission count c d =
    pick (not (well_formed c)) (Err NotWellFormed)
    (pick (ltb 64 count) (Err OfferTooLong)
    (pick d.held (Err PacketHeld)
    (Ok tt)))

-- a refusal gives "both states as given"
unfoldable pub offered_by : Result ⊤ Refusal → List ℕ → Model → Driver → Call
offered_by (Ok x) bytes m d = accepted bytes m d
offered_by (Err why) bytes m d = call m d (Err why)

unfoldable pub offered : List ℕ → Model → Driver → Call
offered bytes m d = offered_by (admission (length bytes) m.chip d) bytes m d

-- ---- send service

-- "held and TX_DONE: with ACK_STAT flip the toggle, hold nothing; without, RFF, LAST, TX_EN, same toggle"; TXS: "6 ACK_STAT, 5 TX_DONE"
unfoldable pub answered : ℕ → Model → Driver → Call
answered status m d =
    pick (d.held && has 0x20 status)
    (pick (has 0x40 status)
    (call m (record { held = false; sends = not d.sends; expects = d.expects }) (Ok Delivered))
    (call (written 0x2B (again d.sends) m) d (Ok Resent)))
    (call m d (Ok Nothing))

-- "Send service: read 2A"; "5 state not well formed"
unfoldable pub send_served : Model → Driver → Call
send_served m d = pick (not (well_formed m.chip)) (call m d (Err NotWellFormed)) (answered (value 0x2A m) (seen 0x2A m) d)

-- ---- contracts

-- a call's result, with the lent memory
pub record Calls (x : Call) (r : Driven) (memory : List ℕ) : Type 0 where
  pub chip : r.chip ≡ x.model.chip
  pub driver : r.driver ≡ x.driver
  pub did : r.did ≡ x.did
  pub bytes : memory ≡ x.model.memory
